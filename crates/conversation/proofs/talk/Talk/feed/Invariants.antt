use Rattle.std.proofs.Common.{take, vec_items}
use Rattle.conversation.specs.Talking.{Hears}
use Rattle.conversation.proofs.talk.Talk.feed.Given as goal

-- the bytes so far have been heard
abbrev pub invariant-loop-byte : goal.invariant-loop-byte
invariant-loop-byte l = Hears (take l.byte-index l.piece) (vec_items l.initial.out) l.initial.self (vec_items l.out) l.self
