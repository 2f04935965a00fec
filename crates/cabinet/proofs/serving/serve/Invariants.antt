use Rattle.std.proofs.Common.{take, vec_items}
use Rattle.cabinet.proofs.Entries.{SoFar}
use Rattle.cabinet.proofs.serving.serve.Given as goal

-- the commands so far, with their replies, are in the log
abbrev pub invariant-loop-command : goal.invariant-loop-command
invariant-loop-command g l = SoFar g.C.Card.meaning l.initial.cabinet.card (take l.command-index l.commands) (vec_items l.replies) l.cabinet
