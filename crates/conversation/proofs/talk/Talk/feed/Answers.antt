use Rattle.std.proofs.Common.{ℕ, List, ◌++◌, take, vec_items, sym, subst}
use Rattle.std.proofs.lemmas.List.{take_all, take_more}
use Rattle.conversation.specs.Talking.{Heard}
use Rattle.conversation.proofs.HearingOn.{both}
use Rattle.conversation.proofs.talk.Talk.feed.Goals as goal

pub loop-byte-preserved : goal.loop-byte-preserved
loop-byte-preserved c heard drained old =
    subst (λ (x : List ℕ). Heard x (drained ++ vec_items c.hear.new.out) c.hear.new.self) (sym (both heard c.args.piece.now c.loop-byte.byte-index _ (take_more c.args.piece.now c.loop-byte.byte-index 0 c.loop-byte-test.true)))
    (c.in_ok-hear.ensures.heard (heard ++ take c.loop-byte.byte-index c.args.piece.now) drained (c.loop-byte.invariant heard drained old))

pub returns : goal.returns
returns c heard drained old =
    subst (λ (x : List ℕ). Heard (heard ++ x) (drained ++ vec_items c.loop-byte.out) c.loop-byte.self) (take_all c.loop-byte.byte-index c.args.piece.now c.loop-byte-test.false) (c.loop-byte.invariant heard drained old)
