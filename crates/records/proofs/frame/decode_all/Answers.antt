use Rattle.std.proofs.Common.{ℕ, List, take, length, ap, ◌∙◌, Bor, inl, inr, subst, arith}
use Rattle.records.proofs.Bodies.{SoFar, left_more, left_short, one_more, none_more, framed}
use Rattle.records.proofs.frame.decode_all.Goals as goal
use Rattle.records.proofs.frame.decode_all.Goals.{in-Some, in_default}

pub loop-i-preserved : goal.loop-i-preserved
loop-i-preserved c =
    elim c.match-split_first_chunk.branch [
      | in-Some w ↦
          let more = left_more c.args.body.now c.loop-i.i c.loop-i.rest.now c.loop-i.invariant.1 (omega (arith, w.in-Some.ensures.cases.2)) in
          (rw w.frames-is (one_more c.args.body.now c.loop-i.i c.loop-i.frames (omega arith) c.loop-i.invariant.0 w.decode.result more.2 w.decode.ensures.typed (w.decode.ensures.value ∙ w.in-Some.ensures.cases.0 ∙ ap (λ (l : List ℕ). take 11 l) more.0)), inl (ap (λ (r : Bor (List ℕ)). r.now) w.rest-is ∙ w.in-Some.ensures.cases.1 ∙ more.1))
      | in_default w ↦
          let short = left_short c.args.body.now c.loop-i.i c.loop-i.rest.now c.loop-i.invariant.1 w.in_default.ensures.cases in (
            rw w.frames-is (none_more c.args.body.now c.loop-i.i c.loop-i.frames (omega arith) c.loop-i.invariant.0 short),
            inr (omega (arith, w.in_default.ensures.cases, ap (λ (r : Bor (List ℕ)). length r.now) w.rest-is), omega (arith, short)),
          )
    ]

pub returns : goal.returns
returns c = framed c.args.body.now c.loop-i.frames (subst (λ (n : ℕ). SoFar c.args.body.now n c.loop-i.frames) (omega arith) c.loop-i.invariant.0)
