use Rattle.std.proofs.Common.{rules, ℕ, sym, refl, ◌∙◌, subst, inl, inr, arith, length, take}
use Rattle.std.proofs.lemmas.List.{get_or_default}
use Rattle.card.specs.Plans.{Unplannable, Taken, Free}
use Rattle.card.proofs.Filling.{fine_more, taken_part, free_part}
use Rattle.card.proofs.plan.Plan.fill.Goals as goal
use Rattle.card.proofs.plan.Plan.fill.Goals.{then-output+else-output-lines+else-contains, else-output, then-lines-lt2-via-then-lines-lt2, then-lines-lt2-via-else-lines-lt2+then-lines-gt16}

pub returns-then-lines-lt2 : goal.returns-then-lines-lt2
returns-then-lines-lt2 c = (
  Unplannable.wrong_length
      (λ s.
      elim c.then-lines-lt2.branch [
        | then-lines-lt2-via-then-lines-lt2 w ↦ omega (arith, s.some, w.if-lines-lt2.true)
        | then-lines-lt2-via-else-lines-lt2+then-lines-gt16 w ↦ omega (arith, s.few, w.if-lines-gt16.true)
      ]),
  refl,
)

pub returns-then-output-lines : goal.returns-then-output-lines
returns-then-output-lines c =
    let e = get_or_default c.args.pairs.now c.loop-i.i 0 255 c.loop-i-test.true in (
      Unplannable.no_output (record { some = c.if-lines-lt2.false; few = c.if-lines-gt16.false }) c.loop-i.i c.loop-i-test.true c.loop-i.invariant (λ z. c.if-output.true (e ∙ z)) (omega arith),
      refl,
    )

pub returns-then-contains : goal.returns-then-contains
returns-then-contains c =
    let e = get_or_default c.args.pairs.now c.loop-i.i 0 255 c.loop-i-test.true in
    let t : Taken (length (take c.loop-i.i c.args.pairs.now)) (take c.loop-i.i c.args.pairs.now) _ = search rules in (
      Unplannable.used_output (record { some = c.if-lines-lt2.false; few = c.if-lines-gt16.false }) c.loop-i.i c.loop-i-test.true c.loop-i.invariant (λ z. c.if-output.true (e ∙ z)) (omega arith)
          (subst (λ (x : ℕ). Taken c.loop-i.i c.args.pairs.now x) e (taken_part c.args.pairs.now c.loop-i.i _ c.loop-i-test.true t)),
      refl,
    )

pub loop-i-preserved : goal.loop-i-preserved
loop-i-preserved c =
    let e = get_or_default c.args.pairs.now c.loop-i.i 0 255 c.loop-i-test.true in
    fine_more (length c.args.pairs.now) c.args.pairs.now c.loop-i.i c.loop-i.invariant
    (elim c.if-output.branch [
      | then-output+else-output-lines+else-contains w ↦ inr (omega (arith, w.if-output-lines.false), subst (λ (x : ℕ). Free c.loop-i.i c.args.pairs.now x) e (free_part c.args.pairs.now c.loop-i.i _ c.loop-i-test.true (search rules)))
      | else-output w ↦ inl (sym e ∙ w.if-output.false)
    ])
