use Rattle.std.proofs.Common.{ℕ, sym, ap, ◌∙◌, arith}
use Rattle.sheets.specs.Checking.{Unfitting}
use Rattle.sheets.proofs.Refusals.{unrefused}
use Rattle.sheets.proofs.check_pairs.Goals as goal

pub returns-in_err-place : goal.returns-in_err-place
returns-in_err-place g c =
    absurd
    (unrefused (g.C.Card.meaning c.args.card.now) c.args.sheet.now c.loop-input.input c.columns-columns.result c.in_err-place.field-0.0
    (record { lawful = c.requires; input = omega (arith, c.lines-lines.ensures); reached = omega (arith, c.columns-columns.ensures) })
    c.in_err-place.ensures)

pub returns-then-place-output : goal.returns-then-place-output
returns-then-place-output g c =
    λ holds keeps.
    rw c.refusal.ensures
    (Unfitting.wrong_pair c.requires keeps c.loop-input.input
    (record {
      inside = omega (arith, c.lines-lines.ensures);
      busy = λ z. c.in-Some.ensures.1 (sym c.in-Some.ensures.0 ∙ z);
      elsewhere =
          λ z.
          c.if-place-output.true
          (c.in_ok-place.ensures.1
          ∙ ap (λ (s : ℕ). (g.C.Card.meaning c.args.card.now).place c.args.sheet.now c.loop-input.input s) c.columns-columns.ensures
          ∙ z
          ∙ c.in-Some.ensures.0);
      lowest = c.loop-input.invariant;
    }))
