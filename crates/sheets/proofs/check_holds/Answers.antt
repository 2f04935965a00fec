use Rattle.std.proofs.Common.{◌<◌, sym, ◌∙◌, arith}
use Rattle.std.proofs.lemmas.List.{get_or-take, length-take-le}
use Rattle.sheets.specs.Checking.{Unfitting}
use Rattle.sheets.proofs.check_holds.Goals as goal

pub returns-then-position-hold : goal.returns-then-position-hold
returns-then-position-hold g c =
    let n = length-take-le c.cells.result c.args.sheet.now (omega (arith, c.cells.ensures)) in
    let within : c.loop-cell.cell < c.cells.result = omega (arith, n, c.loop-cell-test.true) in
    λ pairs lawful.
    rw c.refusal.ensures
    (Unfitting.wrong_hold lawful c.loop-cell.cell
    (record {
      inside = omega (arith, c.cells.ensures, within);
      held = λ z. c.in-Some.ensures.1 (sym c.in-Some.ensures.0 ∙ z);
      differs = λ z. c.if-position-hold.true (get_or-take c.cells.result c.args.sheet.now c.loop-cell.cell 0 within ∙ (z ∙ c.in-Some.ensures.0));
      lowest = c.loop-cell.invariant;
    }))
