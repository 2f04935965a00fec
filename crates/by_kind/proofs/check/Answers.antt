use Rattle.std.proofs.Common.{ℕ, ◌-◌, subst, arith}
use Rattle.std.proofs.lemmas.Result.{err_from_is_err_and}
use Rattle.card.specs.PlanPairs.{pairs_of}
use Rattle.kinds.specs.Kinds.{built_meaning}
use Rattle.kinds.specs.Soundness.{built_sound}
use Rattle.by_kind.specs.Planning.{PlanFine, PlanBroken}
use Rattle.by_kind.specs.Answering.{SheetAnswer}
use Rattle.by_kind.proofs.Only.{the_sheet}
use Rattle.by_kind.proofs.Rooms.{sheet_unsettled, sheet_checked}
use Rattle.by_kind.proofs.check.Goals as goal

pub returns-in_err-card : goal.returns-in_err-card
returns-in_err-card c =
    let p = err_from_is_err_and c.from_residual.result c.from_residual.ensures.1 in
    the_sheet _ _ _ _ _ _ (rw (p.1, p.2, c.in_err-card.ensures.1) (SheetAnswer.unknown c.in_err-card.ensures.0))

pub returns-in_err-plan : goal.returns-in_err-plan
returns-in_err-plan c =
    let p = err_from_is_err_and c.from_residual-in_err-plan.result c.from_residual-in_err-plan.ensures.1 in
    the_sheet _ _ _ _ _ _
    (rw (p.1, p.2)
    (SheetAnswer.unplanned (built_meaning c.in_ok-card.card) _ c.in_ok-card.ensures
    (subst (λ (n : ℕ). PlanBroken n c.args.pairs.now c.in_err-plan.field-0.0) c.lines.ensures c.in_err-plan.ensures)))

pub slice_bounds-table-end : goal.slice_bounds-table-end
slice_bounds-table-end c = omega (arith, c.cells-cells.ensures, (built_sound c.in_ok-card.card).few_cells)

pub returns-in_err-settle : goal.returns-in_err-settle
returns-in_err-settle c =
    let p = err_from_is_err_and c.from_residual-in_err-settle.result c.from_residual-in_err-settle.ensures.1 in
    the_sheet _ _ _ _ _ _
    (rw (p.1, p.2)
    (sheet_unsettled c.args.name.kind c.args.name.lines (built_meaning c.in_ok-card.card) c.in_ok-card.ensures c.args.pairs.now c.args.holds.now c.args.sheet.now
    (subst (λ (n : ℕ). PlanFine n c.args.pairs.now) c.lines.ensures c.in_ok-plan.ensures.0)
    (c.cells-cells.result - 0) (omega (arith, c.cells-cells.ensures)) (built_sound c.in_ok-card.card).few_cells (pairs_of c.in_ok-plan.plan) c.in_ok-plan.ensures.1
    c.in_err-settle.field-0.0 c.in_err-settle.ensures.0))

pub returns : goal.returns
returns c =
    the_sheet _ _ _ _ _ _
    (sheet_checked c.args.name.kind c.args.name.lines (built_meaning c.in_ok-card.card) c.in_ok-card.ensures c.args.pairs.now c.args.holds.now c.args.sheet.now
    (subst (λ (n : ℕ). PlanFine n c.args.pairs.now) c.lines.ensures c.in_ok-plan.ensures.0)
    (c.cells-cells.result - 0) (omega (arith, c.cells-cells.ensures)) (built_sound c.in_ok-card.card).few_cells (pairs_of c.in_ok-plan.plan) c.in_ok-plan.ensures.1
    c.settle.new.setting _ c.check.result c.settle.auto.setting c.in_ok-settle.ensures c.check.ensures)
