-- The place at no column, on a lone cell, in the halves and past them.
use Rattle.std.proofs.Common.{◌*◌, sym, ap, arith}
use Rattle.halving.specs.Steps.{place_start, place_lone}
use Rattle.halving.proofs.Sheets.{placed_inside, placed_past}
use Rattle.halving.proofs.places.+place_after.Goals as goal

pub returns-then-passed-eq0-clause-place : goal.returns-then-passed-eq0-clause-place
returns-then-passed-eq0-clause-place g t c = rw c.if-passed-eq0.true (sym (place_start g.F.OuterColumns.OUTER c.args.level.depth c.args.setting.now c.args.input))

pub returns-in_default-clause-place : goal.returns-in_default-clause-place
returns-in_default-clause-place g t c = place_lone g.F.OuterColumns.OUTER c.args.level.depth c.args.passed c.args.setting.now c.args.input c.in_default.ensures c.if-passed-eq0.false

pub returns-then-passed-columns-clause-place : goal.returns-then-passed-columns-clause-place
returns-then-passed-columns-clause-place g t c =
    placed_inside g.F.OuterColumns.OUTER c.in-Some.half.depth c.args.setting.now c.args.input c.place_after.result c.args.level.depth c.lines-lines.result c.cells-cells.result (c.OUTER.result * c.lines-lines.result) c.args.passed
    c.in-Some.ensures c.lines-lines.ensures.count c.cells-cells.ensures.count (ap (λ w. w * c.lines-lines.result) c.OUTER.ensures) c.if-passed-eq0.false (omega arith) c.place_after.ensures.place

pub returns-else-passed-columns-clause-place : goal.returns-else-passed-columns-clause-place
returns-else-passed-columns-clause-place g t c =
    placed_past g.F.OuterColumns.OUTER c.in-Some.half.depth c.args.setting.now c.args.input c.place_after-line.result c.args.level.depth c.lines-lines.result c.cells-cells.result (c.OUTER.result * c.lines-lines.result) c.columns-columns.result c.args.passed
    c.in-Some.ensures c.lines-lines.ensures.count c.cells-cells.ensures.count (ap (λ w. w * c.lines-lines.result) c.OUTER.ensures) c.columns-columns.ensures.count (omega arith) c.place_after-line.ensures.place
