-- Half as many cells as lines in each column.
use Rattle.std.proofs.Common.{arith}
use Rattle.halving.specs.Counts.{cells_few, outer_few}
use Rattle.halving.proofs.Sizes.{cells_shift}
use Rattle.halving.proofs.levels.Level.cells.Goals as goal

pub returns : goal.returns
returns g c =
    let w = g.F.OuterColumns.OUTER in
    let k = c.args.self.depth in
    let e = cells_shift w k c.columns.result c.args.self.small c.columns.ensures.count (omega arith) in
    record { count = e; few = omega (arith, cells_few w k (outer_few g.F.OuterColumns.counted) c.args.self.small) }
