-- The columns of the two halves, and the outer ones, at each level.
use Rattle.halving.proofs.Sizes.{columns_product}
use Rattle.halving.proofs.levels.Level.columns.Goals as goal

pub returns-clause-count : goal.returns-clause-count
returns-clause-count g c = rw c.OUTER.ensures (columns_product g.F.OuterColumns.OUTER c.args.self.depth)
