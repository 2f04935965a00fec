-- The first position that fits, or none.
use Rattle.std.proofs.Common.{arith, below_more}
use Rattle.halving.proofs.Single.{lone_none, lone_first}
use Rattle.halving.proofs.lone.settle_cell.Goals as goal

pub returns-then-cell_fits : goal.returns-then-cell_fits
returns-then-cell_fits c w =
    lone_first w c.loop-position.position c.args.pairs.now c.args.holds.now c.loop-position.setting (omega arith) (c.if-cell_fits.ensures w) (c.loop-position.invariant w)

pub loop-position-preserved : goal.loop-position-preserved
loop-position-preserved c w = below_more _ _ (c.loop-position.invariant w) (c.if-cell_fits.ensures w)

pub returns : goal.returns
returns c w = lone_none w c.loop-position.position c.args.pairs.now c.args.holds.now c.loop-position-test.false (c.loop-position.invariant w)
