-- Each call falls by half a level; the loop has tried the outer columns before its own.
use Rattle.std.proofs.Common.{◌+◌, ◌*◌}
use Rattle.halving.proofs.Search.{Past}
use Rattle.halving.proofs.settling.+search.Given as goal

abbrev pub decreases-settle_halves : goal.decreases-settle_halves
decreases-settle_halves g l = 2 * l.half.depth + 1

abbrev pub decreases-settle_level : goal.decreases-settle_level
decreases-settle_level g l = 2 * l.level.depth

abbrev pub invariant-settle_halves-loop-n : goal.invariant-settle_halves-loop-n
invariant-settle_halves-loop-n g l = Past g.F.OuterColumns.OUTER l.half.depth l.n l.pairs l.holds
