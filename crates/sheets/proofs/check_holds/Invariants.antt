use Rattle.std.proofs.Common.{ℕ, ◌<◌}
use Rattle.sheets.specs.Checking.{KeptAt}
use Rattle.sheets.proofs.check_holds.Given as goal

-- the cells read so far stand at their holds
abbrev pub invariant-loop-cell : goal.invariant-loop-cell
invariant-loop-cell g l = (d : ℕ) → d < l.cell → KeptAt l.holds l.sheet d
