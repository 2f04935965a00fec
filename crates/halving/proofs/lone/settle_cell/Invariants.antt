-- No position tried so far fits.
use Rattle.std.proofs.Common.{ℕ, ◌<◌, [], ◌∷◌}
use Rattle.card.specs.Settling.{Fits}
use Rattle.halving.specs.Halving.{halving}
use Rattle.halving.proofs.lone.settle_cell.Given as goal

abbrev pub invariant-loop-position : goal.invariant-loop-position
invariant-loop-position l = (w p : ℕ) → p < l.position → Fits (halving w 0) l.pairs l.holds (p ∷ []) → ⊥
