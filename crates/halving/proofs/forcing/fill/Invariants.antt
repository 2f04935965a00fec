-- The free cells read so far stand at 0.
use Rattle.std.proofs.Common.{◌≡◌, ℕ, ◌<◌, ◌≤◌, slice_index, ◌≢◌, List}
use Rattle.card.specs.Settling.{none}
use Rattle.halving.proofs.forcing.fill.Given as goal

-- the cells before d are filled, and the others are as they were
pub record Filled (d : ℕ) (before after : List ℕ) : Type 0 where
  pub free : (c : ℕ) → c < d → slice_index before c ≡ none → slice_index after c ≡ 0
  pub busy : (c : ℕ) → c < d → (slice_index before c ≢ none) → slice_index after c ≡ slice_index before c
  pub rest : (c : ℕ) → d ≤ c → slice_index after c ≡ slice_index before c

abbrev pub invariant-loop-cell : goal.invariant-loop-cell
invariant-loop-cell l = Filled l.cell-index l.initial.cell-items l.cell-items
