-- The pairs that are left for the columns before, input by input.
use Rattle.std.proofs.Common.{◌≡◌, ℕ, ◌<◌, ◌≤◌, List, length, get_or}
use Rattle.card.specs.Settling.{none}
use Rattle.column.specs.Serving.{Back}
use Rattle.column.proofs.settling.Columns.pull.Given as goal

-- the inputs read so far are pulled back, and the others stand idle
pub record Pulling (lead : ℕ → ℕ → ℕ → ℕ) (position column i : ℕ) (outputs rest : List ℕ) : Type 0 where
  pub size : length rest ≡ 16
  pub done : (d : ℕ) → d < i → Back lead position column (get_or outputs d 0) (get_or rest d 0)
  pub idle : (d : ℕ) → i ≤ d → d < 16 → get_or rest d 0 ≡ none

abbrev pub invariant-loop-i : goal.invariant-loop-i
invariant-loop-i g l = Pulling g.F.Leaders.lead l.position l.self.last l.i l.fn.outputs l.rest
