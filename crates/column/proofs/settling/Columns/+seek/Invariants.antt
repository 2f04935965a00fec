-- The recursion falls by a column; the loop has tried the positions below its own.
use Rattle.std.proofs.Common.{ℕ, ◌-◌, ◌<◌, List, ◌∷◌, length, drop}
use Rattle.card.specs.Settling.{Fits}
use Rattle.column.specs.Passing.{column_card}
use Rattle.column.proofs.settling.Columns.+seek.Given as goal

abbrev pub decreases-seek : goal.decreases-seek
decreases-seek g l = l.self.now.last

-- no setting fits whose first cell stands at a position tried so far
abbrev pub invariant-loop-position : goal.invariant-loop-position
invariant-loop-position g l = (k : ℕ) → k < l.position → (ks : List ℕ) → Fits (column_card g.F.Leaders.lead l.self.last) l.outputs (drop (length l.holds - l.self.last) l.holds) (k ∷ ks) → ⊥
