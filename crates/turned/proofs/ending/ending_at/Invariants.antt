-- The search for the input that ends at an output.
use Rattle.std.proofs.Common.{◌≡◌, ℕ, ◌<◌}
use Rattle.turned.proofs.ending.ending_at.Given as goal

-- none of the inputs read so far ends there
abbrev pub invariant-loop-input : goal.invariant-loop-input
invariant-loop-input g l = (k : ℕ) → k < l.input → (g.C.Card.meaning l.card).place l.setting k (g.C.Card.meaning l.card).columns ≡ l.output → ⊥
