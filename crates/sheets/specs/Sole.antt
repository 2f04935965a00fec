-- The only value of which something holds.
use Rattle.std.specs.Prelude.{◌≡◌}

-- it holds of this one, and of no other
pub record Sole {A : Type 0} (P : A → Type 0) (a : A) : Type 0 where
  pub holds : P a
  pub only : (b : A) → P b → b ≡ a
