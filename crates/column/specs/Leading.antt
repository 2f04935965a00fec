-- What a family of leaders owes.
use Rattle.std.specs.Prelude.{◌≡◌, ℕ, ◌<◌}

-- the leader of column j with a target t below j: no two lines go to one line, the lines above j stay, and j goes to t
pub record Leading (lead : ℕ → ℕ → ℕ → ℕ) : Type 0 where
  pub apart : (t j p q : ℕ) → t < j → lead t j p ≡ lead t j q → p ≡ q
  pub above : (t j p : ℕ) → t < j → j < p → lead t j p ≡ p
  pub sends : (t j : ℕ) → t < j → lead t j j ≡ t
