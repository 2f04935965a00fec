-- What a column at a position does to the lines.
use Rattle.std.specs.Prelude.{◌≡◌, ℕ, zero, suc, ◌-◌, ◌<◌, ◌≤◌, ◌≢◌, refl}
use Rattle.std.proofs.Common.{ap, arith}
use Rattle.column.specs.Leading.{Leading}
use Rattle.column.specs.Passing.{turned}

-- position 0, and a position above 0
pub turned_none : (lead : ℕ → ℕ → ℕ → ℕ) (k j p : ℕ) → k ≡ 0 → p ≡ turned lead k j p
turned_none lead zero j p e = refl
turned_none lead (suc t) j p e = absurd (omega arith)

pub turned_some : (lead : ℕ → ℕ → ℕ → ℕ) (k j p : ℕ) → (k ≢ 0) → lead (k - 1) j p ≡ turned lead k j p
turned_some lead zero j p e = absurd (e refl)
turned_some lead (suc t) j p e = let z : suc t - 1 ≡ t = omega arith in ap (λ (x : ℕ). lead x j p) z

-- each position of column j is one-to-one, and leaves the lines above j in place
module _ (lead : ℕ → ℕ → ℕ → ℕ) (law : Leading lead) where
  pub turned_apart : (k j p q : ℕ) → k ≤ j → turned lead k j p ≡ turned lead k j q → p ≡ q
  turned_apart zero j p q h e = e
  turned_apart (suc t) j p q h e = law.apart t j p q (omega arith) e

  pub turned_above : (k j p : ℕ) → k ≤ j → j < p → turned lead k j p ≡ p
  turned_above zero j p h a = refl
  turned_above (suc t) j p h a = law.above t j p (omega arith) a
