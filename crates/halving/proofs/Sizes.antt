-- The counts of a card as the code computes them.
use Rattle.std.proofs.Common.{◌≡◌, ℕ, zero, suc, ◌+◌, ◌*◌, ◌%◌, ◌^◌, ◌<◌, arith}
use Rattle.halving.specs.Halving.{lines_at, cells_at, columns_at}

pub lines_shift : (k : ℕ) → k < 4 → 2 * 2 ^ k % 2 ^ 64 ≡ lines_at k
lines_shift zero h = omega arith
lines_shift (suc zero) h = omega arith
lines_shift (suc (suc zero)) h = omega arith
lines_shift (suc (suc (suc zero))) h = omega arith
lines_shift (suc (suc (suc (suc k)))) h = absurd (omega arith)

pub columns_product : (w k : ℕ) → w * k + 1 ≡ columns_at w k
columns_product w zero = omega arith
columns_product w (suc k) = grind (arith, columns_product w k)

pub cells_shift : (w k n : ℕ) → k < 4 → n ≡ columns_at w k → n < 8 → n * 2 ^ k % 2 ^ 64 ≡ cells_at w k
cells_shift w zero n h e p = omega arith
cells_shift w (suc zero) n h e p = omega arith
cells_shift w (suc (suc zero)) n h e p = omega arith
cells_shift w (suc (suc (suc zero))) n h e p = omega arith
cells_shift w (suc (suc (suc (suc k)))) n h e p = absurd (omega arith)
