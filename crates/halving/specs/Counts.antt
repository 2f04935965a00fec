-- The counts of a halving card, and its halves as parts of it.
use Rattle.std.specs.Prelude.{◌≡◌, ℕ, zero, suc, ◌+◌, ◌*◌, ◌<◌, ◌≤◌, ◌⊎◌, List, length, slice_index_or, refl}
use Rattle.std.proofs.Common.{inl, inr, arith, length-take, length-drop, get_or-drop, get_or-take}
use Rattle.card.specs.Meaning.{Lawful}
use Rattle.halving.specs.Halving.{lines_at, cells_at, columns_at, half, side, halving, OneOrTwo}

pub lines_some : (k : ℕ) → 2 ≤ lines_at k
lines_some zero = omega arith
lines_some (suc k) = omega (arith, lines_some k)

pub cells_some : (w k : ℕ) → 1 ≤ cells_at w k
cells_some w zero = omega arith
cells_some w (suc k) = omega (arith, cells_some w k)

pub columns_some : (w k : ℕ) → 1 ≤ columns_at w k
columns_some w zero = omega arith
columns_some w (suc k) = omega (arith, columns_some w k)

pub lines_few : (k : ℕ) → k < 4 → lines_at k ≤ 16
lines_few zero h = omega arith
lines_few (suc zero) h = omega arith
lines_few (suc (suc zero)) h = omega arith
lines_few (suc (suc (suc zero))) h = omega arith
lines_few (suc (suc (suc (suc k)))) h = omega arith

pub cells_few : (w k : ℕ) → w ≤ 2 → k < 4 → cells_at w k ≤ 56
cells_few w zero n h = omega arith
cells_few w (suc zero) n h = omega arith
cells_few w (suc (suc zero)) n h = omega arith
cells_few w (suc (suc (suc zero))) n h = omega arith
cells_few w (suc (suc (suc (suc k)))) n h = omega arith

pub outer_some : {w : ℕ} → OneOrTwo w → 1 ≤ w
outer_some (inl e) = omega arith
outer_some (inr e) = omega arith

pub outer_few : {w : ℕ} → OneOrTwo w → w ≤ 2
outer_few (inl e) = omega arith
outer_few (inr e) = omega arith

pub columns_few : (w k : ℕ) → w ≤ 2 → k < 4 → columns_at w k ≤ 7
columns_few w zero n h = omega arith
columns_few w (suc zero) n h = omega arith
columns_few w (suc (suc zero)) n h = omega arith
columns_few w (suc (suc (suc zero))) n h = omega arith
columns_few w (suc (suc (suc (suc k)))) n h = omega arith

pub bit_cases : (b : ℕ) → b < 2 → (b ≡ 0) ⊎ (b ≡ 1)
bit_cases zero h = inl refl
bit_cases (suc zero) h = inr refl
bit_cases (suc (suc b)) h = absurd (omega arith)

pub bit_mul : (b m : ℕ) → b < 2 → b * m ≤ m
bit_mul b m p = elim (bit_cases b p) [ inl e ↦ rw e (omega arith) | inr e ↦ rw e (omega arith) ]

pub side_below : (l : List ℕ) (i : ℕ) → side l i < 2
side_below l i = omega arith

module _ (w k : ℕ) where
  -- half b ends within the card
  pub half_ends : (b : ℕ) → b < 2 → w * lines_at k + b * cells_at w k + cells_at w k ≤ cells_at w (suc k)
  half_ends b h = elim (bit_cases b h) [ inl e ↦ rw e (omega arith) | inr e ↦ rw e (omega arith) ]

  half_size : (b : ℕ) (l : List ℕ) → b < 2 → length l ≡ cells_at w (suc k) → length (half w k b l) ≡ cells_at w k
  half_size b l h e = simp (length-take, length-drop) (omega (arith, half_ends b h))

  pub half_at : (b : ℕ) (l : List ℕ) (c d : ℕ) → c < cells_at w k → slice_index_or (half w k b l) c d ≡ slice_index_or l (w * lines_at k + b * cells_at w k + c) d
  half_at b l c d h = rw (get_or-take, get_or-drop)

  pub half_lawful : (b : ℕ) (l : List ℕ) → b < 2 → Lawful (halving w (suc k)) l → Lawful (halving w k) (half w k b l)
  half_lawful b l h u =
      record {
        size = half_size b l h u.size;
        below = λ c lt. rw (half_at b l c 0 lt) (u.below (w * lines_at k + b * cells_at w k + c) (omega (arith, half_ends b h)));
      }
