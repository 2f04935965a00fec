-- The places of a halving card, step by step.
use Rattle.std.specs.Prelude.{◌≡◌, ℕ, zero, suc, ◌+◌, ◌*◌, ◌/◌, ◌%◌, ◌<◌, ◌≤◌, true, false, cond, not, T, List, ◌≢◌, nat_le, slice_index}
use Rattle.std.proofs.Math.Path.{refl}
use Rattle.std.proofs.Common.{arith, add-one, le→leb}
use Rattle.std.proofs.Math.Numerals.{add-two}
use Rattle.std.proofs.Math.Arith.{lt→nleb}
use Rattle.halving.specs.Halving.{lines_at, columns_at, half, side, leave, place}

pub place_start : (w k : ℕ) (l : List ℕ) (i : ℕ) → place w k l i 0 ≡ i
unfolding place
place_start w zero l i = refl
place_start w (suc k) l i = refl

pub place_lone : (w level s : ℕ) (l : List ℕ) (i : ℕ) → level ≡ 0 → (s ≢ 0) → (slice_index l 0 + i) % 2 ≡ place w level l i s
unfolding place
place_lone w zero zero l i e k = absurd (k refl)
place_lone w zero (suc s) l i e k = refl
place_lone w (suc level) s l i e k = absurd (omega arith)

module _ (w k : ℕ) (l : List ℕ) (i : ℕ) where
  -- after some columns of the halves, and after all of them
  abbrev pub Above : ℕ → ℕ
  Above s = side l i * lines_at k + place w k (half w k (side l i) l) (i / 2) s

  abbrev pub Out : ℕ
  Out = leave k l (side l i) (place w k (half w k (side l i) l) (i / 2) (columns_at w k))

  pub place_inside : (s : ℕ) → s ≤ columns_at w k → place w (suc k) l i (suc s) ≡ Above s
  unfolding place
  place_inside s h = go (nat_le s (columns_at w k)) (le→leb s (columns_at w k) h)
    where
      go : (b : _) → T b → cond b (Above s) Out ≡ Above s
      go true t = refl
      go false t = elim t [ ]

  pub place_past : (s : ℕ) → columns_at w k < s → place w (suc k) l i (suc s) ≡ Out
  unfolding place
  place_past s h = go (nat_le s (columns_at w k)) (lt→nleb s (columns_at w k) h)
    where
      go : (b : _) → T (not b) → cond b (Above s) Out ≡ Out
      go true t = elim t [ ]
      go false t = refl

-- after the last column: of a Beneš card, and of a baseline card
pub place_out : (k : ℕ) (l : List ℕ) (i : ℕ) → place 2 (suc k) l i (columns_at 2 (suc k)) ≡ leave k l (side l i) (place 2 k (half 2 k (side l i) l) (i / 2) (columns_at 2 k))
place_out k l i = rw add-two (place_past 2 k l i (suc (columns_at 2 k)) (omega arith))

pub place_end : (k : ℕ) (l : List ℕ) (i : ℕ) → place 1 (suc k) l i (columns_at 1 (suc k)) ≡ side l i * lines_at k + place 1 k (half 1 k (side l i) l) (i / 2) (columns_at 1 k)
place_end k l i = rw add-one (place_inside 1 k l i (columns_at 1 k) (omega arith))
