-- A setting of a halving card as its outer columns and its two halves.
use Rattle.std.proofs.Common.{◌≡◌, ℕ, zero, suc, ◌+◌, ◌-◌, ◌*◌, ◌/◌, ◌%◌, ◌<◌, ◌⊎◌, List, length, get_or, sym, ◌∙◌, subst, inl, inr, arith}
use native.Mathlib.Decide.{dec_lt}
use Rattle.std.proofs.lemmas.List.{ext_get_or}
use Rattle.card.specs.Settling.{none, Fits, Before, Carries}
use Rattle.halving.specs.Halving.{lines_at, cells_at, half, side, halving}
use Rattle.halving.specs.Outer.{entrant, Halves, Halved, Bits, Held, Alike, Pairable}
use Rattle.halving.specs.Counts.{half_lawful, half_ends, half_at}
use Rattle.halving.proofs.Orders.{before_part, same_part}

pub entrant_line : (l : List ℕ) (b c : ℕ) → entrant l b c / 2 ≡ c
entrant_line l b c = omega arith

pub entrant_below : (l : List ℕ) (b c h : ℕ) → c < h → entrant l b c < 2 * h
entrant_below l b c h p = omega arith

pub entrant_side : (l : List ℕ) (b c : ℕ) → b < 2 → side l (entrant l b c) ≡ b
entrant_side l b c p = rw (entrant_line l b c) (omega arith)

pub entrant_of : (l : List ℕ) (i : ℕ) → entrant l (side l i) (i / 2) ≡ i
entrant_of l i = omega arith

-- a busy pair ends at a line
pub busy_below : (n : ℕ) (pairs : List ℕ) (i : ℕ) → Pairable n pairs → i < n → (get_or pairs i none ≡ none → ⊥) → get_or pairs i none < n
busy_below n pairs i pp p busy = elim (pp i p) [ inl e ↦ absurd (busy e) | inr q ↦ q ]

-- half plans go by the first column alone
pub halved_same : (w h : ℕ) (pairs l t a : List ℕ) (b : ℕ) → Alike h l t → Halved w h h pairs l b a → Halved w h h pairs t b a
halved_same w h pairs l t a b s u c p =
    subst (λ (x : ℕ). Halves w h (get_or pairs (2 * c + (x + b) % 2) none) (get_or a c none)) (s c p) (u c p)

module _ (w k : ℕ) where
  -- a cell is one of the outer columns or one of a half
  data Cell : ℕ → Type 0 where
    column : {c : ℕ} → c < w * lines_at k → Cell c
    inside : (b c : ℕ) → b < 2 → c < cells_at w k → Cell (w * lines_at k + b * cells_at w k + c)

  cell_of : (c : ℕ) → c < cells_at w (suc k) → Cell c
  cell_of c p =
      elim (dec_lt c (w * lines_at k)) [
        | yes q ↦ column q
        | no q ↦ elim (dec_lt c (w * lines_at k + cells_at w k)) [
          | yes r ↦
              let e : w * lines_at k + 0 * cells_at w k + (c - w * lines_at k) ≡ c = omega arith in
              subst Cell e (inside 0 (c - w * lines_at k) (omega arith) (omega arith))
          | no r ↦
              let e : w * lines_at k + 1 * cells_at w k + (c - w * lines_at k - cells_at w k) ≡ c = omega arith in
              subst Cell e (inside 1 (c - w * lines_at k - cells_at w k) (omega arith) (omega arith))
        ]
      ]

  -- a half of a setting that fits, where it carries its half plan
  pub part_fits : (pairs holds l a : List ℕ) (b : ℕ) → b < 2 → Fits (halving w (suc k)) pairs holds l → Carries (halving w k) a (half w k b l) → Fits (halving w k) a (half w k b holds) (half w k b l)
  part_fits pairs holds l a b p f carries =
      record {
        lawful = half_lawful w k b l p f.lawful;
        carries = carries;
        keeps = λ c q. rw (half_at w k b l c 0 q, half_at w k b holds c none q) (f.keeps (w * lines_at k + b * cells_at w k + c) (omega (arith, half_ends w k b p)));
      }

  -- a setting whose halves fit, where it carries the whole plan
  pub whole_fits : (pairs holds l a₀ a₁ : List ℕ) → length l ≡ cells_at w (suc k) → Bits (w * lines_at k) l → Held (w * lines_at k) holds l → Carries (halving w (suc k)) pairs l
      → Fits (halving w k) a₀ (half w k 0 holds) (half w k 0 l) → Fits (halving w k) a₁ (half w k 1 holds) (half w k 1 l) → Fits (halving w (suc k)) pairs holds l
  whole_fits pairs holds l a₀ a₁ size bits held carries f₀ f₁ =
      record {
        lawful = record { size = size; below = λ c p. below c (cell_of c p) };
        carries = carries;
        keeps = λ c p. keeps c (cell_of c p);
      }
    where
      below : (c : ℕ) → Cell c → get_or l c 0 < 2
      below c (column p) = bits c p
      below c (inside zero d q p) = rw (← half_at w k 0 l d 0 p) (f₀.lawful.below d p)
      below c (inside (suc zero) d q p) = rw (← half_at w k 1 l d 0 p) (f₁.lawful.below d p)
      below c (inside (suc (suc b)) d q p) = absurd (omega arith)

      keeps : (c : ℕ) → Cell c → (get_or holds c none ≡ none → ⊥) → get_or l c 0 ≡ get_or holds c none
      keeps c (column p) = held c p
      keeps c (inside zero d q p) = rw (← half_at w k 0 l d 0 p, ← half_at w k 0 holds d none p) (f₀.keeps d p)
      keeps c (inside (suc zero) d q p) = rw (← half_at w k 1 l d 0 p, ← half_at w k 1 holds d none p) (f₁.keeps d p)
      keeps c (inside (suc (suc b)) d q p) = absurd (omega arith)

  -- among settings with the same outer columns the halves decide which comes first
  pub halves_order : (l t : List ℕ) → length l ≡ cells_at w (suc k) → length t ≡ cells_at w (suc k) → Alike (w * lines_at k) l t
      → (half w k 0 t ≡ half w k 0 l) ⊎ Before (half w k 0 l) (half w k 0 t) → (half w k 1 t ≡ half w k 1 l) ⊎ Before (half w k 1 l) (half w k 1 t) → (t ≡ l) ⊎ Before l t
  halves_order l t size size-t s (inr b) lower = inr (before_part (w * lines_at k + 0 * cells_at w k) (cells_at w k) l t (omega arith) (λ c p. s c (omega arith)) b)
  halves_order l t size size-t s (inl e) (inl d) =
      let u = same_part (w * lines_at k + 0 * cells_at w k) (cells_at w k) l t (λ c p. s c (omega arith)) e in
      let v = same_part (w * lines_at k + 1 * cells_at w k) (cells_at w k) l t (λ c p. u c (omega arith)) d in
      inl (sym (ext_get_or 0 l t (size ∙ sym size-t) (λ c p. v c (omega arith))))
  halves_order l t size size-t s (inl e) (inr b) =
      let u = same_part (w * lines_at k + 0 * cells_at w k) (cells_at w k) l t (λ c p. s c (omega arith)) e in
      inr (before_part (w * lines_at k + 1 * cells_at w k) (cells_at w k) l t (omega arith) (λ c p. u c (omega arith)) b)
