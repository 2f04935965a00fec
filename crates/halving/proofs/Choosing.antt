-- A baseline card carries a plan if and only if its first column takes every busy input to the half of its output and its halves carry their half plans.
use Rattle.std.proofs.Common.{◌≡◌, ℕ, zero, suc, ◌+◌, ◌*◌, ◌/◌, ◌%◌, ◌<◌, ◌≤◌, List, length, get_or, sym, refl, ap, ◌∙◌, subst, div-lt_iff_lt-mul, zero-add, arith}
use native.Mathlib.Decide.{ℕ_discrete}
use lib.Arith.{digits_div, digits_mod}
use Rattle.card.specs.Meaning.{Lawful}
use Rattle.card.specs.Settling.{none, Fits, Carries}
use Rattle.halving.specs.Halving.{lines_at, cells_at, columns_at, half, side, place, baseline}
use Rattle.halving.specs.Outer.{entrant, Halves, Halved, Bits, Pairable, Front}
use Rattle.halving.specs.Counts.{lines_some, half_lawful, side_below}
use Rattle.halving.specs.Steps.{place_end}
use Rattle.halving.specs.Soundness.{within}
use Rattle.halving.proofs.Parts.{entrant_line, entrant_below, entrant_side, entrant_of, busy_below, part_fits, whole_fits}

-- every busy input enters the half of its output
abbrev Chosen : ℕ → List ℕ → List ℕ → Type 0
Chosen h pairs l = (i : ℕ) → i < 2 * h → (get_or pairs i none ≡ none → ⊥) → side l i ≡ get_or pairs i none / h

-- what the whole carries its halves carry
halves_carry : (k : ℕ) (pairs l a : List ℕ) (b : ℕ) → b < 2 → Lawful (baseline (suc k)) l → Carries (baseline (suc k)) pairs l → Halved 1 (lines_at k) (lines_at k) pairs l b a → Carries (baseline k) a (half 1 k b l)
halves_carry k pairs l a b p lw w h c q f =
    let i = entrant l b c in
    let o = get_or pairs i none in
    let x = place 1 k (half 1 k b l) c (columns_at 1 k) in
    let busy : o ≡ none → ⊥ = λ e. f ((h c q).idle e) in
    let e : side l i * lines_at k + place 1 k (half 1 k (side l i) l) (i / 2) (columns_at 1 k) ≡ o = sym (place_end k l i) ∙ w i (entrant_below l b c (lines_at k) q) busy in
    let g : b * lines_at k + x ≡ o = rw (entrant_side l b c p, entrant_line l b c) at e in
    let lt : x < lines_at k = within 1 k (half 1 k b l) (half_lawful 1 k b l p lw) c (columns_at 1 k) q (omega arith) in
    sym (digits_mod b lt) ∙ ap (λ y. y % lines_at k) g ∙ sym ((h c q).busy busy)

carries_chosen : (k : ℕ) (pairs l : List ℕ) → Lawful (baseline (suc k)) l → Carries (baseline (suc k)) pairs l → Chosen (lines_at k) pairs l
carries_chosen k pairs l lw w i p busy =
    let o = get_or pairs i none in
    let x = place 1 k (half 1 k (side l i) l) (i / 2) (columns_at 1 k) in
    let e : side l i * lines_at k + x ≡ o = sym (place_end k l i) ∙ w i p busy in
    let lt : x < lines_at k = within 1 k (half 1 k (side l i) l) (half_lawful 1 k (side l i) l (side_below l i) lw) (i / 2) (columns_at 1 k) (omega arith) (omega arith) in
    sym (digits_div (side l i) lt) ∙ ap (λ y. y / lines_at k) e

small_line : (h o : ℕ) → 2 ≤ h → h ≤ 16 → o % h ≡ none → ⊥
small_line h o p q e = omega arith

div_mod : (o h : ℕ) → o / h * h + o % h ≡ o
div_mod o h = omega arith

whole_carries : (k : ℕ) (pairs l a₀ a₁ : List ℕ) → lines_at k ≤ 16 → Chosen (lines_at k) pairs l
    → Halved 1 (lines_at k) (lines_at k) pairs l 0 a₀ → Halved 1 (lines_at k) (lines_at k) pairs l 1 a₁
    → Carries (baseline k) a₀ (half 1 k 0 l) → Carries (baseline k) a₁ (half 1 k 1 l) → Carries (baseline (suc k)) pairs l
whole_carries k pairs l a₀ a₁ few ch h₀ h₁ w₀ w₁ i p busy = place_end k l i ∙ go (side l i) (side_below l i) refl
  where
    inner : (b : ℕ) (a : List ℕ) → side l i ≡ b → Halved 1 (lines_at k) (lines_at k) pairs l b a → Carries (baseline k) a (half 1 k b l) → place 1 k (half 1 k b l) (i / 2) (columns_at 1 k) ≡ get_or pairs i none % lines_at k
    inner b a e h w =
        let q : i / 2 < lines_at k = omega arith in
        let f : entrant l b (i / 2) ≡ i = rw (← e) (entrant_of l i) in
        let v : Halves 1 (lines_at k) (get_or pairs i none) (get_or a (i / 2) none) = rw f at (h (i / 2) q) in
        let g = v.busy busy in
        w (i / 2) q (λ z. small_line (lines_at k) (get_or pairs i none) (lines_some k) few (sym g ∙ z)) ∙ g

    joined : (b : ℕ) → side l i ≡ b → b * lines_at k + get_or pairs i none % lines_at k ≡ get_or pairs i none
    joined b e = subst (λ (y : ℕ). y * lines_at k + get_or pairs i none % lines_at k ≡ get_or pairs i none) (sym (ch i p busy) ∙ e) (div_mod (get_or pairs i none) (lines_at k))

    go : (b : ℕ) → b < 2 → side l i ≡ b → b * lines_at k + place 1 k (half 1 k b l) (i / 2) (columns_at 1 k) ≡ get_or pairs i none
    go zero q e = rw (inner 0 a₀ e h₀ w₀) (joined 0 e)
    go (suc zero) q e = rw (inner 1 a₁ e h₁ w₁) (joined 1 e)
    go (suc (suc b)) q e = absurd (omega arith)

-- the outer column of a setting that fits, and its halves
pub fits_front : (k : ℕ) (pairs holds t : List ℕ) → Fits (baseline (suc k)) pairs holds t → Front 1 (lines_at k) 0 pairs holds t
fits_front k pairs holds t f =
    record {
      number = refl;
      bits = λ c p. f.lawful.below c (omega arith);
      held = λ c p. f.keeps c (omega arith);
      agrees = λ j p busy.
          let e = carries_chosen k pairs t f.lawful f.carries j p busy in
          let b = f.lawful.below (j / 2) (omega arith) in
          rw zero-add (omega arith);
    }

-- one that serves takes every busy input to the half of its output
front_chosen : (h n : ℕ) (pairs holds l : List ℕ) → 0 < h → Pairable (2 * h) pairs → Front 1 h n pairs holds l → Chosen h pairs l
front_chosen h n pairs holds l some pp w i p busy =
    let e : get_or l (i / 2) 0 ≡ (get_or pairs i none / h + i % 2) % 2 = rw zero-add at (w.agrees i p busy) in
    let bit = w.bits (i / 2) (omega arith) in
    let b : get_or pairs i none / h < 2 = (div-lt_iff_lt-mul some).1 (busy_below (2 * h) pairs i pp p busy) in
    omega arith

-- first columns that do so have the same half plans: where they differ, both inputs are idle
halved_chosen : (h : ℕ) (pairs l t a : List ℕ) (b : ℕ) → b < 2 → Bits h l → Bits h t → Chosen h pairs l → Chosen h pairs t → Halved 1 h h pairs l b a → Halved 1 h h pairs t b a
halved_chosen h pairs l t a b lt bl bt cl ct w c p =
    elim (ℕ_discrete (get_or l c 0) (get_or t c 0)) [
      | yes e ↦ subst (λ (x : ℕ). Halves 1 h (get_or pairs (2 * c + (x + b) % 2) none) (get_or a c none)) e (w c p)
      | no ne ↦
          let idle = (w c p).idle (at ne ((get_or l c 0 + b) % 2) (omega arith)) in
          record { idle = λ z. idle; busy = λ z. absurd (z (at ne ((get_or t c 0 + b) % 2) (omega arith))) }
    ]
  where
    at : (get_or l c 0 ≡ get_or t c 0 → ⊥) → (y : ℕ) → y < 2 → get_or pairs (2 * c + y) none ≡ none
    at ne y q =
        elim (ℕ_discrete (get_or pairs (2 * c + y) none) none) [
          | yes e ↦ e
          | no busy ↦
              let u = cl (2 * c + y) (omega arith) busy in
              let v = ct (2 * c + y) (omega arith) busy in
              let z : (2 * c + y) / 2 ≡ c = omega arith in
              let u' : (get_or l c 0 + (2 * c + y) % 2) % 2 ≡ get_or pairs (2 * c + y) none / h = rw z at u in
              let v' : (get_or t c 0 + (2 * c + y) % 2) % 2 ≡ get_or pairs (2 * c + y) none / h = rw z at v in
              let x = bl c p in
              let x' = bt c p in
              absurd (ne (omega arith))
        ]

pub fits_half : (k n : ℕ) (pairs holds s t a : List ℕ) (b : ℕ) → b < 2 → Pairable (lines_at (suc k)) pairs → Front 1 (lines_at k) n pairs holds s → Fits (baseline (suc k)) pairs holds t → 0 ≡ n → Halved 1 (lines_at k) (lines_at k) pairs s b a → Fits (baseline k) a (half 1 k b holds) (half 1 k b t)
fits_half k n pairs holds s t a b p pp front f e h =
    let chosen = front_chosen (lines_at k) n pairs holds s (omega (arith, lines_some k)) pp front in
    part_fits 1 k pairs holds t a b p f
    (halves_carry k pairs t a b p f.lawful f.carries
    (halved_chosen (lines_at k) pairs s t a b p (λ c q. front.bits c (omega arith)) (λ c q. f.lawful.below c (omega arith)) chosen (carries_chosen k pairs t f.lawful f.carries) h))

pub fits_whole : (k n : ℕ) (pairs holds l a₀ a₁ : List ℕ) → Pairable (lines_at (suc k)) pairs → lines_at (suc k) ≤ 32 → length l ≡ cells_at 1 (suc k) → Front 1 (lines_at k) n pairs holds l
    → Halved 1 (lines_at k) (lines_at k) pairs l 0 a₀ → Halved 1 (lines_at k) (lines_at k) pairs l 1 a₁
    → Fits (baseline k) a₀ (half 1 k 0 holds) (half 1 k 0 l) → Fits (baseline k) a₁ (half 1 k 1 holds) (half 1 k 1 l) → Fits (baseline (suc k)) pairs holds l
fits_whole k n pairs holds l a₀ a₁ pp few size front h₀ h₁ f₀ f₁ =
    whole_fits 1 k pairs holds l a₀ a₁ size front.bits front.held
    (whole_carries k pairs l a₀ a₁ (omega arith) (front_chosen (lines_at k) n pairs holds l (omega (arith, lines_some k)) pp front) h₀ h₁ f₀.carries f₁.carries) f₀ f₁
