-- A Beneš card carries a plan if and only if its outer columns agree with it and its halves carry their half plans.
use Rattle.std.proofs.Common.{◌≡◌, ℕ, zero, suc, ◌+◌, ◌*◌, ◌/◌, ◌<◌, ◌≤◌, List, length, get_or, sym, refl, ◌∙◌, arith}
use Rattle.card.specs.Meaning.{Lawful}
use Rattle.card.specs.Settling.{none, Fits, Carries}
use Rattle.halving.specs.Halving.{lines_at, cells_at, columns_at, half, side, leave, place, benes}
use Rattle.halving.specs.Outer.{value, entrant, Halves, Halved, Pairable, Front, wanted_cell, wanted_position}
use Rattle.halving.specs.Counts.{half_lawful, side_below}
use Rattle.halving.specs.Steps.{place_out}
use Rattle.halving.proofs.Orders.{value_same}
use Rattle.halving.specs.Soundness.{within}
use Rattle.halving.proofs.Parts.{entrant_line, entrant_below, entrant_side, entrant_of, busy_below, halved_same, part_fits, whole_fits}

-- a busy pair's half line
half_line : (o : ℕ) → (o ≡ none → ⊥) → o < 255 → o / 2 ≡ none → ⊥
half_line o f p e = omega arith

-- what the whole carries its halves carry
halves_carry : (k : ℕ) (pairs l a : List ℕ) (b : ℕ) → b < 2 → Carries (benes (suc k)) pairs l → Halved 2 (lines_at k) (lines_at k) pairs l b a → Carries (benes k) a (half 2 k b l)
halves_carry k pairs l a b p w h c q f =
    let i = entrant l b c in
    let o = get_or pairs i none in
    let busy : o ≡ none → ⊥ = λ e. f ((h c q).idle e) in
    let e : leave k l (side l i) (place 2 k (half 2 k (side l i) l) (i / 2) (columns_at 2 k)) ≡ o = sym (place_out k l i) ∙ w i (entrant_below l b c (lines_at k) q) busy in
    let g : leave k l b (place 2 k (half 2 k b l) c (columns_at 2 k)) ≡ o = rw (entrant_side l b c p, entrant_line l b c) at e in
    omega (arith, (h c q).busy busy)

abbrev Agrees : ℕ → List ℕ → List ℕ → Type 0
Agrees h pairs l = (j : ℕ) → j < 2 * h → (get_or pairs j none ≡ none → ⊥) → get_or l (h + wanted_cell 2 pairs j) 0 ≡ wanted_position 2 h pairs l j

columns_agree : (k : ℕ) (pairs l : List ℕ) → Lawful (benes (suc k)) l → Carries (benes (suc k)) pairs l → Agrees (lines_at k) pairs l
columns_agree k pairs l lw w i p busy =
    let o = get_or pairs i none in
    let x = place 2 k (half 2 k (side l i) l) (i / 2) (columns_at 2 k) in
    let lt : x < lines_at k = within 2 k (half 2 k (side l i) l) (half_lawful 2 k (side l i) l (side_below l i) lw) (i / 2) (columns_at 2 k) (omega arith) (omega arith) in
    let e : leave k l (side l i) x ≡ o = sym (place_out k l i) ∙ w i p busy in
    let f : o / 2 ≡ x = omega arith in
    let bit : get_or l (lines_at k + x) 0 < 2 = lw.below (lines_at k + x) (omega arith) in
    rw f (omega arith)

whole_carries : (k : ℕ) (pairs l a₀ a₁ : List ℕ) → Pairable (lines_at (suc k)) pairs → lines_at (suc k) ≤ 32 → Agrees (lines_at k) pairs l
    → Halved 2 (lines_at k) (lines_at k) pairs l 0 a₀ → Halved 2 (lines_at k) (lines_at k) pairs l 1 a₁
    → Carries (benes k) a₀ (half 2 k 0 l) → Carries (benes k) a₁ (half 2 k 1 l) → Carries (benes (suc k)) pairs l
whole_carries k pairs l a₀ a₁ pp few ag h₀ h₁ w₀ w₁ i p busy = place_out k l i ∙ go (side l i) (side_below l i) refl
  where
    inner : (b : ℕ) (a : List ℕ) → side l i ≡ b → Halved 2 (lines_at k) (lines_at k) pairs l b a → Carries (benes k) a (half 2 k b l) → place 2 k (half 2 k b l) (i / 2) (columns_at 2 k) ≡ get_or pairs i none / 2
    inner b a e h w =
        let q : i / 2 < lines_at k = omega arith in
        let f : entrant l b (i / 2) ≡ i = rw (← e) (entrant_of l i) in
        let v : Halves 2 (lines_at k) (get_or pairs i none) (get_or a (i / 2) none) = rw f at (h (i / 2) q) in
        let g = v.busy busy in
        let lt = busy_below (lines_at (suc k)) pairs i pp p busy in
        w (i / 2) q (λ z. half_line (get_or pairs i none) busy (omega arith) (sym g ∙ z)) ∙ g

    go : (b : ℕ) → b < 2 → side l i ≡ b → leave k l b (place 2 k (half 2 k b l) (i / 2) (columns_at 2 k)) ≡ get_or pairs i none
    go zero q e = rw (inner 0 a₀ e h₀ w₀) (let z = ag i p busy in omega arith)
    go (suc zero) q e = rw (inner 1 a₁ e h₁ w₁) (let z = ag i p busy in omega arith)
    go (suc (suc b)) q e = absurd (omega arith)

-- the outer columns of a setting that fits, and its halves
pub fits_front : (k : ℕ) (pairs holds l : List ℕ) → Fits (benes (suc k)) pairs holds l → Front 2 (lines_at k) (value (lines_at k) l) pairs holds l
fits_front k pairs holds l f =
    record {
      number = refl;
      bits = λ c p. f.lawful.below c (omega arith);
      held = λ c p q. f.keeps c (omega arith) q;
      agrees = columns_agree k pairs l f.lawful f.carries;
    }

pub fits_half : (k n : ℕ) (pairs holds s l a : List ℕ) (b : ℕ) → b < 2 → Pairable (lines_at (suc k)) pairs → Front 2 (lines_at k) n pairs holds s → Fits (benes (suc k)) pairs holds l → value (lines_at k) l ≡ n → Halved 2 (lines_at k) (lines_at k) pairs s b a → Fits (benes k) a (half 2 k b holds) (half 2 k b l)
fits_half k n pairs holds s l a b p pp front f e h =
    let same = value_same (lines_at k) s l (λ c q. front.bits c (omega arith)) (λ c q. f.lawful.below c (omega arith)) (front.number ∙ sym e) in
    part_fits 2 k pairs holds l a b p f (halves_carry k pairs l a b p f.carries (halved_same 2 (lines_at k) pairs s l a b same h))

pub fits_whole : (k n : ℕ) (pairs holds l a₀ a₁ : List ℕ) → Pairable (lines_at (suc k)) pairs → lines_at (suc k) ≤ 32 → length l ≡ cells_at 2 (suc k) → Front 2 (lines_at k) n pairs holds l
    → Halved 2 (lines_at k) (lines_at k) pairs l 0 a₀ → Halved 2 (lines_at k) (lines_at k) pairs l 1 a₁
    → Fits (benes k) a₀ (half 2 k 0 holds) (half 2 k 0 l) → Fits (benes k) a₁ (half 2 k 1 holds) (half 2 k 1 l) → Fits (benes (suc k)) pairs holds l
fits_whole k n pairs holds l a₀ a₁ pp few size front h₀ h₁ f₀ f₁ =
    whole_fits 2 k pairs holds l a₀ a₁ size front.bits front.held (whole_carries k pairs l a₀ a₁ pp few front.agrees h₀ h₁ f₀.carries f₁.carries) f₀ f₁
