-- A card of one cell, whatever its outer columns would be.
use Rattle.std.proofs.Common.{◌≡◌, ℕ, true, zero, suc, ◌+◌, ◌-◌, ◌%◌, ◌<◌, ◌≤◌, ◌⊎◌, List, [], ◌∷◌, length, get_or, set, sym, refl, ap, ◌∙◌, subst, inl, inr, arith}
use native.Mathlib.Decide.{dec_lt}
use Rattle.std.proofs.lemmas.List.{get_or_default}
use Rattle.card.specs.Settling.{none, Fits, First, Before}
use Rattle.halving.specs.Halving.{place, halving}
use Rattle.halving.specs.Outer.{Allowed}

lone_is : (t : List ℕ) → length t ≡ 1 → t ≡ get_or t 0 0 ∷ []
lone_is [] e = absurd (omega arith)
lone_is (x ∷ []) e = refl
lone_is (x ∷ (y ∷ t)) e = absurd (omega arith)

lone_set : (t : List ℕ) (p : ℕ) → length t ≡ 1 → set t 0 p ≡ p ∷ []
lone_set [] p e = absurd (omega arith)
lone_set (x ∷ []) p e = refl
lone_set (x ∷ (y ∷ t)) p e = absurd (omega arith)

module _ (w : ℕ) where
  lone_place : (p i : ℕ) → place w 0 (p ∷ []) i 1 ≡ (p + i) % 2
  unfolding place
  lone_place p i = refl

  lone_fits : (p : ℕ) (pairs holds : List ℕ) → p < 2
      → ((get_or holds 0 none ≡ none → ⊥) → p ≡ get_or holds 0 none)
      → ((get_or pairs 0 none ≡ none → ⊥) → p ≡ get_or pairs 0 none)
      → ((get_or pairs 1 none ≡ none → ⊥) → 1 - p ≡ get_or pairs 1 none) → Fits (halving w 0) pairs holds (p ∷ [])
  lone_fits p pairs holds lt h a b = record {
    lawful = record { size = refl; below = below };
    carries = carries;
    keeps = keeps;
  }
    where
      below : (c : ℕ) → c < 1 → get_or (p ∷ []) c 0 < 2
      below zero q = lt
      below (suc c) q = absurd (omega arith)

      keeps : (c : ℕ) → c < 1 → (get_or holds c none ≡ none → ⊥) → get_or (p ∷ []) c 0 ≡ get_or holds c none
      keeps zero q = h
      keeps (suc c) q = absurd (omega arith)

      carries : (i : ℕ) → i < 2 → (get_or pairs i none ≡ none → ⊥) → place w 0 (p ∷ []) i 1 ≡ get_or pairs i none
      carries zero q k = lone_place p 0 ∙ (let z = a k in omega arith)
      carries (suc zero) q k = lone_place p 1 ∙ (let z = b k in omega arith)
      carries (suc (suc i)) q k = absurd (omega arith)

  -- what rules a position out: the hold, or a pair
  module _ (p : ℕ) (pairs holds : List ℕ) (lt : p < 2) (lines : length pairs ≡ 2) (sized : length holds ≡ 1) where
    hold : get_or holds 0 0 ≡ get_or holds 0 none
    hold = get_or_default holds 0 0 none (omega arith)

    pair : (i : ℕ) → i < 2 → get_or pairs i 0 ≡ get_or pairs i none
    pair i q = get_or_default pairs i 0 none (omega arith)

    pub lone_held : Fits (halving w 0) pairs holds (p ∷ []) → Allowed (get_or holds 0 0) p true
    lone_held f k = f.keeps 0 (omega arith) (λ z. k (hold ∙ z)) ∙ sym hold

    pub lone_ends : (i q : ℕ) → i < 2 → (p + i) % 2 ≡ q → Fits (halving w 0) pairs holds (p ∷ []) → Allowed (get_or pairs i 0) q true
    lone_ends i q lt e f k = sym e ∙ sym (lone_place p i) ∙ f.carries i lt (λ z. k (pair i lt ∙ z)) ∙ sym (pair i lt)

    pub lone_allowed : Allowed (get_or holds 0 0) p true → Allowed (get_or pairs 0 0) p true → Allowed (get_or pairs 1 0) (1 - p) true → Fits (halving w 0) pairs holds (p ∷ [])
    lone_allowed h a b =
        lone_fits p pairs holds lt (λ k. h (λ z. k (sym hold ∙ z)) ∙ hold) (λ k. a (λ z. k (sym (pair 0 (omega arith)) ∙ z)) ∙ pair 0 (omega arith)) (λ k. b (λ z. k (sym (pair 1 (omega arith)) ∙ z)) ∙ pair 1 (omega arith))

  pub lone_none : (p : ℕ) (pairs holds : List ℕ) → 2 ≤ p → ((q : ℕ) → q < p → Fits (halving w 0) pairs holds (q ∷ []) → ⊥) → (t : List ℕ) → Fits (halving w 0) pairs holds t → ⊥
  lone_none p pairs holds le k t f =
      k (get_or t 0 0) (omega (arith, f.lawful.below 0 (omega arith))) (subst (Fits (halving w 0) pairs holds) (lone_is t f.lawful.size) f)

  pub lone_first : (p : ℕ) (pairs holds s : List ℕ) → length s ≡ 1 → Fits (halving w 0) pairs holds (p ∷ []) → ((q : ℕ) → q < p → Fits (halving w 0) pairs holds (q ∷ []) → ⊥) → First (halving w 0) pairs holds (set s 0 p)
  lone_first p pairs holds s e f k = rw (lone_set s p e) (record { fits = f; first = first })
    where
      first : (t : List ℕ) → Fits (halving w 0) pairs holds t → (t ≡ p ∷ []) ⊎ Before (p ∷ []) t
      first t g =
          let z = lone_is t g.lawful.size in
          elim (dec_lt (get_or t 0 0) p) [
            | yes q ↦ absurd (k (get_or t 0 0) q (subst (Fits (halving w 0) pairs holds) z g))
            | no q ↦ elim (dec_lt p (get_or t 0 0)) [
              | yes r ↦ inr (record { at = 0; inside = omega arith; same = λ c w. absurd (omega arith); less = r })
              | no r ↦ inl (z ∙ ap (λ x. x ∷ []) (omega arith))
            ]
          ]
