-- A table filled from pairs that break no rule is a plan.
use Rattle.std.proofs.Common.{◌≡◌, ℕ, ◌+◌, ◌<◌, List, length, get_or, take, sym, ◌∙◌, subst, inl, inr, ⊎_elim, arith}
use Rattle.std.proofs.lemmas.List.{get_or-take, length-take-le}
use Rattle.std.proofs.lemmas.Bool.{cases_lt}
use Rattle.card.specs.Plans.{Pairs, Free, Taken, Fine}

-- inputs that are fine, read upward, are pairs
pub fine_pairs : (n : ℕ) (ps : List ℕ) → ((i : ℕ) → i < n → Fine n ps i) → Pairs n ps
fine_pairs n ps fine =
    record {
      below = λ i h. ⊎_elim (λ e. inl e) (λ p. inr p.0) (fine i h);
      apart = λ i j h k ne e. ⊎_elim (one i j h k ne e) (λ z. ⊎_elim (two i j h k ne e) (λ w. omega arith) (cases_lt j i)) (cases_lt i j);
    }
  where
    one : (i j : ℕ) → i < n → j < n → (get_or ps i 255 ≡ 255 → ⊥) → get_or ps i 255 ≡ get_or ps j 255 → i < j → i ≡ j
    one i j h k ne e z = ⊎_elim (λ q. absurd (ne (e ∙ q))) (λ p. absurd (p.1 i z e)) (fine j k)

    two : (i j : ℕ) → i < n → j < n → (get_or ps i 255 ≡ 255 → ⊥) → get_or ps i 255 ≡ get_or ps j 255 → j < i → i ≡ j
    two i j h k ne e z = ⊎_elim (λ q. absurd (ne q)) (λ p. absurd (p.1 j z (sym e))) (fine i h)

-- one input more
pub fine_more : (n : ℕ) (ps : List ℕ) (i : ℕ) → ((k : ℕ) → k < i → Fine n ps k) → Fine n ps i → (k : ℕ) → k < i + 1 → Fine n ps k
fine_more n ps i below here k h =
    ⊎_elim (λ low. below k low) (λ high. let z : i ≡ k = omega arith in subst (λ (x : ℕ). Fine n ps x) z here) (cases_lt k i)

-- what is found in the part before an index
module _ (ps : List ℕ) (i o : ℕ) (inside : i < length ps) where
  size : length (take i ps) ≡ i
  size = length-take-le i ps (omega arith) ∙ omega arith

  part_at : (k : ℕ) → k < i → get_or (take i ps) k 255 ≡ get_or ps k 255
  part_at k h = get_or-take i ps k 255 (omega arith)

  pub taken_part : Taken (length (take i ps)) (take i ps) o → Taken i ps o
  taken_part t = let h : t.by < i = omega (arith, t.inside, size) in record { by = t.by; inside = h; there = sym (part_at t.by h) ∙ t.there }

  pub free_part : Free (length (take i ps)) (take i ps) o → Free i ps o
  free_part f k h e = f k (omega (arith, size)) (part_at k h ∙ e)
