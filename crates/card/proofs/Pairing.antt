-- The pairs of a plan: what its law says of them, and how they change when one pair is put in or taken out.
use Rattle.std.proofs.Common.{◌≡◌, ℕ, zero, suc, ◌<◌, ◌≤◌, ◌⊎◌, List, [], ◌∷◌, length, get_or, take, set, replicate, sym, refl, ap, ◌∙◌, inl, inr, ⊎_elim, arith, length-set, Option, Some, None, is_some, true, false}
use Rattle.std.proofs.lemmas.Bool.{both_ways, cases_eq}
use mathlib.Core.Logic.{∥∥₁_elim}
use native.Mathlib.Bridge.{le_prop}
use native.Mathlib.Nat.{ℕ_set}
use Rattle.std.proofs.lemmas.List.{get_or-set_same, get_or-set_other, get_or-take, length-take-le, take-replicate}
use Rattle.card.specs.Plans.{Pairs, PlanLaw, Free, Output, paired}

pub blank : (n i : ℕ) → get_or {A = ℕ} (replicate n 255) i 255 ≡ 255
blank zero i = refl
blank (suc n) zero = refl
blank (suc n) (suc i) = blank n i

-- what a plan's law says of its sizes, and of its pairs
pub law_some : {n : ℕ} {xs : List ℕ} → ∥ PlanLaw n xs ∥₁ → 2 ≤ n
law_some t = ∥∥₁_elim t le_prop (λ ok. ok.count.some)

pub law_few : {n : ℕ} {xs : List ℕ} → ∥ PlanLaw n xs ∥₁ → n ≤ 16
law_few t = ∥∥₁_elim t le_prop (λ ok. ok.count.few)

pub law_room : {n : ℕ} {xs : List ℕ} → ∥ PlanLaw n xs ∥₁ → length xs ≡ 16
law_room t = ∥∥₁_elim t (ℕ_set _ 16) (λ ok. ok.room)

pub law_size : {n : ℕ} {xs : List ℕ} → ∥ PlanLaw n xs ∥₁ → length (paired n xs) ≡ n
law_size {n = n} {xs = xs} t = length-take-le n xs (omega (arith, law_few t, law_room t))

pub law_apart : {n : ℕ} {xs : List ℕ} → ∥ PlanLaw n xs ∥₁ → (i j : ℕ) → i < n → j < n → (get_or (paired n xs) i 255 ≡ 255 → ⊥) → get_or (paired n xs) i 255 ≡ get_or (paired n xs) j 255 → i ≡ j
law_apart t i j h k ne e = ∥∥₁_elim t (ℕ_set i j) (λ ok. ok.pairs.apart i j h k ne e)

-- an output below 16, or none: what is read of a plan at an index that it has
pub law_below : {n : ℕ} {xs : List ℕ} → ∥ PlanLaw n xs ∥₁ → (i : ℕ) → i < n → (get_or (paired n xs) i 255 ≡ 255 → ⊥) → get_or (paired n xs) i 255 < n
law_below t i h ne = ∥∥₁_elim t le_prop (λ ok. ⊎_elim (λ e. absurd (ne e)) (λ k. k) (ok.pairs.below i h))

-- whether an input has an output
pub is_idle : (ps : List ℕ) (i : ℕ) (o : Option ℕ) → Output ps i o → false ≡ is_some o → get_or ps i 255 ≡ 255
is_idle ps i None h e = h
is_idle ps i (Some o) h e = absurd (both_ways false refl e)

pub is_busy : (ps : List ℕ) (i : ℕ) (o : Option ℕ) → Output ps i o → true ≡ is_some o → get_or ps i 255 ≡ 255 → ⊥
is_busy ps i None h e z = both_ways false refl (sym e)
is_busy ps i (Some o) h e z = h.1 (sym h.0 ∙ z)

pub take_set_below : {A : Type 0} (n : ℕ) (xs : List A) (i : ℕ) (v : A) → take n (set xs i v) ≡ set (take n xs) i v
take_set_below zero [] i v = refl
take_set_below zero (x ∷ xs) zero v = refl
take_set_below zero (x ∷ xs) (suc i) v = refl
take_set_below (suc n) [] i v = refl
take_set_below (suc n) (x ∷ xs) zero v = refl
take_set_below (suc n) (x ∷ xs) (suc i) v = ap (λ ys. x ∷ ys) (take_set_below n xs i v)

pub idle_law : (n : ℕ) → 2 ≤ n → n ≤ 16 → PlanLaw n (replicate 16 255)
idle_law n a b =
    record {
      count = record { some = a; few = b };
      room = refl;
      pairs = record { below = λ i h. inl (idle i h); apart = λ i j h k f e. absurd (f (idle i h)) };
    }
  where
    idle : (i : ℕ) → i < n → get_or {A = ℕ} (take n (replicate 16 255)) i 255 ≡ 255
    idle i h = get_or-take n (replicate 16 255) i 255 h ∙ blank 16 i

pub idle_pairs : (n : ℕ) → n ≤ 16 → paired n (replicate 16 255) ≡ replicate n 255
idle_pairs n h = take-replicate n 16 255 h

-- one pair put in, or taken out
module _ (n : ℕ) (ps : List ℕ) (i v : ℕ) (size : length ps ≡ n) (inside : i < n) (ok : Pairs n ps) where
  at : (j : ℕ) → ((j ≡ i) × (get_or (set ps i v) j 255 ≡ v)) ⊎ ((j ≡ i → ⊥) × (get_or (set ps i v) j 255 ≡ get_or ps j 255))
  at j = ⊎_elim (λ e. inl (e, rw e (get_or-set_same ps i v 255 (omega arith)))) (λ ne. inr (ne, get_or-set_other ps i j v 255 ne)) (cases_eq j i)

  pub put_pairs : (v ≡ 255) ⊎ (v < n) → ((v ≡ 255 → ⊥) → Free n ps v) → Pairs n (set ps i v)
  put_pairs small free =
      record {
        below = λ j h. ⊎_elim (λ p. rw p.1 small) (λ p. rw p.1 (ok.below j h)) (at j);
        apart = λ j k h l f e. apart' j k h l f e (at j) (at k);
      }
    where
      apart' : (j k : ℕ) → j < n → k < n → (get_or (set ps i v) j 255 ≡ 255 → ⊥) → get_or (set ps i v) j 255 ≡ get_or (set ps i v) k 255 → ((j ≡ i) × (get_or (set ps i v) j 255 ≡ v)) ⊎ ((j ≡ i → ⊥) × (get_or (set ps i v) j 255 ≡ get_or ps j 255)) → ((k ≡ i) × (get_or (set ps i v) k 255 ≡ v)) ⊎ ((k ≡ i → ⊥) × (get_or (set ps i v) k 255 ≡ get_or ps k 255)) → j ≡ k
      apart' j k h l f e (inl p) (inl q) = p.0 ∙ sym q.0
      apart' j k h l f e (inl p) (inr q) = absurd (free (λ z. f (p.1 ∙ z)) k l (sym q.1 ∙ sym e ∙ p.1))
      apart' j k h l f e (inr p) (inl q) = absurd (free (λ z. f (e ∙ q.1 ∙ z)) j h (sym p.1 ∙ e ∙ q.1))
      apart' j k h l f e (inr p) (inr q) = ok.apart j k h l (λ z. f (p.1 ∙ z)) (sym p.1 ∙ e ∙ q.1)

pub put_law : (n : ℕ) (xs : List ℕ) (i v : ℕ) → i < n → (v ≡ 255) ⊎ (v < n) → ((v ≡ 255 → ⊥) → Free n (paired n xs) v) → PlanLaw n xs → PlanLaw n (set xs i v)
put_law n xs i v inside small free ok =
    record {
      count = ok.count;
      room = length-set xs i v ∙ ok.room;
      pairs = rw take_set_below (put_pairs n (take n xs) i v (length-take-le n xs (omega (arith, ok.room, ok.count.few))) inside ok.pairs small free);
    }
