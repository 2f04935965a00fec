-- The first setting that fits is the only one, on all cards that mean the same.
use Rattle.std.proofs.Common.{◌≡◌, ℕ, zero, suc, ◌<◌, ◌⊎◌, List, [], ◌∷◌, length, get_or, replicate, sym, refl, ap, ◌∙◌, subst, inl, inr, ⊎_elim, suc-le-suc, arith}
use Rattle.std.proofs.lemmas.Bool.{cases_order}
use Rattle.card.specs.declared.fault.Cause.TheVariants.{NoSetting}
use Rattle.card.specs.declared.fault.Layer.TheVariants.{Card}
use Rattle.card.specs.declared.fault.Fault.{Fault}
use Rattle.card.specs.Faults.{fault}
use Rattle.card.specs.Meaning.{Meaning, Lawful, Same}
use Rattle.card.specs.Settling.{none, Fits, First, Before, Unfit, Settleable, Unsettleable, Refusal}

lawful_same : (m n : Meaning) (l : List ℕ) → Same m n → Lawful m l → Lawful n l
lawful_same m n l e h =
    record {
      size = h.size ∙ e.cells;
      below = λ c k. let j : c < m.cells = omega (arith, e.cells) in rw (← e.positions c j) (h.below c j);
    }

pub same_sym : (m n : Meaning) → Same m n → Same n m
same_sym m n e =
    record {
      lines = sym e.lines;
      cells = sym e.cells;
      columns = sym e.columns;
      positions = λ c h. sym (e.positions c (omega (arith, e.cells)));
      places = λ l h i s j k. sym (e.places l (back l h) i s (omega (arith, e.lines)) (omega (arith, e.columns)));
    }
  where
    back : (l : List ℕ) → Lawful n l → Lawful m l
    back l h =
        record {
          size = h.size ∙ sym e.cells;
          below = λ c k. rw (e.positions c k) (h.below c (omega (arith, e.cells)));
        }

-- what fits on a card fits on each that means the same
pub fits_same : (m n : Meaning) (pairs holds l : List ℕ) → Same m n → Fits m pairs holds l → Fits n pairs holds l
fits_same m n pairs holds l e h =
    record {
      lawful = lawful_same m n l e h.lawful;
      carries = λ i k ne. carried i (omega (arith, e.lines)) ne;
      keeps = λ c k ne. h.keeps c (omega (arith, e.cells)) ne;
    }
  where
    carried : (i : ℕ) → i < m.lines → (get_or pairs i none ≡ none → ⊥) → n.place l i n.columns ≡ get_or pairs i none
    carried i k ne =
        let q : m.place l i m.columns ≡ n.place l i m.columns = e.places l h.lawful i m.columns k (omega arith) in
        let c : n.place l i m.columns ≡ n.place l i n.columns = ap (λ s. n.place l i s) e.columns in
        sym c ∙ sym q ∙ h.carries i k ne

-- of two settings at most one comes before the other
pub before_asym : (a b : List ℕ) → Before a b → Before b a → ⊥
before_asym a b p q = ⊎_elim equal (⊎_elim lower higher) (cases_order p.at q.at)
  where
    equal : p.at ≡ q.at → ⊥
    equal e = let u : get_or a q.at 0 < get_or b q.at 0 = subst (λ (x : ℕ). get_or a x 0 < get_or b x 0) e p.less in omega (arith, q.less)

    lower : p.at < q.at → ⊥
    lower h = omega (arith, q.same p.at h, p.less)

    higher : q.at < p.at → ⊥
    higher h = omega (arith, p.same q.at h, q.less)

pub first_same : (m n : Meaning) (pairs holds l k : List ℕ) → Same m n → First m pairs holds l → First n pairs holds k → k ≡ l
first_same m n pairs holds l k e p q =
    ⊎_elim
    (λ z. z)
    (λ b. ⊎_elim (λ z. sym z) (λ d. absurd (before_asym l k b d)) (q.first l (fits_same m n pairs holds l e p.fits)))
    (p.first k (fits_same n m pairs holds k (same_sym m n e) q.fits))

zeros : (k : List ℕ) → (k ≡ replicate (length k) 0) ⊎ Before (replicate (length k) 0) k
zeros [] = inl refl
zeros (suc x ∷ xs) = inr (record { at = 0; inside = omega arith; same = λ c h. omega arith; less = omega arith })
zeros (zero ∷ xs) = ⊎_elim (λ e. inl (ap (λ (t : List ℕ). zero ∷ t) e)) (λ b. inr (later b)) (zeros xs)
  where
    later : Before (replicate (length xs) 0) xs → Before (zero ∷ replicate (length xs) 0) (zero ∷ xs)
    later b = record { at = suc b.at; inside = suc-le-suc b.inside; same = same'; less = b.less }
      where
        same' : (c : ℕ) → c < suc b.at → get_or (zero ∷ replicate (length xs) 0) c 0 ≡ get_or (zero ∷ xs) c 0
        same' zero h = refl
        same' (suc c) h = b.same c (omega arith)

-- all cells at 0 come before any other setting
pub zeros_first : (n : ℕ) (k : List ℕ) → length k ≡ n → (k ≡ replicate n 0) ⊎ Before (replicate n 0) k
zeros_first n k e = subst (λ (x : ℕ). (k ≡ replicate x 0) ⊎ Before (replicate x 0) k) e (zeros k)

-- where settling has nothing against what it is given, it refuses only for want of a setting
pub refused_unfit : (m : Meaning) (pairs holds buffer : List ℕ) (e : Fault) → Settleable m pairs holds buffer → Refusal m pairs holds buffer e → Unfit m pairs holds × (e ≡ fault NoSetting Card 0)
refused_unfit m pairs holds buffer e ok (Refusal.broken (Unsettleable.wrong_length ne)) = absurd (ne ok.sized)
refused_unfit m pairs holds buffer e ok (Refusal.broken (Unsettleable.wrong_hold s c mis)) = absurd (mis.outside (ok.holdable c mis.inside))
refused_unfit m pairs holds buffer e ok (Refusal.no_setting a unfit) = (unfit, refl)
