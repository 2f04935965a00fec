-- Whether a setting is the first that fits, decided by trying every lawful setting.
use Rattle.std.proofs.Common.{◌≡◌, ℕ, zero, suc, ◌+◌, ◌<◌, Bool, true, false, not, ◌&&◌, ◌||◌, eqb, ltb, ◌⊎◌, List, [], ◌∷◌, length, get_or, sym, refl, ap, ◌∙◌, subst, inl, inr, ⊎_elim, add-zero, add-suc, suc-add, arith}
use Rattle.std.proofs.lemmas.Bool.{and_parts, and_from, or_cases, or_left, or_right, eqb-true, eq-eqb, ltb-true, cases_eq, cases_lt, both_ways, not_from_true}
use Rattle.card.specs.Meaning.{Meaning}
use Rattle.card.specs.Settling.{none, Fits, First, Before, Unfit}

-- a test of each number below n
abbrev each : ℕ → (ℕ → Bool) → Bool
each zero p = true
each (suc n) p = each n p && p n

each_at : (n : ℕ) (p : ℕ → Bool) → each n p ≡ true → (k : ℕ) → k < n → p k ≡ true
each_at zero p e k h = absurd (omega arith)
each_at (suc n) p e k h =
    let b = and_parts (each n p) (p n) e in
    ⊎_elim (λ low. each_at n p b.0 k low) (λ high. let z : k ≡ n = omega arith in ap p z ∙ b.1) (cases_lt k n)

each_from : (n : ℕ) (p : ℕ → Bool) → ((k : ℕ) → k < n → p k ≡ true) → each n p ≡ true
each_from zero p f = refl
each_from (suc n) p f = and_from (each n p) (p n) (each_from n p (λ k h. f k (omega arith))) (f n (omega arith))

-- a test of each list of positions for n cells from cell c on
abbrev sweep : (ℕ → ℕ) → ℕ → ℕ → (List ℕ → Bool) → Bool
sweep positions zero c t = t []
sweep positions (suc n) c t = each (positions c) (λ k. sweep positions n (suc c) (λ ks. t (k ∷ ks)))

sweep_at : (positions : ℕ → ℕ) (n c : ℕ) (t : List ℕ → Bool) → sweep positions n c t ≡ true → (l : List ℕ) → length l ≡ n → ((d : ℕ) → d < n → get_or l d 0 < positions (c + d)) → t l ≡ true
sweep_at positions zero c t s [] n r = s
sweep_at positions zero c t s (k ∷ ks) n r = absurd (omega arith)
sweep_at positions (suc m) c t s [] n r = absurd (omega arith)
sweep_at positions (suc m) c t s (k ∷ ks) n r =
    let first : k < positions c = subst (λ (x : ℕ). k < positions x) (add-zero c) (r 0 (omega arith)) in
    sweep_at positions m (suc c) (λ ks. t (k ∷ ks)) (each_at (positions c) (λ k. sweep positions m (suc c) (λ ks. t (k ∷ ks))) s k first) ks (omega arith)
    (λ d h. subst (λ (x : ℕ). get_or ks d 0 < positions x) (add-suc c d ∙ sym (suc-add c d)) (r (suc d) (omega arith)))

-- nothing is wanted, or what is wanted is there
abbrev meets : ℕ → ℕ → Bool
meets want got = eqb want none || eqb got want

meets_at : (want got : ℕ) → meets want got ≡ true → (want ≡ none → ⊥) → got ≡ want
meets_at want got e b = ⊎_elim (λ i. absurd (b (eqb-true want none i))) (eqb-true got want) (or_cases (eqb want none) (eqb got want) e)

meets_from : (want got : ℕ) → ((want ≡ none → ⊥) → got ≡ want) → meets want got ≡ true
meets_from want got f =
    ⊎_elim
    (λ i. or_left (eqb want none) (eqb got want) (eq-eqb want none i))
    (λ b. or_right (eqb want none) (eqb got want) (eq-eqb got want (f b)))
    (cases_eq want none)

-- the second setting is the first one, or comes after it
abbrev not_before : List ℕ → List ℕ → Bool
not_before [] k = true
not_before (a ∷ l) [] = false
not_before (a ∷ l) (b ∷ k) = ltb a b || (eqb a b && not_before l k)

later : (l k : List ℕ) → length k ≡ length l → not_before l k ≡ true → (k ≡ l) ⊎ Before l k
later [] [] n e = inl refl
later [] (b ∷ k) n e = absurd (omega arith)
later (a ∷ l) [] n e = absurd (omega arith)
later (a ∷ l) (b ∷ k) n e =
    ⊎_elim
    (λ h. inr (record { at = 0; inside = omega arith; same = λ c z. absurd (omega arith); less = ltb-true a b h }))
    (λ h. let p = and_parts (eqb a b) (not_before l k) h in tail (eqb-true a b p.0) (later l k (omega arith) p.1))
    (or_cases (ltb a b) (eqb a b && not_before l k) e)
  where
    tail : a ≡ b → (k ≡ l) ⊎ Before l k → (b ∷ k ≡ a ∷ l) ⊎ Before (a ∷ l) (b ∷ k)
    tail z = ⊎_elim (λ q. inl (cc)) (λ q. inr (record { at = suc q.at; inside = omega (arith, q.inside); same = same z q; less = q.less }))
      where
        same : a ≡ b → (q : Before l k) → (c : ℕ) → c < suc q.at → get_or (a ∷ l) c 0 ≡ get_or (b ∷ k) c 0
        same z q zero h = z
        same z q (suc c) h = q.same c (omega arith)

module _ (m : Meaning) (pairs holds : List ℕ) where
  abbrev fitting : List ℕ → Bool
  fitting l = each m.lines (λ i. meets (get_or pairs i none) (m.place l i m.columns)) && each m.cells (λ c. meets (get_or holds c none) (get_or l c 0))

  abbrev lawful : List ℕ → Bool
  lawful l = eqb (length l) m.cells && each m.cells (λ c. ltb (get_or l c 0) (m.positions c))

  fitting_from : (l : List ℕ) → Fits m pairs holds l → fitting l ≡ true
  fitting_from l f =
      and_from _ _
      (each_from m.lines (λ i. meets (get_or pairs i none) (m.place l i m.columns)) (λ i h. meets_from _ _ (f.carries i h)))
      (each_from m.cells (λ c. meets (get_or holds c none) (get_or l c 0)) (λ c h. meets_from _ _ (f.keeps c h)))

  fits_from : (l : List ℕ) → lawful l ≡ true → fitting l ≡ true → Fits m pairs holds l
  fits_from l a b =
      let p = and_parts (eqb (length l) m.cells) (each m.cells (λ c. ltb (get_or l c 0) (m.positions c))) a in
      let q = and_parts (each m.lines (λ i. meets (get_or pairs i none) (m.place l i m.columns))) (each m.cells (λ c. meets (get_or holds c none) (get_or l c 0))) b in
      record {
        lawful =
            record {
              size = eqb-true (length l) m.cells p.0;
              below = λ c h. ltb-true (get_or l c 0) (m.positions c) (each_at m.cells (λ c. ltb (get_or l c 0) (m.positions c)) p.1 c h);
            };
        carries = λ i h. meets_at _ _ (each_at m.lines (λ i. meets (get_or pairs i none) (m.place l i m.columns)) q.0 i h);
        keeps = λ c h. meets_at _ _ (each_at m.cells (λ c. meets (get_or holds c none) (get_or l c 0)) q.1 c h);
      }

  swept : (t : List ℕ → Bool) → sweep m.positions m.cells 0 t ≡ true → (l : List ℕ) → Fits m pairs holds l → t l ≡ true
  swept t s l f =
      sweep_at m.positions m.cells 0 t s l f.lawful.size
      (λ d h. subst (λ (x : ℕ). get_or l d 0 < m.positions x) (omega arith) (f.lawful.below d h))

  -- no setting fits
  abbrev pub none_fits : Bool
  none_fits = sweep m.positions m.cells 0 (λ k. not (fitting k))

  -- the setting is the first that fits
  abbrev pub is_first : List ℕ → Bool
  is_first l = lawful l && (fitting l && sweep m.positions m.cells 0 (λ k. not (fitting k) || not_before l k))

  pub unfit : none_fits ≡ true → Unfit m pairs holds
  unfit s l f = both_ways (not (fitting l)) (not_from_true (fitting l) (fitting_from l f)) (swept (λ k. not (fitting k)) s l f)

  pub first_fits : (l : List ℕ) → is_first l ≡ true → First m pairs holds l
  first_fits l e =
      let a = and_parts (lawful l) (fitting l && sweep m.positions m.cells 0 (λ k. not (fitting k) || not_before l k)) e in
      let b = and_parts (fitting l) (sweep m.positions m.cells 0 (λ k. not (fitting k) || not_before l k)) a.1 in
      let fl = fits_from l a.0 b.0 in
      record {
        fits = fl;
        first = λ k f.
            ⊎_elim
            (λ n. absurd (both_ways (not (fitting k)) (not_from_true (fitting k) (fitting_from k f)) n))
            (later l k (f.lawful.size ∙ sym fl.lawful.size))
            (or_cases (not (fitting k)) (not_before l k) (swept (λ k. not (fitting k) || not_before l k) b.1 k f));
      }
