-- The writer's rule gives one answer, and what is written and what is read come round.
use Rattle.std.proofs.Common.{◌≡◌, ℕ, ◌<◌, ◌≤◌, List, [], ◌++◌, length, take, drop, Ok, Err, Result, sym, refl, ap, ◌∙◌, subst, append-nil, arith, length-append}
use Rattle.std.proofs.lemmas.List.{take_at, drop_at}
use Rattle.card.specs.declared.fault.Cause.TheVariants.{BadMark, WrongLength}
use Rattle.card.specs.declared.fault.Layer.TheVariants.{Record}
use Rattle.card.specs.declared.fault.Fault.{Fault}
use Rattle.card.specs.Faults.{fault}
use Rattle.records.specs.Format.{Image, table, Stands, mark_of, body_of, record_of, Lines, Proper}
use Rattle.records.specs.Reading.{found, Reads, whole}
use Rattle.records.specs.Writing.{Writes, bad_count, misplaced, missized, short, done, Recorded}
use Rattle.records.proofs.One.{answered}

-- the same answer, and the same buffer after it
abbrev Same : Result ℕ Fault → List ℕ → Result ℕ Fault → List ℕ → Type 0
Same q c o b' = (q ≡ o) × (c ≡ b')

module _ {n : ℕ} {i : Image} {b : List ℕ} where
  only_bad : (Lines n → ⊥) → (q : Result ℕ Fault) (c : List ℕ) → Writes n i b c q → Same q c (Err (fault WrongLength Record 0)) b
  only_bad bad _ c (bad_count _ e) = (refl, e)
  only_bad bad _ c (misplaced l _ _) = absurd (bad l)
  only_bad bad _ c (missized l _ _ _) = absurd (bad l)
  only_bad bad _ c (short l _ _ _) = absurd (bad l)
  only_bad bad _ c (done l _ _ _) = absurd (bad l)

  only_misplaced : Lines n → (Stands n (mark_of i) → ⊥) → (q : Result ℕ Fault) (c : List ℕ) → Writes n i b c q → Same q c (Err (fault BadMark Record 0)) b
  only_misplaced l none _ c (bad_count bad _) = absurd (bad l)
  only_misplaced l none _ c (misplaced _ _ e) = (refl, e)
  only_misplaced l none _ c (missized _ s _ _) = absurd (none s)
  only_misplaced l none _ c (short _ p _ _) = absurd (none p.stands)
  only_misplaced l none _ c (done _ p _ _) = absurd (none p.stands)

  only_missized : Lines n → Stands n (mark_of i) → (length (body_of i) ≡ (table (mark_of i)).size n → ⊥) → (q : Result ℕ Fault) (c : List ℕ) → Writes n i b c q → Same q c (Err (fault WrongLength Record 0)) b
  only_missized l s other _ c (bad_count bad _) = absurd (bad l)
  only_missized l s other _ c (misplaced _ none _) = absurd (none s)
  only_missized l s other _ c (missized _ _ _ e) = (refl, e)
  only_missized l s other _ c (short _ p _ _) = absurd (other p.sized)
  only_missized l s other _ c (done _ p _ _) = absurd (other p.sized)

  only_short : Lines n → Proper n i → length b < length (record_of i) → (q : Result ℕ Fault) (c : List ℕ) → Writes n i b c q → Same q c (Err (fault WrongLength Record 0)) b
  only_short l p h _ c (bad_count bad _) = absurd (bad l)
  only_short l p h _ c (misplaced _ none _) = absurd (none p.stands)
  only_short l p h _ c (missized _ _ other _) = absurd (other p.sized)
  only_short l p h _ c (short _ _ _ e) = (refl, e)
  only_short l p h _ c (done _ _ k _) = absurd (omega arith)

  only_done : Lines n → Proper n i → length (record_of i) ≤ length b → (q : Result ℕ Fault) (c : List ℕ) → Writes n i b c q → Same q c (Ok (length (record_of i))) (record_of i ++ drop (length (record_of i)) b)
  only_done l p h _ c (bad_count bad _) = absurd (bad l)
  only_done l p h _ c (misplaced _ none _) = absurd (none p.stands)
  only_done l p h _ c (missized _ _ other _) = absurd (other p.sized)
  only_done l p h _ c (short _ _ k _) = absurd (omega arith)
  only_done l p h _ c (done _ _ _ e) = (refl, e)

  one_writing : (o q : Result ℕ Fault) (b' c : List ℕ) → Writes n i b b' o → Writes n i b c q → Same q c o b'
  one_writing _ q b' c (bad_count bad e) w = let s = only_bad bad q c w in (s.0, s.1 ∙ sym e)
  one_writing _ q b' c (misplaced l none e) w = let s = only_misplaced l none q c w in (s.0, s.1 ∙ sym e)
  one_writing _ q b' c (missized l s other e) w = let s = only_missized l s other q c w in (s.0, s.1 ∙ sym e)
  one_writing _ q b' c (short l p h e) w = let s = only_short l p h q c w in (s.0, s.1 ∙ sym e)
  one_writing _ q b' c (done l p h e) w = let s = only_done l p h q c w in (s.0, s.1 ∙ sym e)

  untouched : {b' : List ℕ} (f : Fault) → Writes n i b b' (Err f) → b' ≡ b
  untouched _ (bad_count h e) = e
  untouched _ (misplaced l s e) = e
  untouched _ (missized l s h e) = e
  untouched _ (short l p h e) = e

  within : {b' : List ℕ} (k : ℕ) → Writes n i b b' (Ok k) → k ≤ length b'
  within _ (done l p h e) = omega (arith, ap length e, length-append (record_of i) (drop (length (record_of i)) b))

  beyond : {b' : List ℕ} (k : ℕ) → Writes n i b b' (Ok k) → drop k b' ≡ drop k b
  beyond _ (done l p h e) = ap (drop (length (record_of i))) e ∙ drop_at (record_of i) _ _ refl

  reads_back : {b' : List ℕ} (k : ℕ) → Writes n i b b' (Ok k) → Reads n (take k b') (found i [])
  reads_back _ (done l p room e) = whole i [] l p (ap (take (length (record_of i))) e ∙ take_at (record_of i) _ _ refl ∙ sym (append-nil (record_of i)))

  forth : {b' : List ℕ} (k : ℕ) → Writes n i b b' (Ok k) → (bs rest : List ℕ) → Reads n bs (found i rest) → (take k b' ≡ take k bs) × (rest ≡ drop k bs)
  forth _ (done _ _ room f) bs rest (whole _ _ l p e) = (
    ap (take (length (record_of i))) f ∙ take_at (record_of i) _ _ refl ∙ sym (ap (take (length (record_of i))) e ∙ take_at (record_of i) rest _ refl),
    sym (ap (drop (length (record_of i))) e ∙ drop_at (record_of i) rest _ refl),
  )

pub recorded : {n : ℕ} {i : Image} {b b' : List ℕ} {o : Result ℕ Fault} → Writes n i b b' o → Recorded n i b b' o
recorded {n} {i} {b} {b'} {o} w =
    let at : (q : Result ℕ Fault) → o ≡ q → Writes n i b b' q = λ q e. subst (Writes n i b b') e w in
    record {
      rule = w;
      only = λ q c v. one_writing o q b' c w v;
      untouched = λ f e. untouched f (at (Err f) e);
      within = λ k e. within k (at (Ok k) e);
      beyond = λ k e. beyond k (at (Ok k) e);
      back = λ k e. answered (reads_back k (at (Ok k) e));
      forth = λ k e bs rest r. forth k (at (Ok k) e) bs rest r;
    }
