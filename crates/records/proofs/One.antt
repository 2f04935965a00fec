-- The reader's rule gives one answer.
use Rattle.std.proofs.Common.{◌≡◌, ℕ, ◌+◌, ◌<◌, ◌≤◌, List, [], ◌++◌, length, take, drop, sym, refl, ap, ◌∙◌, append_assoc, arith, length-append}
use Rattle.std.proofs.lemmas.List.{take_at, drop_at, append_cancel_left}
use Rattle.card.specs.declared.fault.Cause.TheVariants.{BadMark, CutShort, WrongLength}
use Rattle.card.specs.declared.fault.Layer.TheVariants.{Record}
use Rattle.card.specs.Faults.{fault}
use Rattle.records.specs.declared.order.Mark.{Mark}
use Rattle.records.specs.Format.{Image, table, mark_of, body_of, of_body, record_of, Lines, Proper}
use Rattle.records.specs.Reading.{Begins, Reading, found, end, refused, Reads, bad_lines, at_end, lone, unmarked, cut, whole, Answered}
use Rattle.records.proofs.Laws.{of_body_both, letters_apart, length_letters, length_record}

module _ {n : ℕ} {bs : List ℕ} where
  pub begins_one : (m m' : Mark) → Begins n bs m → Begins n bs m' → m ≡ m'
  begins_one m m' b b' = letters_apart m m' (sym b.letters ∙ b'.letters)

  pub begins_record : (i : Image) (rest : List ℕ) → Proper n i → bs ≡ record_of i ++ rest → Begins n bs (mark_of i)
  begins_record i rest p e = record {
    stands = p.stands;
    letters = ap (take 2) (e ∙ append_assoc (table (mark_of i)).letters (body_of i) rest) ∙ take_at (table (mark_of i)).letters (body_of i ++ rest) 2 (length_letters (mark_of i));
  }

  pub record_long : (i : Image) (rest : List ℕ) → Proper n i → bs ≡ record_of i ++ rest → length bs ≡ (table (mark_of i)).size n + 2 + length rest
  record_long i rest p e = omega (arith, ap length e, length-append (record_of i) rest, length_record i, p.sized)

  -- two orders whose records begin the same bytes are the same, and so is what follows
  same_order : (i j : Image) (r s : List ℕ) → Proper n i → Proper n j → bs ≡ record_of i ++ r → bs ≡ record_of j ++ s → found i r ≡ found j s
  same_order i j r s p q e f =
      let mark : mark_of i ≡ mark_of j = begins_one _ _ (begins_record i r p e) (begins_record j s q f) in
      let long : length (body_of i) ≡ length (body_of j) = p.sized ∙ ap (λ m. (table m).size n) mark ∙ sym q.sized in
      let tails : body_of i ++ r ≡ body_of j ++ s =
      append_cancel_left (table (mark_of j)).letters (body_of i ++ r) (body_of j ++ s)
      (ap (λ m. (table m).letters ++ (body_of i ++ r)) (sym mark) ∙ sym (append_assoc (table (mark_of i)).letters (body_of i) r) ∙ sym e ∙ f ∙ append_assoc (table (mark_of j)).letters (body_of j) s) in
      let body : body_of i ≡ body_of j = sym (take_at (body_of i) r _ refl) ∙ ap (take (length (body_of i))) tails ∙ take_at (body_of j) s _ (sym long) in
      let rest : r ≡ s = sym (drop_at (body_of i) r _ refl) ∙ ap (drop (length (body_of i))) tails ∙ drop_at (body_of j) s _ (sym long) in
      let order : i ≡ j = sym (of_body_both i) ∙ (λ t. of_body (mark t) (body t)) ∙ of_body_both j in
      λ t. found (order t) (rest t)

  only_bad : (Lines n → ⊥) → (a : Reading) → Reads n bs a → a ≡ refused (fault WrongLength Record 0)
  only_bad bad _ (bad_lines h) = refl
  only_bad bad _ (at_end l e) = absurd (bad l)
  only_bad bad _ (lone l e) = absurd (bad l)
  only_bad bad _ (unmarked l h u) = absurd (bad l)
  only_bad bad _ (cut m p l b e h) = absurd (bad l)
  only_bad bad _ (whole i rest l p e) = absurd (bad l)

  only_end : Lines n → bs ≡ [] → (a : Reading) → Reads n bs a → a ≡ end
  only_end l e _ (bad_lines bad) = absurd (bad l)
  only_end l e _ (at_end _ _) = refl
  only_end l e _ (lone _ h) = let z : length bs ≡ 0 = ap length e in absurd (omega arith)
  only_end l e _ (unmarked _ h u) = let z : length bs ≡ 0 = ap length e in absurd (omega arith)
  only_end l e _ (cut m p _ b h k) = let z : length bs ≡ 0 = ap length e in absurd (omega arith)
  only_end l e _ (whole i rest _ p f) = let z : length bs ≡ 0 = ap length e in absurd (omega (arith, record_long i rest p f))

  only_lone : Lines n → length bs ≡ 1 → (a : Reading) → Reads n bs a → a ≡ refused (fault CutShort Record 0)
  only_lone l e _ (bad_lines bad) = absurd (bad l)
  only_lone l e _ (at_end _ f) = let z : length bs ≡ 0 = ap length f in absurd (omega arith)
  only_lone l e _ (lone _ h) = refl
  only_lone l e _ (unmarked _ h u) = absurd (omega arith)
  only_lone l e _ (cut m p _ b h k) = absurd (omega arith)
  only_lone l e _ (whole i rest _ p f) = absurd (omega (arith, record_long i rest p f))

  only_unmarked : Lines n → 2 ≤ length bs → ((m : Mark) → Begins n bs m → ⊥) → (a : Reading) → Reads n bs a → a ≡ refused (fault BadMark Record 0)
  only_unmarked l two u _ (bad_lines bad) = absurd (bad l)
  only_unmarked l two u _ (at_end _ f) = let z : length bs ≡ 0 = ap length f in absurd (omega arith)
  only_unmarked l two u _ (lone _ h) = absurd (omega arith)
  only_unmarked l two u _ (unmarked _ h _) = refl
  only_unmarked l two u _ (cut m p _ b h k) = absurd (u m b)
  only_unmarked l two u _ (whole i rest _ p f) = absurd (u _ (begins_record i rest p f))

  only_cut : (m : Mark) (q : ℕ) → Lines n → Begins n bs m → q + 2 ≡ length bs → q < (table m).size n → (a : Reading) → Reads n bs a → a ≡ refused (fault CutShort Record q)
  only_cut m q l b e h _ (bad_lines bad) = absurd (bad l)
  only_cut m q l b e h _ (at_end _ f) = let z : length bs ≡ 0 = ap length f in absurd (omega arith)
  only_cut m q l b e h _ (lone _ f) = absurd (omega arith)
  only_cut m q l b e h _ (unmarked _ _ u) = absurd (u m b)
  only_cut m q l b e h _ (cut m' p _ b' e' h') = let same : p ≡ q = omega arith in ap (λ k. refused (fault CutShort Record k)) same
  only_cut m q l b e h _ (whole i rest _ p f) = absurd (omega (arith, record_long i rest p f, ap (λ m. (table m).size n) (begins_one _ _ b (begins_record i rest p f))))

  only_whole : (i : Image) (rest : List ℕ) → Lines n → Proper n i → bs ≡ record_of i ++ rest → (a : Reading) → Reads n bs a → a ≡ found i rest
  only_whole i r l p e _ (bad_lines bad) = absurd (bad l)
  only_whole i r l p e _ (at_end _ f) = let z : length bs ≡ 0 = ap length f in absurd (omega (arith, record_long i r p e))
  only_whole i r l p e _ (lone _ f) = absurd (omega (arith, record_long i r p e))
  only_whole i r l p e _ (unmarked _ _ u) = absurd (u _ (begins_record i r p e))
  only_whole i r l p e _ (cut m q _ b f h) = absurd (omega (arith, record_long i r p e, ap (λ m. (table m).size n) (begins_one _ _ b (begins_record i r p e))))
  only_whole i r l p e _ (whole j s _ q f) = same_order j i s r q p f e

  pub one_reading : (a b : Reading) → Reads n bs a → Reads n bs b → b ≡ a
  one_reading _ b (bad_lines bad) r = only_bad bad b r
  one_reading _ b (at_end l e) r = only_end l e b r
  one_reading _ b (lone l e) r = only_lone l e b r
  one_reading _ b (unmarked l h u) r = only_unmarked l h u b r
  one_reading _ b (cut m p l g e h) r = only_cut m p l g e h b r
  one_reading _ b (whole i rest l p e) r = only_whole i rest l p e b r

pub answered : {n : ℕ} {bs : List ℕ} {a : Reading} → Reads n bs a → Answered n bs a
answered {n} {bs} {a} r = record { rule = r; only = λ b s. one_reading a b r s }
