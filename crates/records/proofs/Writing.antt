-- What the ways through the writer come to.
use Rattle.std.proofs.Common.{◌≡◌, ℕ, ◌+◌, ◌-◌, ◌<◌, ◌≤◌, List, [], ◌∷◌, ◌++◌, length, drop, set, Ok, Err, sym, refl, ap, ◌∙◌, subst, append_assoc, arith}
use borrow.Rule.Slice.PartMut.{put_mid, post_of}
use Rattle.std.proofs.lemmas.List.{take_at, drop_at, drop-drop}
use Rattle.card.specs.declared.fault.Cause.TheVariants.{BadMark, WrongLength}
use Rattle.card.specs.declared.fault.Layer.TheVariants.{Record}
use Rattle.card.specs.Faults.{fault}
use Rattle.records.specs.declared.order.Mark.{Mark}
use Rattle.records.specs.Format.{Image, table, Stands, mark_of, body_of, record_of, Lines, Proper}
use Rattle.records.specs.Writing.{Writes, misplaced, missized, short, done}
use Rattle.records.proofs.Laws.{length_letters, length_record}

pub set_one : (l : List ℕ) (x : ℕ) → length l ≡ 1 → set l 0 x ≡ x ∷ []
set_one [] x e = absurd (omega arith)
set_one (a ∷ []) x e = refl
set_one (a ∷ b ∷ l) x e = absurd (omega arith)

pub set_two : (l : List ℕ) (x y : ℕ) → length l ≡ 2 → set (set l 0 x) 1 y ≡ x ∷ y ∷ []
set_two [] x y e = absurd (omega arith)
set_two (a ∷ []) x y e = absurd (omega arith)
set_two (a ∷ b ∷ []) x y e = refl
set_two (a ∷ b ∷ d ∷ l) x y e = absurd (omega arith)

module _ (n : ℕ) (i : Image) (b : List ℕ) (l : Lines n) (m : Mark) (mark : m ≡ mark_of i) where
  pub writes_misplaced : (Stands n m → ⊥) → Writes n i b b (Err (fault BadMark Record 0))
  writes_misplaced h = misplaced l (λ s. h (subst (Stands n) (sym mark) s)) refl

  module _ (s : Stands n m) (k : ℕ) (held : k ≡ length (body_of i)) where
    pub writes_missized : (k ≡ (table m).size n → ⊥) → Writes n i b b (Err (fault WrongLength Record 0))
    writes_missized h = missized l (subst (Stands n) mark s) (λ e. h (held ∙ e ∙ ap (λ m. (table m).size n) (sym mark))) refl

    module _ (sized : k ≡ (table m).size n) where
      proper : Proper n i
      proper = record { stands = subst (Stands n) mark s; sized = sym held ∙ sized ∙ ap (λ m. (table m).size n) mark }

      long : length (record_of i) ≡ k + 2
      long = omega (arith, length_record i)

      pub writes_short : length b < k + 2 → Writes n i b b (Err (fault WrongLength Record 0))
      writes_short h = short l proper (omega (arith, long)) refl

      pub writes_done : (x y : List ℕ) → k + 2 ≤ length b → x ≡ (table m).letters → y ≡ body_of i → Writes n i b (put_mid 2 (k + 2 - 2) (x ++ post_of 0 2 b) y) (Ok (k + 2))
      writes_done x y room letters body =
          let two : length x ≡ 2 = ap length letters ∙ length_letters m in
          let back : k + 2 - 2 ≡ k = omega arith in
          let sum : 2 + k ≡ length (record_of i) = omega (arith, long) in
          let past : post_of 2 (k + 2 - 2) (x ++ drop 2 b) ≡ drop (length (record_of i)) b = ap (λ z. drop z (drop 2 (x ++ drop 2 b))) back ∙ ap (drop k) (drop_at x (drop 2 b) 2 two) ∙ drop-drop k 2 b ∙ ap (λ z. drop z b) sum in
          let whole : put_mid 2 (k + 2 - 2) (x ++ drop 2 b) y ≡ record_of i ++ drop (length (record_of i)) b =
          (λ j. take_at x (drop 2 b) 2 two j ++ (y ++ past j))
          ∙ (λ j. (letters ∙ ap (λ m. (table m).letters) mark) j ++ (body j ++ drop (length (record_of i)) b))
          ∙ sym (append_assoc (table (mark_of i)).letters (body_of i) (drop (length (record_of i)) b)) in
          subst (λ z. Writes n i b (put_mid 2 (k + 2 - 2) (x ++ drop 2 b) y) (Ok z)) long (done l proper (omega (arith, long)) whole)
