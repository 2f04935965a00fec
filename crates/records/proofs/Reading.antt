-- What the ways through the reader come to.
use Rattle.std.proofs.Common.{◌≡◌, ℕ, ◌+◌, ◌<◌, ◌≤◌, List, ◌++◌, length, take, drop, sym, ap, ◌∙◌, subst, append_assoc, arith, length-drop, take-append-drop}
use Rattle.std.proofs.lemmas.List.{nil_from_length}
use Rattle.card.specs.declared.fault.Cause.TheVariants.{BadMark, CutShort}
use Rattle.card.specs.declared.fault.Layer.TheVariants.{Record}
use Rattle.card.specs.Faults.{fault}
use Rattle.records.specs.declared.order.Mark.{Mark}
use Rattle.records.specs.Format.{Image, table, Stands, mark_of, body_of, of_body, Lines}
use Rattle.records.specs.Reading.{found, end, refused, Reads, at_end, unmarked, cut, whole}
use Rattle.records.proofs.Laws.{of_body_mark, of_body_body, letters_apart}

pub reads_end : (n : ℕ) (bs : List ℕ) → Lines n → length bs ≡ 0 → Reads n bs end
reads_end n bs l e = at_end l (nil_from_length bs e)

module _ (n : ℕ) (bs : List ℕ) (l : Lines n) (two : 2 ≤ length bs) where
  pub reads_unknown : ((m : Mark) → take 2 bs ≡ (table m).letters → ⊥) → Reads n bs (refused (fault BadMark Record 0))
  reads_unknown none = unmarked l two (λ m b. none m b.letters)

  module _ (m : Mark) (e : take 2 bs ≡ (table m).letters) where
    pub reads_misplaced : (Stands n m → ⊥) → Reads n bs (refused (fault BadMark Record 0))
    reads_misplaced none = unmarked l two (λ m' b. none (subst (Stands n) (letters_apart m' m (sym b.letters ∙ e)) b.stands))

    module _ (s : Stands n m) (tail : List ℕ) (tail_is : tail ≡ drop 2 bs) where
      tail_length : length tail + 2 ≡ length bs
      tail_length = omega (arith, ap length tail_is ∙ length-drop 2 bs)

      pub reads_cut : (k : ℕ) → k ≡ length tail → k < (table m).size n → Reads n bs (refused (fault CutShort Record k))
      reads_cut k e' h = cut m k l (record { stands = s; letters = e }) (omega (arith, tail_length)) h

      pub reads_whole : (i : Image) (body rest : List ℕ) → tail ≡ body ++ rest → length body ≡ (table m).size n → i ≡ of_body m body → Reads n bs (found i rest)
      reads_whole i body rest parts sized is =
          let mark : mark_of i ≡ m = ap mark_of is ∙ of_body_mark m body in
          let held : body_of i ≡ body = ap body_of is ∙ of_body_body n m body sized in
          whole i rest l
          (record { stands = subst (Stands n) (sym mark) s; sized = ap length held ∙ sized ∙ ap (λ m. (table m).size n) (sym mark) })
          (sym (take-append-drop 2 bs) ∙ ap (λ x. x ++ drop 2 bs) (e ∙ ap (λ m. (table m).letters) (sym mark))
          ∙ ap (λ x. (table (mark_of i)).letters ++ x) (sym tail_is ∙ parts ∙ ap (λ x. x ++ rest) (sym held))
          ∙ sym (append_assoc (table (mark_of i)).letters (body_of i) rest))
