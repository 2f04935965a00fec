-- How the words of a text go on from one byte to the next.
use Rattle.std.proofs.Common.{◌⊎◌, inl, inr, true, false, not, ◌==◌, ◌≡◌, ℕ, ◌<◌, ◌≤◌, List, [], ◌∷◌, ◌++◌, length, take, drop, refl, ap, ◌∙◌, ⊎_elim, arith, eq-eqb, ne_eqb, le-leb}
use borrow.Author.Tests.{lt-leb}
use Rattle.std.proofs.lemmas.List.{append_assoc}
use Rattle.std.proofs.lemmas.Bool.{cases_eq, cases_lt}
use Rattle.std.proofs.Math.Numerals.{one-add}
use Rattle.std.specs.List.{prefix_len}
use Rattle.words.specs.Words.{wordy, Wordy, Started, kept, uncommented, comment_rest, begun, runs, words_of}

kept_hash : (b : ℕ) (bs : List ℕ) → b ≡ 35 → uncommented (b ∷ bs) ≡ comment_rest bs
unfolding kept
kept_hash b bs e = rw (eq-eqb b 35 e)

kept_other : (b : ℕ) (bs : List ℕ) → (b ≡ 35 → ⊥) → uncommented (b ∷ bs) ≡ b ∷ uncommented bs
unfolding kept
kept_other b bs ne = rw (ne_eqb b 35 ne)

rest_newline : (b : ℕ) (bs : List ℕ) → b ≡ 10 → comment_rest (b ∷ bs) ≡ uncommented (b ∷ bs)
unfolding kept
rest_newline b bs e = rw (eq-eqb b 10 e, ne_eqb b 35 (λ z. omega arith))

rest_other : (b : ℕ) (bs : List ℕ) → (b ≡ 10 → ⊥) → comment_rest (b ∷ bs) ≡ comment_rest bs
unfolding kept
rest_other b bs ne = rw (ne_eqb b 10 ne)

rest_end : comment_rest [] ≡ uncommented []
unfolding kept
rest_end = refl

runs_blank : (b : ℕ) (bs : List ℕ) → b ≤ 32 → runs (b ∷ bs) ≡ runs bs
unfolding runs
runs_blank b bs h = rw (le-leb b 32 h)

runs_word : (b : ℕ) (bs : List ℕ) → 32 < b → runs (b ∷ bs) ≡ begun b bs (runs bs)
unfolding runs
runs_word b bs h = rw (lt-leb b 32 h)

no_words : words_of [] ≡ []
unfolding runs kept
no_words = refl

-- the text begins with a blank, or is empty
abbrev Gap : List ℕ → Type 0
Gap [] = Unit {0}
Gap (b ∷ bs) = b ≤ 32

-- the text begins with no byte of a word
abbrev Ended : List ℕ → Type 0
Ended [] = Unit {0}
Ended (b ∷ bs) = Wordy b → ⊥

rest_gap : (bs : List ℕ) → Gap (comment_rest bs)
unfolding kept
rest_gap [] = tt
rest_gap (b ∷ bs) = ⊎_elim (λ e. rw (eq-eqb b 10 e) (omega arith)) (λ ne. rw (ne_eqb b 10 ne) (rest_gap bs)) (cases_eq b 10)

ended_gap : (bs : List ℕ) → Ended bs → Gap (uncommented bs)
unfolding kept
ended_gap [] h = tt
ended_gap (b ∷ bs) h = ⊎_elim (λ e. rw (eq-eqb b 35 e) (rest_gap bs)) (λ ne. rw (ne_eqb b 35 ne) (⊎_elim (λ lt. absurd (h (lt, ne))) (λ le. le) (cases_lt 32 b))) (cases_eq b 35)

begun_gap : (b : ℕ) (bs : List ℕ) (ws : List (List ℕ)) → Gap bs → begun b bs ws ≡ (b ∷ []) ∷ ws
begun_gap b [] ws h = refl
begun_gap b (c ∷ bs) ws h = rw (le-leb c 32 h)

-- whether a byte stands in a word
wordy_cases : (b : ℕ) → (Wordy b × (wordy b ≡ true)) ⊎ ((Wordy b → ⊥) × (wordy b ≡ false))
wordy_cases b =
    ⊎_elim
    (λ lt. ⊎_elim (λ e. inr (λ h. h.1 e, rw (lt-leb b 32 lt, eq-eqb b 35 e) refl)) (λ ne. inl ((lt, ne), rw (lt-leb b 32 lt, ne_eqb b 35 ne) refl)) (cases_eq b 35))
    (λ le. inr (λ h. omega (arith, h.0), rw (le-leb b 32 le) refl))
    (cases_lt 32 b)

-- a byte of a word, and then none, is a word
alone : (b : ℕ) (bs : List ℕ) → Wordy b → Ended bs → words_of (b ∷ bs) ≡ (b ∷ []) ∷ words_of bs
alone b bs h e = ap runs (kept_other b bs h.1) ∙ runs_word b (uncommented bs) h.0 ∙ begun_gap b (uncommented bs) (words_of bs) (ended_gap bs e)

-- one byte more at the front of a word
longer : (b c : ℕ) (bs w : List ℕ) (ws : List (List ℕ)) → Wordy b → Wordy c → words_of (c ∷ bs) ≡ (c ∷ w) ∷ ws → words_of (b ∷ c ∷ bs) ≡ (b ∷ c ∷ w) ∷ ws
longer b c bs w ws h here later =
    ap runs (kept_other b (c ∷ bs) h.1)
    ∙ runs_word b (uncommented (c ∷ bs)) h.0
    ∙ joined (uncommented (c ∷ bs)) (uncommented bs) (kept_other c bs here.1) later
  where
    joined : (x y : List ℕ) → x ≡ c ∷ y → runs x ≡ (c ∷ w) ∷ ws → begun b x (runs x) ≡ (b ∷ c ∷ w) ∷ ws
    joined x y e f = rw f (rw e (rw (lt-leb c 32 here.0)))

-- the word that begins with a byte of a word goes on up to the first byte that is of none
word_cut : (b : ℕ) (bs : List ℕ) → Wordy b → words_of (b ∷ bs) ≡ (b ∷ take (prefix_len wordy bs) bs) ∷ words_of (drop (prefix_len wordy bs) bs)
word_cut b [] h = alone b [] h tt
word_cut b (c ∷ bs) h =
    ⊎_elim
    (λ yes. rw (yes.1, one-add) (longer b c bs (take (prefix_len wordy bs) bs) (words_of (drop (prefix_len wordy bs) bs)) h yes.0 (word_cut c bs yes.0)))
    (λ no. rw no.1 (alone b (c ∷ bs) h no.0))
    (wordy_cases c)

word_first : (t : List ℕ) → Started t → 1 ≤ length (take (prefix_len wordy t) t) → words_of t ≡ take (prefix_len wordy t) t ∷ words_of (drop (prefix_len wordy t) t)
word_first [] h some = absurd (omega (arith, some))
word_first (b ∷ bs) h some = ⊎_elim (λ yes. rw (yes.1, one-add) (word_cut b bs h)) (λ no. absurd (no.0 h)) (wordy_cases b)

word_none : (t : List ℕ) → Started t → length (take (prefix_len wordy t) t) ≡ 0 → words_of t ≡ []
word_none [] h none = no_words
word_none (b ∷ bs) h none = ⊎_elim (λ yes. absurd (omega (arith, rw (yes.1, one-add) at none))) (λ no. absurd (no.0 h)) (wordy_cases b)

-- a text that begins with a byte of a word, or is empty, cut where the first word ends
module _ (text word rest : List ℕ) (n : ℕ) (starts : Started text) (cut : n ≡ prefix_len wordy text) (front : word ≡ take n text) (back : rest ≡ drop n text) where
  pub first_word : 1 ≤ length word → words_of text ≡ word ∷ words_of rest
  first_word some = rw (front, back, cut) (word_first text starts (rw (← cut, ← front) some))

  pub no_word : length word ≡ 0 → words_of text ≡ []
  no_word none = word_none text starts (rw (← cut, ← front) none)

-- the comment goes on up to the end of its line
pub comment_cut : (bs : List ℕ) → comment_rest bs ≡ uncommented (drop (prefix_len (λ b. not (b == 10)) bs) bs)
comment_cut [] = rest_end
comment_cut (b ∷ bs) = ⊎_elim (λ e. rw (eq-eqb b 10 e) (rest_newline b bs e)) (λ ne. rw (ne_eqb b 10 ne, one-add) (rest_other b bs ne ∙ comment_cut bs)) (cases_eq b 10)

pub comment_past : (b : ℕ) (bs : List ℕ) → b ≡ 35 → words_of (b ∷ bs) ≡ words_of (drop (prefix_len (λ b. not (b == 10)) bs) bs)
comment_past b bs e = ap runs (kept_hash b bs e ∙ comment_cut bs)

pub blank_past : (b : ℕ) (bs : List ℕ) → b ≤ 32 → words_of (b ∷ bs) ≡ words_of bs
blank_past b bs le = ap runs (kept_other b bs (λ z. omega arith)) ∙ runs_blank b (uncommented bs) le

-- what comes after the first byte of an end of a text, past so many more, is an end of it too
pub farther : {text rest others : List ℕ} {b : ℕ} (front more left : List ℕ) → text ≡ front ++ rest → rest ≡ b ∷ others → others ≡ more ++ left → text ≡ (front ++ (b ∷ more)) ++ left
farther {b = b} front more left p q r = rw append_assoc (p ∙ ap (λ (t : List ℕ). front ++ t) (q ∙ ap (λ (t : List ℕ). b ∷ t) r))
