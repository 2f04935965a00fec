-- Laws of the format.
use Rattle.std.proofs.Common.{◌≡◌, ℕ, ◌+◌, ◌*◌, ◌<◌, ◌≤◌, cond, eqb, ◌⊎◌, List, [], ◌∷◌, length, get_or, sym, refl, ap, ◌∙◌, inl, inr, ⊎_elim, arith, length-append}
use Rattle.std.proofs.lemmas.Bool.{cases_eq}
use Rattle.records.specs.declared.order.Mark.{Mark}
use Rattle.records.specs.declared.order.Mark.TheVariants.{Cm, Pl, Pt, Dr, Ho, Re, Ro, Vf}
use Rattle.records.specs.Format.{Image, commission, plan, patch, unpatch, hold, release, ring_out, voice, table, mark_of, body_of, of_body, record_of, Lines}

-- the order of a mark and a body has that mark
pub of_body_mark : (m : Mark) (b : List ℕ) → mark_of (of_body m b) ≡ m
of_body_mark Cm b = refl
of_body_mark Pl b = refl
of_body_mark Pt b = refl
of_body_mark Dr b = refl
of_body_mark Ho b = refl
of_body_mark Re b = refl
of_body_mark Ro b = refl
of_body_mark Vf b = refl

none_is : (b : List ℕ) → length b ≡ 0 → [] ≡ b
none_is [] e = refl
none_is (x ∷ xs) e = absurd (omega arith)

one_is : (b : List ℕ) → length b ≡ 1 → get_or b 0 0 ∷ [] ≡ b
one_is [] e = absurd (omega arith)
one_is (x ∷ []) e = refl
one_is (x ∷ y ∷ ys) e = absurd (omega arith)

two_is : (b : List ℕ) → length b ≡ 2 → get_or b 0 0 ∷ get_or b 1 0 ∷ [] ≡ b
two_is [] e = absurd (omega arith)
two_is (x ∷ []) e = absurd (omega arith)
two_is (x ∷ y ∷ []) e = refl
two_is (x ∷ y ∷ z ∷ zs) e = absurd (omega arith)

-- and that body, where it is of the right length
pub of_body_body : (n : ℕ) (m : Mark) (b : List ℕ) → length b ≡ (table m).size n → body_of (of_body m b) ≡ b
of_body_body n Cm b e = two_is b e
of_body_body n Pl b e = refl
of_body_body n Pt b e = two_is b e
of_body_body n Dr b e = one_is b e
of_body_body n Ho b e = two_is b e
of_body_body n Re b e = one_is b e
of_body_body n Ro b e = none_is b e
of_body_body n Vf b e = refl

-- an order is that of its mark and its body
pub of_body_both : (i : Image) → of_body (mark_of i) (body_of i) ≡ i
of_body_both (commission kind lines) = refl
of_body_both (plan body) = refl
of_body_both (patch input output) = refl
of_body_both (unpatch input) = refl
of_body_both (hold cell position) = refl
of_body_both (release cell) = refl
of_body_both ring_out = refl
of_body_both (voice body) = refl

-- a body has at most 176 bytes
pub most_size : (n : ℕ) (m : Mark) → n ≤ 16 → (table m).size n ≤ 176
most_size n Cm h = omega arith
most_size n Pl h = omega arith
most_size n Pt h = omega arith
most_size n Dr h = omega arith
most_size n Ho h = omega arith
most_size n Re h = omega arith
most_size n Ro h = omega arith
most_size n Vf h = omega arith

pub length_letters : (m : Mark) → length (table m).letters ≡ 2
length_letters Cm = refl
length_letters Pl = refl
length_letters Pt = refl
length_letters Dr = refl
length_letters Ho = refl
length_letters Re = refl
length_letters Ro = refl
length_letters Vf = refl

pub length_record : (i : Image) → length (record_of i) ≡ length (body_of i) + 2
length_record i = omega (arith, length-append (table (mark_of i)).letters (body_of i), length_letters (mark_of i))

pub lines_else : (n : ℕ) → (n ≡ 1 → ⊥) → n ≤ 16 → Lines n
lines_else n h k = ⊎_elim (λ e. inl e) (λ d. let two : 2 ≤ n = omega arith in inr (two, k)) (cases_eq n 0)

pub no_lines : (n : ℕ) → (n ≡ 1) ⊎ ((n ≡ 1 → ⊥) × (16 < n)) → Lines n → ⊥
no_lines n (inl e) (inl z) = omega arith
no_lines n (inl e) (inr h) = omega arith
no_lines n (inr e) (inl z) = omega arith
no_lines n (inr e) (inr h) = omega arith

-- twice the first letter and the second tell the marks apart
abbrev key : List ℕ → ℕ
key l = 2 * get_or l 0 0 + get_or l 1 0

abbrev keyed : ℕ → Mark
keyed k = cond (eqb k 211) Cm (cond (eqb k 236) Pl (cond (eqb k 244) Pt (cond (eqb k 218) Dr (cond (eqb k 223) Ho (cond (eqb k 233) Re (cond (eqb k 243) Ro Vf))))))

keyed_letters : (m : Mark) → keyed (key (table m).letters) ≡ m
keyed_letters Cm = refl
keyed_letters Pl = refl
keyed_letters Pt = refl
keyed_letters Dr = refl
keyed_letters Ho = refl
keyed_letters Re = refl
keyed_letters Ro = refl
keyed_letters Vf = refl

pub letters_apart : (m m' : Mark) → (table m).letters ≡ (table m').letters → m ≡ m'
letters_apart m m' e = sym (keyed_letters m) ∙ ap (λ l. keyed (key l)) e ∙ keyed_letters m'
