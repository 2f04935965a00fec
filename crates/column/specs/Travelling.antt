-- How lines pass the columns of a list of cells.
use Rattle.std.specs.Prelude.{◌≡◌, ℕ, suc, ◌+◌, ◌-◌, ◌<◌, ◌≤◌, List, [], ◌∷◌, length, drop, slice_index, slice_index_or, refl}
use Rattle.std.proofs.Common.{ap, ◌∙◌, sym, ⊎_elim, arith, length-drop}
use Rattle.std.proofs.lemmas.List.{get_or-drop, drop_all, drop_more}
use Rattle.std.proofs.lemmas.Bool.{cases_lt}
use Rattle.column.specs.Leading.{Leading}
use Rattle.column.specs.Passing.{turned, through}
use Rattle.column.specs.Turning.{turned_apart, turned_above}

-- each position is one of its cell's
abbrev pub Ranged : List ℕ → Type 0
Ranged l = (c : ℕ) → c < length l → slice_index l c < suc (length l) - c

pub head_of : (k : ℕ) (ks : List ℕ) → Ranged (k ∷ ks) → k ≤ suc (length ks)
head_of k ks r = omega (arith, r 0)

pub tail_of : (k : ℕ) (ks : List ℕ) → Ranged (k ∷ ks) → Ranged ks
tail_of k ks r c h = let t : slice_index_or ks c 0 < suc (suc (length ks)) - suc c = r (suc c) (omega arith) in omega arith

pub drop_of : (n : ℕ) (l : List ℕ) → Ranged l → Ranged (drop n l)
drop_of n l r c h =
    let d : n + c < length l = omega (arith, length-drop n l) in
    rw get_or-drop (omega (arith, r (n + c) d, length-drop n l))

module _ (lead : ℕ → ℕ → ℕ → ℕ) (law : Leading lead) where
  pub turned_within : (k j p : ℕ) → k ≤ j → p ≤ j → turned lead k j p ≤ j
  turned_within k j p kj pj =
      ⊎_elim
      (λ h. let e = turned_apart lead law k j (turned lead k j p) p kj (turned_above lead law k j (turned lead k j p) kj h) in omega arith)
      (λ h. h)
      (cases_lt j (turned lead k j p))

  pub through_above : (ks : List ℕ) → Ranged ks → (i : ℕ) → length ks < i → through lead ks i ≡ i
  through_above [] r i h = refl
  through_above (k ∷ ks) r i h =
      ap (turned lead k (suc (length ks))) (through_above ks (tail_of k ks r) i (omega arith)) ∙ turned_above lead law k (suc (length ks)) i (head_of k ks r) h

  pub through_within : (ks : List ℕ) → Ranged ks → (i : ℕ) → i ≤ length ks → through lead ks i ≤ length ks
  through_within [] r i h = h
  through_within (k ∷ ks) r i h =
      turned_within k (suc (length ks)) (through lead ks i) (head_of k ks r)
      (⊎_elim
      (λ above. let e = through_above ks (tail_of k ks r) i above in omega arith)
      (λ low. let e = through_within ks (tail_of k ks r) i low in omega arith)
      (cases_lt (length ks) i))

  pub through_apart : (ks : List ℕ) → Ranged ks → (a b : ℕ) → through lead ks a ≡ through lead ks b → a ≡ b
  through_apart [] r a b e = e
  through_apart (k ∷ ks) r a b e =
      through_apart ks (tail_of k ks r) a b (turned_apart lead law k (suc (length ks)) (through lead ks a) (through lead ks b) (head_of k ks r) e)

pub through_none : (lead : ℕ → ℕ → ℕ → ℕ) (l : List ℕ) (n i : ℕ) → length l ≤ n → i ≡ through lead (drop n l) i
through_none lead l n i h = sym (ap (λ (ks : List ℕ). through lead ks i) (drop_all n l h))

-- one column more
pub through_more : (lead : ℕ → ℕ → ℕ → ℕ) (l : List ℕ) (n m j e i t : ℕ) → n < length l → m ≡ n + 1 → e ≡ n → j ≡ length l - n → t ≡ through lead (drop m l) i → turned lead (slice_index l e) j t ≡ through lead (drop n l) i
through_more lead l n m j e i t h mn en jn at =
    let d = drop_more l n 0 h in
    let s : j ≡ suc (length (drop (n + 1) l)) = omega (arith, length-drop (n + 1) l) in
    let a : t ≡ through lead (drop (n + 1) l) i = at ∙ ap (λ (x : ℕ). through lead (drop x l) i) mn in
    let b : slice_index_or l e 0 ≡ slice_index_or l n 0 = ap (λ (x : ℕ). slice_index l x) en in
    let f : through lead (drop n l) i ≡ turned lead (slice_index l n) (suc (length (drop (n + 1) l))) (through lead (drop (n + 1) l) i) = ap (λ (ks : List ℕ). through lead ks i) d in
    cc
