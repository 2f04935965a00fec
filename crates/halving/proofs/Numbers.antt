-- The first column as the code writes it from its number, from its last cell up.
use Rattle.std.proofs.Common.{◌≡◌, ℕ, zero, suc, ◌-◌, ◌/◌, ◌%◌, ◌^◌, ◌<◌, ◌≤◌, List, length, get_or, set, refl, ap, ◌∙◌, arith, get_or-set_other, get_or-set_same}
use native.Mathlib.Decide.{ℕ_discrete}
use Rattle.halving.specs.Outer.{value, Alike}

-- the cells from c on are written, and what is left of the number is that of the cells before
pub record Writing (h n c rest : ℕ) (l : List ℕ) : Type 0 where
  pub small : rest < 2 ^ c
  pub bits : (d : ℕ) → c ≤ d → d < h → get_or l d 0 < 2
  pub number : (t : List ℕ) → ((d : ℕ) → c ≤ d → d < h → get_or t d 0 ≡ get_or l d 0) → value c t ≡ rest → value h t ≡ n

writing_suc : (h n c rest : ℕ) (l : List ℕ) → c < h → h ≤ length l → Writing h n (suc c) rest l → Writing h n c (rest / 2) (set l c (rest % 2))
writing_suc h n c rest l p size w = record {
  small = (let z = w.small in omega arith);
  bits = λ d q r. elim (ℕ_discrete d c) [ yes z ↦ rw (here d z) (omega arith) | no z ↦ rw (get_or-set_other l c d (rest % 2) 0 z) (w.bits d (omega arith) r) ];
  number = λ t s e. w.number t (λ d q r. s d (omega arith) r ∙ get_or-set_other l c d (rest % 2) 0 (omega arith))
      (let z = s c (omega arith) p ∙ here c refl in omega arith);
}
  where
    here : (d : ℕ) → d ≡ c → get_or (set l c (rest % 2)) d 0 ≡ rest % 2
    here d z = ap (λ x. get_or (set l c (rest % 2)) x 0) z ∙ get_or-set_same l c (rest % 2) 0 (omega arith)

pub writing_more : (h n c rest : ℕ) (l : List ℕ) → 0 < c → c ≤ h → h ≤ length l → Writing h n c rest l → Writing h n (c - 1) (rest / 2) (set l (c - 1) (rest % 2))
writing_more h n zero rest l z p size w = absurd (omega arith)
writing_more h n (suc c) rest l z p size w =
    let e : suc c - 1 ≡ c = omega arith in
    rw e (writing_suc h n c rest l (omega arith) size w)

pub value_alike : (h : ℕ) (l t : List ℕ) → Alike h l t → value h l ≡ value h t
value_alike zero l t s = refl
value_alike (suc h) l t s = omega (arith, value_alike h l t (λ c p. s c (omega arith)), s h (omega arith))
