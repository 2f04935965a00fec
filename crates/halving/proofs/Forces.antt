-- How a column is forced, whatever its inputs want.
use Rattle.std.proofs.Common.{◌≡◌, ℕ, ◌+◌, ◌<◌, ◌≤◌, true, false, ◌≢◌, List, length, get_or, set, sym, refl, ap, ◌∙◌, subst, subst₂, ◌⊎◌, inl, inr, arith, length-set, get_or-set_other, get_or-set_same}
use native.Mathlib.Decide.{ℕ_discrete}
use Rattle.card.specs.Settling.{none}
use Rattle.halving.specs.Column.{Obeys, Forced, Put, Filling}

module _ (at to : ℕ → ℕ) (pairs start : List ℕ) (small : (j : ℕ) → to j < 2) where
  pub force_skip : (i : ℕ) (l : List ℕ) → get_or pairs i none ≡ none → Forced i at to pairs start l → Forced (i + 1) at to pairs start l
  force_skip i l e f =
      record {
        size = f.size;
        range = f.range;
        kept = f.kept;
        sent = λ j p busy. elim (ℕ_discrete j i) [ yes z ↦ absurd (busy (ap (λ x. get_or pairs x none) z ∙ e)) | no z ↦ f.sent j (omega arith) busy ];
        due = f.due;
      }

  -- a busy input puts its cell
  put_set : (i : ℕ) (l : List ℕ) → i < length pairs → (get_or pairs i none ≡ none → ⊥) → at i < length l → (get_or l (at i) 0 ≡ none) ⊎ (get_or l (at i) 0 ≡ to i) → Forced i at to pairs start l → Forced (i + 1) at to pairs start (set l (at i) (to i))
  put_set i l lt busy long put f =
      record {
        size = size ∙ f.size;
        range = λ c p. elim (ℕ_discrete c (at i)) [ yes e ↦ inr (rw (here c e) (small i)) | no e ↦ rw (other c e) (f.range c (omega (arith, size))) ];
        kept = λ c p k.
            let z = f.kept c (omega (arith, size)) k in
            elim (ℕ_discrete c (at i)) [
              | yes e ↦
                  let g = ap (λ y. get_or l y 0) e in
                  here c e ∙ elim put [ inl y ↦ absurd (k (sym z ∙ g ∙ y)) | inr y ↦ sym y ∙ sym g ∙ z ]
              | no e ↦ other c e ∙ z
            ];
        sent = λ j p k. elim (ℕ_discrete j i) [
          | yes e ↦ subst (λ (x : ℕ). get_or (set l (at i) (to i)) (at x) 0 ≡ to x) (sym e) (here (at i) refl)
          | no e ↦ sent j (f.sent j (omega arith) k)
        ];
        due = λ t w c p k. elim (ℕ_discrete c (at i)) [
          | yes e ↦ here c e ∙ sym (ap (λ y. get_or t y 0) e ∙ w.wanted i lt busy)
          | no e ↦ other c e ∙ f.due t w c (omega (arith, size)) (λ z. k (other c e ∙ z))
        ];
      }
    where
      size : length (set l (at i) (to i)) ≡ length l
      size = length-set l (at i) (to i)

      here : (b : ℕ) → b ≡ at i → get_or (set l (at i) (to i)) b 0 ≡ to i
      here b e = ap (λ y. get_or (set l (at i) (to i)) y 0) e ∙ get_or-set_same l (at i) (to i) 0 long

      other : (b : ℕ) → b ≢ at i → get_or (set l (at i) (to i)) b 0 ≡ get_or l b 0
      other b ne = get_or-set_other l (at i) b (to i) 0 ne

      sent : (j : ℕ) → get_or l (at j) 0 ≡ to j → get_or (set l (at i) (to i)) (at j) 0 ≡ to j
      sent j e = elim (ℕ_discrete (at j) (at i)) [
        | yes z ↦
            let g = ap (λ x. get_or l x 0) z in
            here (at j) z ∙ elim put [ inl y ↦ (let u : get_or l (at j) 0 ≡ none = g ∙ y in absurd (omega (arith, small j))) | inr y ↦ sym (g ∙ y) ∙ e ]
        | no z ↦ other (at j) z ∙ e
      ]

  pub force_put : (i a q x : ℕ) (l : List ℕ) → i < length pairs → (get_or pairs i none ≡ none → ⊥) → a < length l → a ≡ at i → q ≡ to i → Put q (get_or l a 0) x true → Forced i at to pairs start l → Forced (i + 1) at to pairs start (set l a x)
  force_put i a q x l lt busy long is wants put f =
      rw (put.1, wants, is)
      (put_set i l lt busy (subst (λ (y : ℕ). y < length l) is long)
      (subst₂ (λ (y z : ℕ). (get_or l y 0 ≡ none) ⊎ (get_or l y 0 ≡ z)) is wants put.0) f)

  -- or cannot, and then no column obeys
  pub force_fail : (i a q x : ℕ) (l : List ℕ) → i < length pairs → (get_or pairs i none ≡ none → ⊥) → a < length l → a ≡ at i → q ≡ to i → Put q (get_or l a 0) x false → Forced i at to pairs start l → (t : List ℕ) → Obeys at to pairs start t → ⊥
  force_fail i a q x l lt busy long is wants p f t w = p.1 (f.due t w a long p.0 ∙ ap (λ y. get_or t y 0) is ∙ w.wanted i lt busy ∙ sym wants)

  -- with 0 in every free cell the column obeys, and no column that obeys has a smaller position
  module _ (l k : List ℕ) (f : Forced (length pairs) at to pairs start l) (w : Filling l k) where
    pub fill_obeys : ((j : ℕ) → j < length pairs → (get_or pairs j none ≡ none → ⊥) → at j < length start) → Obeys at to pairs start k
    fill_obeys known =
        record {
          bits = λ c p. let q : c < length l = omega (arith, f.size) in elim (f.range c q) [ inl z ↦ rw (w.free c q z) (omega arith) | inr z ↦ rw (w.busy c q (λ y. omega (arith, z, y))) z ];
          kept = λ c p x. let q : c < length l = omega (arith, f.size) in w.busy c q (λ y. x (sym (f.kept c q x) ∙ y)) ∙ f.kept c q x;
          wanted = λ j p x.
              let y = known j p x in
              let s = f.sent j p x in
              w.busy (at j) (omega (arith, f.size)) (λ z. omega (arith, small j, s, z)) ∙ s;
        }

    pub fill_least : (t : List ℕ) → Obeys at to pairs start t → (c : ℕ) → c < length start → get_or k c 0 ≤ get_or t c 0
    fill_least t s c p =
        let q : c < length l = omega (arith, f.size) in
        elim (ℕ_discrete (get_or l c 0) none) [
          | yes z ↦ rw (w.free c q z) (omega arith)
          | no z ↦ (let x = w.busy c q z ∙ f.due t s c q z in omega arith)
        ]
