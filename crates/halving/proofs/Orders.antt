-- Which of two settings comes first: by number for a column, by parts for a whole setting.
use Rattle.std.proofs.Common.{◌≡◌, ℕ, zero, suc, ◌+◌, ◌-◌, ◌^◌, ◌<◌, ◌≤◌, ◌⊎◌, List, length, get_or, take, drop, sym, ap, ◌∙◌, inl, inr, arith, length-drop, length-take, get_or-drop, get_or-take}
use native.Mathlib.Decide.{dec_lt}
use Rattle.card.specs.Settling.{Before}
use Rattle.halving.specs.Outer.{value, Bits, Alike}

pub value_below : (h : ℕ) (l : List ℕ) → Bits h l → value h l < 2 ^ h
value_below zero l b = omega arith
value_below (suc h) l b = omega (arith, value_below h l (λ c p. b c (omega arith)), b h (omega arith))

pub value_same : (h : ℕ) (l t : List ℕ) → Bits h l → Bits h t → value h l ≡ value h t → (c : ℕ) → c < h → get_or l c 0 ≡ get_or t c 0
value_same zero l t bl bt e c p = absurd (omega arith)
value_same (suc h) l t bl bt e c p =
    let x = bl h (omega arith) in
    let y = bt h (omega arith) in
    let f : value h l ≡ value h t = omega arith in
    let g : get_or l h 0 ≡ get_or t h 0 = omega arith in
    elim (dec_lt c h) [
      | yes q ↦ value_same h l t (λ d r. bl d (omega arith)) (λ d r. bt d (omega arith)) f c q
      | no q ↦ let e : c ≡ h = omega arith in rw e g
    ]

-- the first place at which two columns differ
pub record Differ (n : ℕ) (l t : List ℕ) : Type 0 where
  pub at : ℕ
  pub inside : at < n
  pub same : (c : ℕ) → c < at → get_or l c 0 ≡ get_or t c 0
  pub less : get_or l at 0 < get_or t at 0

pub value_less : (h : ℕ) (l t : List ℕ) → Bits h l → Bits h t → value h l < value h t → Differ h l t
value_less zero l t bl bt e = absurd (omega arith)
value_less (suc h) l t bl bt e =
    let bl' : Bits h l = λ d r. bl d (omega arith) in
    let bt' : Bits h t = λ d r. bt d (omega arith) in
    let x = bl h (omega arith) in
    let y = bt h (omega arith) in
    elim (dec_lt (value h l) (value h t)) [
      | yes q ↦ let d = value_less h l t bl' bt' q in record { at = d.at; inside = omega arith; same = d.same; less = d.less }
      | no q ↦ record { at = h; inside = omega arith; same = value_same h l t bl' bt' (omega arith); less = omega arith }
    ]

-- columns that are nowhere greater are the same, or less at the first cell that differs
pub least_differ : (n : ℕ) (l t : List ℕ) → ((c : ℕ) → c < n → get_or l c 0 ≤ get_or t c 0) → Alike n l t ⊎ Differ n l t
least_differ zero l t h = inl (λ c p. absurd (omega arith))
least_differ (suc n) l t h = go (least_differ n l t (λ c p. h c (omega arith)))
  where
    go : Alike n l t ⊎ Differ n l t → Alike (suc n) l t ⊎ Differ (suc n) l t
    go (inr d) = inr (record { at = d.at; inside = omega (arith, d.inside); same = d.same; less = d.less })
    go (inl e) =
        let le = h n (omega arith) in
        elim (dec_lt (get_or l n 0) (get_or t n 0)) [
          | yes q ↦ inr (record { at = n; inside = omega arith; same = e; less = q })
          | no q ↦
              let g : get_or l n 0 ≡ get_or t n 0 = omega arith in
              inl (λ c p. elim (dec_lt c n) [ yes r ↦ e c r | no r ↦ let f : c ≡ n = omega arith in rw f g ])
        ]

pub before_differ : (n : ℕ) (l t : List ℕ) → n ≤ length l → Differ n l t → Before l t
before_differ n l t h d = record { at = d.at; inside = omega (arith, d.inside); same = d.same; less = d.less }

-- a part that comes first makes the whole come first, if all before it is the same
pub before_part : (o m : ℕ) (l t : List ℕ) → o + m ≤ length l → ((c : ℕ) → c < o → get_or l c 0 ≡ get_or t c 0) → Before (take m (drop o l)) (take m (drop o t)) → Before l t
before_part o m l t h s b =
    let in' : b.at < m = (let i = b.inside in omega (arith, simp (length-take, length-drop) at i)) in
    let at_part : (x : List ℕ) (c : ℕ) → c < m → get_or (take m (drop o x)) c 0 ≡ get_or x (o + c) 0 = λ x c p. rw (get_or-take, get_or-drop) in
    record {
      at = o + b.at;
      inside = omega arith;
      same = λ c p. elim (dec_lt c o) [
        | yes q ↦ s c q
        | no q ↦
            let f : c ≡ o + (c - o) = omega arith in
            let lt : c - o < m = omega arith in
            rw f (sym (at_part l (c - o) lt) ∙ b.same (c - o) (omega arith) ∙ at_part t (c - o) lt)
      ];
      less = rw (← at_part l b.at in', ← at_part t b.at in') b.less;
    }

-- a part that is the same carries on what is the same
pub same_part : (o m : ℕ) (l t : List ℕ) → ((c : ℕ) → c < o → get_or l c 0 ≡ get_or t c 0) → take m (drop o t) ≡ take m (drop o l) → (c : ℕ) → c < o + m → get_or l c 0 ≡ get_or t c 0
same_part o m l t s e c p =
    let at_part : (x : List ℕ) (c : ℕ) → c < m → get_or (take m (drop o x)) c 0 ≡ get_or x (o + c) 0 = λ x c p. rw (get_or-take, get_or-drop) in
    elim (dec_lt c o) [
      | yes q ↦ s c q
      | no q ↦
          let f : c ≡ o + (c - o) = omega arith in
          let lt : c - o < m = omega arith in
          rw f (sym (at_part l (c - o) lt) ∙ ap (λ x. get_or x (c - o) 0) (sym e) ∙ at_part t (c - o) lt)
    ]
