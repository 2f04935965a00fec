-- The outer columns as the code writes them: a numbered part r, and after it the forced column, which starts with its holds.
use Rattle.std.proofs.Common.{◌≡◌, ℕ, ◌+◌, ◌-◌, ◌*◌, ◌/◌, ◌%◌, ◌<◌, ◌≤◌, Bool, true, false, cond, eqb, List, ◌++◌, length, get_or, take, drop, sym, refl, ap, ◌∙◌, inl, inr, arith, length-drop, get_or-drop, get_or-take}
use native.Mathlib.Decide.{dec_lt}
use Rattle.std.proofs.lemmas.List.{get_or_default, get_or_append_left, get_or-append_right}
use Rattle.card.specs.Settling.{none}
use Rattle.halving.specs.Halving.{side, OneOrTwo}
use Rattle.halving.specs.Column.{Open, Obeys}
use Rattle.halving.specs.Outer.{value, before, out_position, wanted_cell, wanted_position, Bits, Held, Alike, Holding, Front}
use Rattle.halving.proofs.Numbers.{value_alike}
use Rattle.halving.proofs.Orders.{value_same}

pub before_last : {w : ℕ} → OneOrTwo w → (h : ℕ) → w * h ≡ before w h + h
before_last (inl e) h = rw e (omega arith)
before_last (inr e) h = rw e (omega arith)

pub before_few : {w : ℕ} → OneOrTwo w → (h : ℕ) → before w h ≤ h
before_few (inl e) h = rw e (omega arith)
before_few (inr e) h = rw e (omega arith)

-- the position goes by the cells before the forced column alone
pub position_alike : (w h : ℕ) (l t : List ℕ) (j o : ℕ) → j < 2 * h → Alike (before w h) l t → out_position w h l j o ≡ out_position w h t j o
position_alike w h l t j o p = go (eqb w 2)
  where
    go : (b : Bool) → Alike (cond b h 0) l t → cond b ((o % 2 + side l j) % 2) ((o / h + j % 2) % 2) ≡ cond b ((o % 2 + side t j) % 2) ((o / h + j % 2) % 2)
    go true s = (let e = s (j / 2) (omega arith) in omega arith)
    go false s = refl

-- what stands once the numbered part r is written, where x and y are the holds of the two parts
pub record Started (w h n : ℕ) (pairs holds r x y : List ℕ) : Type 0 where
  pub one : OneOrTwo w
  pub lines : length pairs ≡ 2 * h
  pub sized : length holds ≡ w * h
  pub long : length r ≡ before w h
  pub number : value (before w h) r ≡ n
  pub bits : Bits (before w h) r
  pub first : x ≡ take (before w h) holds
  pub last : y ≡ drop (before w h) holds

pub started : (w h n d e : ℕ) (pairs holds r x y : List ℕ) → OneOrTwo w → length pairs ≡ 2 * h → length holds ≡ w * h → length r ≡ d → value d r ≡ n → Bits d r → x ≡ take e holds → y ≡ drop e holds → d ≡ e → e + h ≡ w * h → Started w h n pairs holds r x y
started w h n d e pairs holds r x y one lines sized long number bits first last same whole =
    let z : e ≡ before w h = omega (arith, before_last one h) in
    let y : d ≡ before w h = same ∙ z in
    record { one = one; lines = lines; sized = sized; long = long ∙ y; number = rw y at number; bits = rw y at bits; first = rw z at first; last = rw z at last }

module _ {w h n : ℕ} {pairs holds r x y : List ℕ} (o : Started w h n pairs holds r x y) where
  whole : w * h ≡ before w h + h
  whole = before_last o.one h

  -- columns of the number have these cells before the forced one
  same : (t : List ℕ) → Front w h n pairs holds t → Alike (before w h) r t
  same t f = value_same (before w h) r t o.bits (λ c p. f.bits c (omega (arith, whole))) (o.number ∙ sym f.number)

  first_at : (c : ℕ) → c < before w h → get_or x c none ≡ get_or holds c none
  first_at c p = rw o.first (get_or-take (before w h) holds c none p)

  pub unkept : (Held (length r) x r → ⊥) → (t : List ℕ) → Front w h n pairs holds t → ⊥
  unkept u t f =
      u (λ c q busy.
      let p : c < before w h = omega (arith, o.long) in
      let e = first_at c p in
      same t f c p ∙ f.held c (omega (arith, whole)) (λ z. busy (e ∙ z)) ∙ sym e)

  start_at : (c : ℕ) → c < h → get_or y c 0 ≡ get_or holds (before w h + c) none
  start_at c p = rw o.last (get_or-drop (before w h) holds c 0 ∙ get_or_default holds (before w h + c) 0 none (omega (arith, whole, o.sized)))

  pub start_long : length y ≡ h
  start_long = rw o.last (simp length-drop (omega (arith, whole, o.sized)))

  pub start_open : Holding (w * h) holds → Open y
  start_open hold c p =
      let q : c < h = omega (arith, start_long) in
      rw (start_at c q) (hold (before w h + c) (omega (arith, whole)))

  -- what serves obeys
  pub front_obeys : (t : List ℕ) → Front w h n pairs holds t → Obeys (wanted_cell w pairs) (wanted_position w h pairs r) pairs y (drop (before w h) t)
  front_obeys t f =
      record {
        bits = λ c p. rw get_or-drop (f.bits (before w h + c) (omega (arith, whole, start_long)));
        kept = λ c p busy.
            let q : c < h = omega (arith, start_long) in
            get_or-drop (before w h) t c 0 ∙ f.held (before w h + c) (omega (arith, whole)) (λ z. busy (start_at c q ∙ z)) ∙ sym (start_at c q);
        wanted = λ j p busy.
            let q : j < 2 * h = omega (arith, o.lines) in
            get_or-drop (before w h) t (wanted_cell w pairs j) 0 ∙ f.agrees j q busy ∙ sym (position_alike w h r t j (get_or pairs j none) q (same t f));
      }

  -- and what obeys serves
  module _ (k : List ℕ) (held : Held (length r) x r) (v : Obeys (wanted_cell w pairs) (wanted_position w h pairs r) pairs y k) where
    low : (c : ℕ) → c < before w h → get_or (r ++ k) c 0 ≡ get_or r c 0
    low c p = get_or_append_left r k 0 c (omega (arith, o.long))

    high : (c : ℕ) → get_or (r ++ k) (before w h + c) 0 ≡ get_or k c 0
    high c = get_or-append_right r k (before w h) (before w h + c) 0 o.long (omega arith) ∙ ap (λ x. get_or k x 0) (omega arith)

    -- a cell is one of the numbered part, or one of the forced column
    each : (P : ℕ → Type 0) → ((c : ℕ) → c < before w h → P c) → ((c : ℕ) → c < h → P (before w h + c)) → (c : ℕ) → c < w * h → P c
    each P u v c p =
        elim (dec_lt c (before w h)) [
          | yes q ↦ u c q
          | no q ↦ (let e : before w h + (c - before w h) ≡ c = omega arith in rw (← e) (v (c - before w h) (omega (arith, whole))))
        ]

    pub obeys_front : Front w h n pairs holds (r ++ k)
    obeys_front =
        record {
          number = value_alike (before w h) (r ++ k) r low ∙ o.number;
          bits = each (λ c. get_or (r ++ k) c 0 < 2) (λ c p. rw (low c p) (o.bits c p)) (λ c p. rw (high c) (v.bits c (omega (arith, start_long))));
          held = each (λ c. (get_or holds c none ≡ none → ⊥) → get_or (r ++ k) c 0 ≡ get_or holds c none)
              (λ c p busy.
              let e = first_at c p in
              low c p ∙ held c (omega (arith, o.long)) (λ z. busy (sym e ∙ z)) ∙ e)
              (λ c p busy. high c ∙ v.kept c (omega (arith, start_long)) (λ z. busy (sym (start_at c p) ∙ z)) ∙ start_at c p);
          agrees = λ j p busy. high (wanted_cell w pairs j) ∙ v.wanted j (omega (arith, o.lines)) busy ∙ position_alike w h r (r ++ k) j (get_or pairs j none) p (λ c q. sym (low c q));
        }

    -- with the smallest positions
    pub obeys_least : ((t : List ℕ) → Obeys (wanted_cell w pairs) (wanted_position w h pairs r) pairs y t → (c : ℕ) → c < length y → get_or k c 0 ≤ get_or t c 0)
        → (t : List ℕ) → Front w h n pairs holds t → (c : ℕ) → c < w * h → get_or (r ++ k) c 0 ≤ get_or t c 0
    obeys_least least t f =
        each (λ c. get_or (r ++ k) c 0 ≤ get_or t c 0)
        (λ c p. rw (low c p, same t f c p) (omega arith))
        (λ c p. rw (high c) (let z = least (drop (before w h) t) (front_obeys t f) c (omega (arith, start_long)) in rw get_or-drop at z))
