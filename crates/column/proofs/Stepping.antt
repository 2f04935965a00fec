-- How a setting of columns 1 to j rests on one of columns 1 to j - 1.
use Rattle.std.proofs.Common.{MatchOption, Option, Some, None, ◌≡◌, ℕ, zero, suc, ◌-◌, ◌<◌, ◌≤◌, List, ◌∷◌, length, get_or, drop, sym, ap, ◌∙◌, ⊎_elim, arith}
use Rattle.std.proofs.lemmas.List.{get_or_default}
use Rattle.std.proofs.lemmas.Bool.{cases_lt}
use Rattle.card.specs.Settling.{none, Fits, Carries}
use Rattle.column.specs.Leading.{Leading}
use Rattle.column.specs.Passing.{turned, through, column_card}
use Rattle.column.specs.Serving.{Pulled, Blocked, Unserved, Served}
use Rattle.column.specs.Travelling.{Ranged, tail_of, through_above, through_within}
use Rattle.column.specs.Turning.{turned_apart}
use Rattle.column.specs.Soundness.{ranged}

-- an option's cases, each from another
pub cases_map : {A : Type 0} (o : Option A) (P P' : Type 0) (Q Q' : A → Type 0) → (P → P') → ((a : A) → Q a → Q' a) → MatchOption o P Q → MatchOption o P' Q'
cases_map (Some a) P P' Q Q' f h x = h a x
cases_map None P P' Q Q' f h x = f x

-- after all columns, all cells are passed
whole : (lead : ℕ → ℕ → ℕ → ℕ) (j : ℕ) (l : List ℕ) (i : ℕ) → through lead (drop (j - j) l) i ≡ through lead l i
whole lead j l i = let z : j - j ≡ 0 = omega arith in ap (λ (n : ℕ). through lead (drop n l) i) z

-- `Carries` at the whole list, and with 0 past the end of the pairs
pub carried : (lead : ℕ → ℕ → ℕ → ℕ) (j : ℕ) (pairs l : List ℕ) → j < length pairs → Carries (column_card lead j) pairs l → (i : ℕ) → i ≤ j → (get_or pairs i 0 ≡ none → ⊥) → through lead l i ≡ get_or pairs i 0
carried lead j pairs l n f i h b =
    let d = get_or_default pairs i none 0 (omega arith) in
    sym (whole lead j l i) ∙ f i (omega arith) (λ z. b (sym d ∙ z)) ∙ d

pub carries : (lead : ℕ → ℕ → ℕ → ℕ) (j : ℕ) (pairs l : List ℕ) → j < length pairs → ((i : ℕ) → i ≤ j → (get_or pairs i 0 ≡ none → ⊥) → through lead l i ≡ get_or pairs i 0) → Carries (column_card lead j) pairs l
carries lead j pairs l n f i h b =
    let d = get_or_default pairs i 0 none (omega arith) in
    whole lead j l i ∙ f i (omega arith) (λ z. b (sym d ∙ z)) ∙ d

-- position k of column j, with columns 1 to m before it
module _ (lead : ℕ → ℕ → ℕ → ℕ) (law : Leading lead) (j m k hold : ℕ) (pairs : List ℕ) (e : j ≡ suc m) (size : length pairs ≡ 16) (small : j < 16) (kj : k ≤ j) where
  sent : (hs ks : List ℕ) → Fits (column_card lead j) pairs (hold ∷ hs) (k ∷ ks) → (i : ℕ) → i ≤ j → (get_or pairs i 0 ≡ none → ⊥) → turned lead k j (through lead ks i) ≡ get_or pairs i 0
  sent hs ks f i h b =
      let n : j ≡ suc (length ks) = sym f.lawful.size in
      ap (λ x. turned lead k x (through lead ks i)) n ∙ carried lead j pairs (k ∷ ks) (omega arith) f.carries i h b

  below : (hs ks : List ℕ) → Fits (column_card lead j) pairs (hold ∷ hs) (k ∷ ks) → Ranged ks
  below hs ks f = tail_of k ks (ranged lead law j (k ∷ ks) f.lawful)

  pub unsent : (get_or pairs j 0 ≡ none → ⊥) → (turned lead k j j ≡ get_or pairs j 0 → ⊥) → Unserved lead j pairs hold k
  unsent b n hs ks f =
      let s : suc (length ks) ≡ j = f.lawful.size in
      n (ap (turned lead k j) (sym (through_above lead law ks (below hs ks f) j (omega arith))) ∙ sent hs ks f j (omega arith) b)

  pub blocked : Blocked lead k j pairs → Unserved lead j pairs hold k
  blocked x hs ks f =
      let s : suc (length ks) ≡ j = f.lawful.size in
      x.nowhere (through lead ks x.at) (omega (arith, through_within lead law ks (below hs ks f) x.at (omega arith))) (sent hs ks f x.at (omega arith) x.busy)

  -- a position that none of these rules out serves
  module _ (rest : List ℕ) (kept : (hold ≡ none → ⊥) → hold ≡ k) (wanted : (get_or pairs j 0 ≡ none → ⊥) → turned lead k j j ≡ get_or pairs j 0) (pulled : Pulled lead k j pairs rest) where
    down : (hs ks : List ℕ) → Fits (column_card lead j) pairs (hold ∷ hs) (k ∷ ks) → Fits (column_card lead m) rest hs ks
    down hs ks f =
        record {
          lawful =
              record {
                size = omega (arith, f.lawful.size);
                below = λ c h. let t : get_or ks c 0 < suc j - suc c = f.lawful.below (suc c) (omega arith) in omega arith;
              };
          carries =
              carries lead m rest ks (omega (arith, pulled.size))
              (λ i h b.
              let back = pulled.each i (omega arith) in
              let busy : get_or pairs i 0 ≡ none → ⊥ = λ z. b (back.idle z) in
              turned_apart lead law k j (through lead ks i) (get_or rest i 0) kj (sent hs ks f i (omega arith) busy ∙ sym (back.sent busy)));
          keeps = λ c h b. f.keeps (suc c) (omega arith) b;
        }

    up : (hs ks : List ℕ) → Fits (column_card lead m) rest hs ks → Fits (column_card lead j) pairs (hold ∷ hs) (k ∷ ks)
    up hs ks f =
        record {
          lawful = record { size = omega (arith, f.lawful.size); below = ranges };
          carries =
              carries lead j pairs (k ∷ ks) (omega arith)
              (λ i h b. ap (λ x. turned lead k x (through lead ks i)) n ∙ ⊎_elim (inner i b) (last i h b) (cases_lt i j));
          keeps = keeping;
        }
      where
        n : suc (length ks) ≡ j
        n = omega (arith, f.lawful.size)

        ranges : (c : ℕ) → c < j → get_or (k ∷ ks) c 0 < suc j - c
        ranges zero h = omega arith
        ranges (suc c) h = omega (arith, f.lawful.below c (omega arith))

        keeping : (c : ℕ) → c < j → (get_or (hold ∷ hs) c none ≡ none → ⊥) → get_or (k ∷ ks) c 0 ≡ get_or (hold ∷ hs) c none
        keeping zero h b = sym (kept b)
        keeping (suc c) h b = f.keeps c (omega arith) b

        inner : (i : ℕ) → (get_or pairs i 0 ≡ none → ⊥) → i < j → turned lead k j (through lead ks i) ≡ get_or pairs i 0
        inner i b h =
            let back = pulled.each i h in
            let low = back.below b in
            ap (turned lead k j) (carried lead m rest ks (omega (arith, pulled.size)) f.carries i (omega arith) (omega arith)) ∙ back.sent b

        last : (i : ℕ) → i ≤ j → (get_or pairs i 0 ≡ none → ⊥) → j ≤ i → turned lead k j (through lead ks i) ≡ get_or pairs i 0
        last i h b a =
            let z : i ≡ j = omega arith in
            ap (turned lead k j) (through_above lead law ks (ranged lead law m ks f.lawful) i (omega arith) ∙ z)
            ∙ wanted (λ w. b (ap (λ x. get_or pairs x 0) z ∙ w)) ∙ ap (λ x. get_or pairs x 0) (sym z)

    pub served : Served lead j m pairs hold k rest
    served = record { down = down; up = up }
