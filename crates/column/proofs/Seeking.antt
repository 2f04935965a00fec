-- The search for the first setting of columns 1 to j.
use Rattle.std.proofs.Common.{◌≡◌, ℕ, zero, suc, ◌+◌, ◌-◌, ◌<◌, ◌≤◌, Bool, true, false, ◌⊎◌, List, [], ◌∷◌, length, get_or, drop, set, sym, refl, ap, ◌∙◌, subst, subst₂, inl, inr, ⊎_elim, arith, length-drop, length-set}
use Rattle.std.proofs.lemmas.List.{drop_more, drop-set, nil_from_length}
use Rattle.std.proofs.lemmas.Bool.{cases_lt, cases_order}
use Rattle.card.specs.Settling.{none, Fits, First, Before}
use Rattle.column.specs.Passing.{through, column_card}
use Rattle.column.specs.Serving.{Unserved, Served, Sought}
use Rattle.column.proofs.Stepping.{carried, carries}

-- no columns: each line stays
module _ (lead : ℕ → ℕ → ℕ → ℕ) (j : ℕ) (pairs holds after : List ℕ) (zeroth : j ≡ 0) (size : length pairs ≡ 16) (empty : length after ≡ 0) where
  pub stays : ((get_or pairs 0 0 ≡ none → ⊥) → get_or pairs 0 0 ≡ 0) → First (column_card lead j) pairs holds after
  stays f =
      record {
        fits =
            record {
              lawful = record { size = omega arith; below = λ c h. absurd (omega arith) };
              carries = carries lead j pairs after (omega arith) at_zero;
              keeps = λ c h. absurd (omega arith);
            };
        first = λ k fits. inl (nil_from_length k (omega (arith, fits.lawful.size)) ∙ sym (nil_from_length after empty));
      }
    where
      nil : after ≡ []
      nil = nil_from_length after empty

      at_zero : (i : ℕ) → i ≤ j → (get_or pairs i 0 ≡ none → ⊥) → through lead after i ≡ get_or pairs i 0
      at_zero i h b =
          let z : i ≡ 0 = omega arith in
          let p : get_or pairs i 0 ≡ get_or pairs 0 0 = ap (λ x. get_or pairs x 0) z in
          ap (λ (l : List ℕ). through lead l i) nil ∙ z ∙ sym (f (λ e. b (p ∙ e))) ∙ sym p

  pub moves : (get_or pairs 0 0 ≡ none → ⊥) → (get_or pairs 0 0 ≡ 0 → ⊥) → (l : List ℕ) → Fits (column_card lead j) pairs holds l → ⊥
  moves b n l f =
      let nil : l ≡ [] = nil_from_length l (omega (arith, f.lawful.size)) in
      n (sym (carried lead j pairs l (omega arith) f.carries 0 (omega arith) b) ∙ ap (λ (x : List ℕ). through lead x 0) nil)

  pub none_sought : (b : Bool) → (b ≡ true → (get_or pairs 0 0 ≡ none → ⊥) → get_or pairs 0 0 ≡ 0) → (b ≡ false → (get_or pairs 0 0 ≡ none → ⊥) × (get_or pairs 0 0 ≡ 0 → ⊥)) → Sought lead j pairs holds after b
  none_sought true f n = stays (f refl)
  none_sought false f n = moves (n refl).0 (n refl).1

-- no setting fits whose first cell stands below k
abbrev pub NoneBelow : (ℕ → ℕ → ℕ → ℕ) → ℕ → List ℕ → List ℕ → ℕ → Type 0
NoneBelow lead j pairs holds n = (k : ℕ) → k < n → (ks : List ℕ) → Fits (column_card lead j) pairs holds (k ∷ ks) → ⊥

-- two settings differ in the first cell, or after it
pub before_head : (k k' : ℕ) (ks ks' : List ℕ) → k < k' → Before (k ∷ ks) (k' ∷ ks')
before_head k k' ks ks' h = record { at = 0; inside = omega arith; same = λ c z. absurd (omega arith); less = h }

pub before_tail : (k k' : ℕ) (ks ks' : List ℕ) → k ≡ k' → Before ks ks' → Before (k ∷ ks) (k' ∷ ks')
before_tail k k' ks ks' e b = record { at = suc b.at; inside = omega (arith, b.inside); same = same; less = b.less }
  where
    same : (c : ℕ) → c < suc b.at → get_or (k ∷ ks) c 0 ≡ get_or (k' ∷ ks') c 0
    same zero h = e
    same (suc c) h = b.same c (omega arith)

-- the positions below k are tried: k is found, or tried too
module _ (lead : ℕ → ℕ → ℕ → ℕ) (j m : ℕ) (e : j ≡ suc m) (pairs hs : List ℕ) (hold k : ℕ) (tried : NoneBelow lead j pairs (hold ∷ hs) k) where
  pub found : (rest ks : List ℕ) → Served lead j m pairs hold k rest → First (column_card lead m) rest hs ks → First (column_card lead j) pairs (hold ∷ hs) (k ∷ ks)
  found rest ks s f = record { fits = s.up hs ks f.fits; first = first }
    where
      same : (k' : ℕ) (ks' : List ℕ) → k' ≡ k → Fits (column_card lead j) pairs (hold ∷ hs) (k' ∷ ks') → (k' ∷ ks' ≡ k ∷ ks) ⊎ Before (k ∷ ks) (k' ∷ ks')
      same k' ks' z fits =
          ⊎_elim
          (λ t. inl (cc))
          (λ b. inr (before_tail k k' ks ks' (sym z) b))
          (f.first ks' (s.down hs ks' (subst (λ x. Fits (column_card lead j) pairs (hold ∷ hs) (x ∷ ks')) z fits)))

      first : (l : List ℕ) → Fits (column_card lead j) pairs (hold ∷ hs) l → (l ≡ k ∷ ks) ⊎ Before (k ∷ ks) l
      first [] fits = absurd (omega (arith, fits.lawful.size))
      first (k' ∷ ks') fits =
          ⊎_elim
          (λ z. same k' ks' z fits)
          (⊎_elim (λ low. absurd (tried k' low ks' fits)) (λ high. inr (before_head k k' ks ks' high)))
          (cases_order k' k)

  pub tried_more : ((ks : List ℕ) → Fits (column_card lead j) pairs (hold ∷ hs) (k ∷ ks) → ⊥) → NoneBelow lead j pairs (hold ∷ hs) (k + 1)
  tried_more here k' h ks fits =
      ⊎_elim
      (λ low. tried k' low ks fits)
      (λ high. let z : k' ≡ k = omega arith in here ks (subst (λ x. Fits (column_card lead j) pairs (hold ∷ hs) (x ∷ ks)) z fits))
      (cases_lt k' k)

-- all positions are tried
pub tried_all : (lead : ℕ → ℕ → ℕ → ℕ) (j n : ℕ) (pairs holds : List ℕ) → 1 ≤ j → j < n → NoneBelow lead j pairs holds n → (l : List ℕ) → Fits (column_card lead j) pairs holds l → ⊥
tried_all lead j n pairs holds some all tried [] fits = omega (arith, fits.lawful.size)
tried_all lead j n pairs holds some all tried (k ∷ ks) fits =
    let t : k < suc j - 0 = fits.lawful.below 0 some in
    tried k (omega arith) ks fits

-- the same over the whole lists, of which the last j cells are sought
pub seek_none : (lead : ℕ → ℕ → ℕ → ℕ) (j : ℕ) (pairs holds s : List ℕ) → j ≡ 0 → length pairs ≡ 16 → (b : Bool) → (b ≡ true → (get_or pairs 0 0 ≡ none → ⊥) → get_or pairs 0 0 ≡ 0) → (b ≡ false → (get_or pairs 0 0 ≡ none → ⊥) × (get_or pairs 0 0 ≡ 0 → ⊥)) → Sought lead j pairs holds (drop (length s - j) s) b
seek_none lead j pairs holds s zeroth size = none_sought lead j pairs holds (drop (length s - j) s) zeroth size (simp length-drop (omega arith))

-- the first of the last j cells, and the others
cell_holds : (l : List ℕ) (j c : ℕ) → 1 ≤ j → j ≤ length l → c ≡ length l - j → drop (length l - j) l ≡ get_or l c 0 ∷ drop (length l - (j - 1)) l
cell_holds l j c h n e =
    let z : c + 1 ≡ length l - (j - 1) = omega arith in
    ap (λ (x : ℕ). drop x l) (sym e) ∙ drop_more l c 0 (omega arith) ∙ ap (λ (x : ℕ). get_or l c 0 ∷ drop x l) z

cell_set : (l : List ℕ) (j c k : ℕ) → 1 ≤ j → j ≤ length l → c ≡ length l - j → drop (length (set l c k) - j) (set l c k) ≡ k ∷ drop (length l - (j - 1)) l
cell_set l j c k h n e =
    let z : length (set l c k) - j ≡ c = simp length-set (omega arith) in
    let y : c + 1 ≡ length l - (j - 1) = omega arith in
    ap (λ (x : ℕ). drop x (set l c k)) z ∙ drop-set l c k (omega arith) ∙ ap (λ (x : ℕ). k ∷ drop x l) y

module _ (lead : ℕ → ℕ → ℕ → ℕ) (j : ℕ) (pairs holds : List ℕ) (c k : ℕ) (some : 1 ≤ j) (few : j ≤ length holds) (e : c ≡ length holds - j) (tried : NoneBelow lead j pairs (drop (length holds - j) holds) k) where
  tried_here : NoneBelow lead j pairs (get_or holds c 0 ∷ drop (length holds - (j - 1)) holds) k
  tried_here = subst (λ (h : List ℕ). NoneBelow lead j pairs h k) (cell_holds holds j c some few e) tried

  pub seek_found : (s rest : List ℕ) → length holds ≡ length s → Served lead j (j - 1) pairs (get_or holds c 0) k rest → First (column_card lead (j - 1)) rest (drop (length holds - (j - 1)) holds) (drop (length s - (j - 1)) s) → First (column_card lead j) pairs (drop (length holds - j) holds) (drop (length (set s c k) - j) (set s c k))
  seek_found s rest n sv f =
      subst₂ (λ (h a : List ℕ). First (column_card lead j) pairs h a) (sym (cell_holds holds j c some few e)) (sym (cell_set s j c k some (omega arith) (omega arith)))
      (found lead j (j - 1) (omega arith) pairs (drop (length holds - (j - 1)) holds) (get_or holds c 0) k tried_here rest (drop (length s - (j - 1)) s) sv f)

  seek_past : ((ks : List ℕ) → Fits (column_card lead j) pairs (get_or holds c 0 ∷ drop (length holds - (j - 1)) holds) (k ∷ ks) → ⊥) → NoneBelow lead j pairs (drop (length holds - j) holds) (k + 1)
  seek_past here =
      subst (λ (h : List ℕ). NoneBelow lead j pairs h (k + 1)) (sym (cell_holds holds j c some few e))
      (tried_more lead j (j - 1) (omega arith) pairs (drop (length holds - (j - 1)) holds) (get_or holds c 0) k tried_here here)

  pub seek_unserved : Unserved lead j pairs (get_or holds c 0) k → NoneBelow lead j pairs (drop (length holds - j) holds) (k + 1)
  seek_unserved u = seek_past (u (drop (length holds - (j - 1)) holds))

  pub seek_unfit : (rest : List ℕ) → Served lead j (j - 1) pairs (get_or holds c 0) k rest → ((l : List ℕ) → Fits (column_card lead (j - 1)) rest (drop (length holds - (j - 1)) holds) l → ⊥) → NoneBelow lead j pairs (drop (length holds - j) holds) (k + 1)
  seek_unfit rest sv no-fit = seek_past (λ ks fits. no-fit ks (sv.down (drop (length holds - (j - 1)) holds) ks fits))
