-- The search over the outer columns: what columns that fail rule out, and what the first that serve give.
use Rattle.std.proofs.Common.{◌≡◌, ℕ, suc, ◌+◌, ◌-◌, ◌*◌, ◌%◌, ◌^◌, ◌<◌, ◌≤◌, ◌⊎◌, List, ◌++◌, length, get_or, take, drop, sym, ap, ◌∙◌, subst, inl, inr, arith, length-append, length-take, length-drop}
use native.Mathlib.Decide.{dec_le, dec_lt}
use Rattle.std.proofs.lemmas.List.{take-append-drop, get_or_append_left, get_or-take}
use Rattle.std.proofs.lemmas.Nat.{pow_below}
use Rattle.std.proofs.Math.Seq.{take-length, take-append_seam, drop-append_seam, drop-append-add}
use Rattle.card.specs.Settling.{none, Fits, First, Unfit, Before, Settleable}
use Rattle.halving.specs.Halving.{lines_at, cells_at, half, halving, OneOrTwo}
use Rattle.halving.specs.Outer.{value, before, wanted_cell, Halved, Alike, Front, Foremost, Pairable}
use Rattle.halving.specs.Counts.{lines_few, half_ends, half_at}
use Rattle.halving.proofs.Orders.{Differ, value_below, value_less, least_differ, before_differ}
use Rattle.halving.proofs.Numbers.{value_alike}
use Rattle.halving.proofs.Parts.{busy_below, halved_same, halves_order}
use Rattle.halving.proofs.Routing.{cell_below}
use Rattle.halving.proofs.Trying.{before_last, before_few, position_alike}
use Rattle.halving.proofs.Crossing as crossing
use Rattle.halving.proofs.Choosing as choosing

-- a setting's, or a hold list's, outer columns and two halves
pub record Split (w k : ℕ) (l x y z : List ℕ) : Type 0 where
  pub is : l ≡ x ++ (y ++ z)
  pub front : length x ≡ w * lines_at k
  pub upper : length y ≡ cells_at w k
  pub lower : length z ≡ cells_at w k

module _ {w k : ℕ} {l x y z : List ℕ} (s : Split w k l x y z) where
  pub upper_is : half w k 0 l ≡ y
  upper_is =
      let d : w * lines_at k + 0 * cells_at w k ≡ length x = omega (arith, s.front) in
      rw (s.is, d, drop-append_seam x (y ++ z), ← s.upper) (take-append_seam y z)

  pub lower_is : half w k 1 l ≡ z
  lower_is =
      let d : w * lines_at k + 1 * cells_at w k ≡ length x + length y = omega (arith, s.front, s.upper) in
      rw (s.is, d, drop-append-add x (y ++ z) (length y), drop-append_seam y z, ← s.lower) (take-length z)

-- as the code cuts a list
pub split : {w k f m : ℕ} {l x r y z : List ℕ} → f ≡ w * lines_at k → m ≡ cells_at w k → length l ≡ cells_at w (suc k) → x ≡ take f l → r ≡ drop f l → y ≡ take m r → z ≡ drop m r → Split w k l x y z
split {f = f} {m = m} {l = l} e d size p q u v =
    let short : f + 2 * m ≡ length l = omega arith in
    rw (p, u, v, q)
    (record {
      is = sym (ap (λ t. take f l ++ t) (take-append-drop m (drop f l)) ∙ take-append-drop f l);
      front = simp length-take (omega arith);
      upper = simp (length-take, length-drop) (omega arith);
      lower = simp length-drop (omega arith);
    })

-- a half of what can be settled can be settled
pub half_settleable : {w k : ℕ} {pairs holds setting hs hu hv u v : List ℕ} (a : List ℕ) → Settleable (halving w (suc k)) pairs holds setting → Split w k holds hs hu hv → length a ≡ lines_at k
    → length u ≡ cells_at w k → length v ≡ cells_at w k → Settleable (halving w k) a hu u × Settleable (halving w k) a hv v
half_settleable {w = w} {k = k} {holds = holds} {hs = hs} {hu = hu} {hv = hv} a ok sh size p q = (
  record {
    sized = record { pairs_size = size; holds_size = sh.upper; buffer_size = p };
    holdable = λ c b. rw (← upper_is sh, half_at w k 0 holds c none b) (ok.holdable (w * lines_at k + 0 * cells_at w k + c) (omega (arith, half_ends w k 0)));
  },
  record {
    sized = record { pairs_size = size; holds_size = sh.lower; buffer_size = q };
    holdable = λ c b. rw (← lower_is sh, half_at w k 1 holds c none b) (ok.holdable (w * lines_at k + 1 * cells_at w k + c) (omega (arith, half_ends w k 1)));
  },
)

-- a half plan under a first column that is the first of the outer columns
pub planned : (w h b : ℕ) (pairs s a : List ℕ) → Halved w h h pairs (take h s) b a → Halved w h h pairs s b a
planned w h b pairs s a = halved_same w h pairs (take h s) s a b (λ d q. get_or-take h s d 0 q)

-- the outer columns go by the holds of their own cells
hold_at : {w k : ℕ} {holds hs hu hv : List ℕ} → Split w k holds hs hu hv → (c : ℕ) → c < w * lines_at k → get_or holds c none ≡ get_or hs c none
hold_at {hs = hs} {hu = hu} {hv = hv} sh c p = rw sh.is (get_or_append_left hs (hu ++ hv) none c (omega (arith, sh.front)))

module _ {w k n : ℕ} {pairs holds hs hu hv : List ℕ} (sh : Split w k holds hs hu hv) where
  cut_front : (t : List ℕ) → Front w (lines_at k) n pairs holds t → Front w (lines_at k) n pairs hs t
  cut_front t f = record {
    number = f.number;
    bits = f.bits;
    held = λ c p b. (let e = hold_at sh c p in f.held c p (λ z. b (sym e ∙ z)) ∙ e);
    agrees = f.agrees;
  }

  whole_front : (t : List ℕ) → Front w (lines_at k) n pairs hs t → Front w (lines_at k) n pairs holds t
  whole_front t f = record {
    number = f.number;
    bits = f.bits;
    held = λ c p b. (let e = hold_at sh c p in f.held c p (λ z. b (e ∙ z)) ∙ sym e);
    agrees = f.agrees;
  }

  pub whole_foremost : (s : List ℕ) → Foremost w (lines_at k) n pairs hs s → Foremost w (lines_at k) n pairs holds s
  whole_foremost s f = record { front = whole_front s f.front; least = λ t g. f.least t (cut_front t g) }

  pub whole_fails : ((t : List ℕ) → Front w (lines_at k) n pairs hs t → ⊥) → (t : List ℕ) → Front w (lines_at k) n pairs holds t → ⊥
  whole_fails h t f = h t (cut_front t f)

-- how many outer columns the code tries
pub tries : {w : ℕ} → OneOrTwo w → (h a b : ℕ) → h ≤ 16 → a ≡ w * h → b ≡ h → 2 ^ (a - b) % 2 ^ 64 ≡ 2 ^ before w h
tries {w = w} one h a b few e f =
    let d : a - b ≡ before w h = omega (arith, before_last one h) in
    rw d (omega (arith, pow_below (before w h) 64 (omega (arith, before_few one h))))

-- what holds of baseline and of Beneš cards holds of every family
of_both : (P : ℕ → Type 0) → P 1 → P 2 → {w : ℕ} → OneOrTwo w → P w
of_both P a b (inl e) = subst P (sym e) a
of_both P a b (inr e) = subst P (sym e) b

-- a setting that fits has outer columns that serve
abbrev FitsFront : ℕ → Type 0
FitsFront w = (k : ℕ) (pairs holds t : List ℕ) → Fits (halving w (suc k)) pairs holds t → Front w (lines_at k) (value (before w (lines_at k)) t) pairs holds t

fits_front : {w : ℕ} → OneOrTwo w → FitsFront w
fits_front = of_both FitsFront choosing.fits_front crossing.fits_front

-- and its halves fit the half plans under outer columns of its number that serve
abbrev FitsHalf : ℕ → Type 0
FitsHalf w =
    (k n : ℕ) (pairs holds s t a : List ℕ) (b : ℕ) → b < 2 → Pairable (lines_at (suc k)) pairs → Front w (lines_at k) n pairs holds s → Fits (halving w (suc k)) pairs holds t → value (before w (lines_at k)) t ≡ n
    → Halved w (lines_at k) (lines_at k) pairs s b a → Fits (halving w k) a (half w k b holds) (half w k b t)

fits_half : {w : ℕ} → OneOrTwo w → FitsHalf w
fits_half = of_both FitsHalf choosing.fits_half crossing.fits_half

-- outer columns that serve, and halves that fit, fit together
abbrev FitsWhole : ℕ → Type 0
FitsWhole w =
    (k n : ℕ) (pairs holds l a₀ a₁ : List ℕ) → Pairable (lines_at (suc k)) pairs → lines_at (suc k) ≤ 32 → length l ≡ cells_at w (suc k) → Front w (lines_at k) n pairs holds l
    → Halved w (lines_at k) (lines_at k) pairs l 0 a₀ → Halved w (lines_at k) (lines_at k) pairs l 1 a₁
    → Fits (halving w k) a₀ (half w k 0 holds) (half w k 0 l) → Fits (halving w k) a₁ (half w k 1 holds) (half w k 1 l) → Fits (halving w (suc k)) pairs holds l

fits_whole : {w : ℕ} → OneOrTwo w → FitsWhole w
fits_whole = of_both FitsWhole choosing.fits_whole crossing.fits_whole

-- the outer columns go by their own cells alone
front_same : {w : ℕ} → OneOrTwo w → (h n : ℕ) (pairs holds l t : List ℕ) → Pairable (2 * h) pairs → Alike (w * h) l t → Front w h n pairs holds l → Front w h n pairs holds t
front_same {w = w} one h n pairs holds l t pp s f =
    let low : Alike (before w h) l t = λ c p. s c (omega (arith, before_last one h)) in
    record {
      number = sym (value_alike (before w h) l t low) ∙ f.number;
      bits = λ c p. rw (← s c p) (f.bits c p);
      held = λ c p q. sym (s c p) ∙ f.held c p q;
      agrees = λ j p busy.
          let b = cell_below w h j _ p (busy_below (2 * h) pairs j pp p busy) in
          sym (s (before w h + wanted_cell w pairs j) (omega (arith, before_last one h))) ∙ f.agrees j p busy ∙ position_alike w h l t j _ p low;
    }

-- every setting that fits has outer columns of number n or a later one
abbrev pub Past : ℕ → ℕ → ℕ → List ℕ → List ℕ → Type 0
Past w k n pairs holds = (t : List ℕ) → Fits (halving w (suc k)) pairs holds t → n ≤ value (before w (lines_at k)) t

module _ {w : ℕ} (one : OneOrTwo w) (k n : ℕ) (pairs holds : List ℕ) (past : Past w k n pairs holds) where
  -- no setting with number n fits
  past_next : ((t : List ℕ) → Fits (halving w (suc k)) pairs holds t → value (before w (lines_at k)) t ≡ n → ⊥) → Past w k (n + 1) pairs holds
  past_next h t f = elim (dec_le (n + 1) (value (before w (lines_at k)) t)) [ yes p ↦ p | no p ↦ absurd (h t f (omega (arith, past t f))) ]

  pub past_front : ((t : List ℕ) → Front w (lines_at k) n pairs holds t → ⊥) → Past w k (n + 1) pairs holds
  past_front h = past_next (λ t f e. h t (subst (λ (x : ℕ). Front w (lines_at k) x pairs holds t) e (fits_front one k pairs holds t f)))

  pub past_half : (s a : List ℕ) (b : ℕ) → b < 2 → Pairable (lines_at (suc k)) pairs → Front w (lines_at k) n pairs holds s → Halved w (lines_at k) (lines_at k) pairs s b a → Unfit (halving w k) a (half w k b holds) → Past w k (n + 1) pairs holds
  past_half s a b p pp front h fails = past_next (λ t f e. fails (half w k b t) (fits_half one k n pairs holds s t a b p pp front f e h))

  pub past_all : 2 ^ before w (lines_at k) ≤ n → Unfit (halving w (suc k)) pairs holds
  past_all p t f = omega (arith, past t f, value_below (before w (lines_at k)) t (λ c q. f.lawful.below c (omega (arith, before_last one (lines_at k)))))

  -- the first that serve, with both halves settled
  pub first_found : (l s u v hs hu hv a₀ a₁ : List ℕ) → k < 4 → Pairable (lines_at (suc k)) pairs → Split w k l s u v → Split w k holds hs hu hv
      → Foremost w (lines_at k) n pairs holds s → Halved w (lines_at k) (lines_at k) pairs s 0 a₀ → Halved w (lines_at k) (lines_at k) pairs s 1 a₁
      → First (halving w k) a₀ hu u → First (halving w k) a₁ hv v → First (halving w (suc k)) pairs holds l
  first_found l s u v hs hu hv a₀ a₁ small pp sl sh fore h₀ h₁ f₀ f₁ =
      record {
        fits = fits_whole one k n pairs holds l a₀ a₁ pp (omega (arith, lines_few k small)) size front (halved_same w (lines_at k) pairs s l a₀ 0 low h₀) (halved_same w (lines_at k) pairs s l a₁ 1 low h₁) g₀.fits g₁.fits;
        first = first;
      }
    where
      size : length l ≡ cells_at w (suc k)
      size = rw sl.is (simp length-append (omega (arith, sl.front, sl.upper, sl.lower)))

      alike : Alike (w * lines_at k) s l
      alike c p = rw sl.is (sym (get_or_append_left s (u ++ v) 0 c (omega (arith, sl.front))))

      low : Alike (lines_at k) s l
      low c p = alike c (omega (arith, before_last one (lines_at k)))

      front : Front w (lines_at k) n pairs holds l
      front = front_same one (lines_at k) n pairs holds s l pp alike fore.front

      g₀ : First (halving w k) a₀ (half w k 0 holds) (half w k 0 l)
      g₀ = rw (upper_is sh, upper_is sl) f₀

      g₁ : First (halving w k) a₁ (half w k 1 holds) (half w k 1 l)
      g₁ = rw (lower_is sh, lower_is sl) f₁

      -- once the outer columns are the same, the halves decide
      at_same : (t : List ℕ) → Fits (halving w (suc k)) pairs holds t → value (before w (lines_at k)) t ≡ n → Alike (w * lines_at k) l t ⊎ Differ (w * lines_at k) l t → (t ≡ l) ⊎ Before l t
      at_same t f e (inl d) =
          halves_order w k l t size f.lawful.size d
          (g₀.first (half w k 0 t) (fits_half one k n pairs holds s t a₀ 0 (omega arith) pp fore.front f e h₀))
          (g₁.first (half w k 1 t) (fits_half one k n pairs holds s t a₁ 1 (omega arith) pp fore.front f e h₁))
      at_same t f e (inr d) = inr (before_differ (w * lines_at k) l t (omega (arith, size)) d)

      first : (t : List ℕ) → Fits (halving w (suc k)) pairs holds t → (t ≡ l) ⊎ Before l t
      first t f =
          let later = past t f in
          let whole = before_last one (lines_at k) in
          elim (dec_lt n (value (before w (lines_at k)) t)) [
            | yes p ↦
                inr (before_differ (before w (lines_at k)) l t (omega (arith, size))
                (value_less (before w (lines_at k)) l t (λ c q. front.bits c (omega arith)) (λ c q. f.lawful.below c (omega arith)) (rw front.number p)))
            | no p ↦
                let e : value (before w (lines_at k)) t ≡ n = omega arith in
                let g : Front w (lines_at k) n pairs holds t = subst (λ (x : ℕ). Front w (lines_at k) x pairs holds t) e (fits_front one k pairs holds t f) in
                at_same t f e (least_differ (w * lines_at k) l t (λ d q. rw (← alike d q) (fore.least t g d q)))
          ]
