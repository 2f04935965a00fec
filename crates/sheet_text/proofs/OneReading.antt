-- The words of a text make one request, or break one rule first.
use Rattle.std.proofs.Common.{◌≡◌, ℕ, suc, ◌+◌, ◌≤◌, ◌⊎◌, List, [], ◌∷◌, length, get_or, Ok, Err, None, Option, codes, Result, sym, refl, ap, ◌∙◌, subst, inl, inr, ⊎_elim, arith}
use Rattle.std.specs.Option.{ok_or}
use Rattle.std.specs.Result.{IsErrAnd}
use Rattle.std.proofs.lemmas.Result.{err_from_is_err_and}
use Rattle.sheets.specs.Sole.{Sole}
use Rattle.words.specs.Numbers.{Number, Digit}
use Rattle.sheet_text.specs.declared.reading.Misread.{Misread}
use Rattle.sheet_text.proofs.Entries.{heads, tails}
use Rattle.sheet_text.specs.Lists.{Word, Entry, Entering, Entered, Unentered, Unnamed, Unvalued, Valued, Listed}
use Rattle.sheet_text.specs.declared.request.Request.{Request}
use Rattle.sheet_text.specs.Requests.{outcome, CardRead, ListRead, Asked, Reading}

number_one : {w : Word} {v u : ℕ} → Number w v → Number w u → u ≡ v
number_one a b = sym b.value ∙ a.value

dash_digit : {w : Word} {v : ℕ} → w ≡ codes "-" → Number w v → ⊥
dash_digit e n = omega (arith, (subst (λ (x : Word). Digit (get_or x 0 0)) e (n.digits 0 (omega (arith, n.some)))).0)

entry_one : {w : Word} {v u : ℕ} → Entry w v → Entry w u → u ≡ v
entry_one (inl p) (inl q) = q.1 ∙ sym p.1
entry_one (inl p) (inr n) = absurd (dash_digit p.0 n)
entry_one (inr n) (inl q) = absurd (dash_digit q.0 n)
entry_one (inr n) (inr k) = number_one n k

entering_one : {ws : List Word} {v u : ℕ} {a b : List Word} → Entering ws v a → Entering ws u b → (u ≡ v) × (b ≡ a)
entering_one {u = u} x y = (entry_one x.entry (subst (λ (w : Word). Entry w u) (heads y.are x.are) y.entry), tails y.are x.are)

valued_one : {ws : List Word} {name : Word} {v u : ℕ} {a b : List Word} → Valued ws name v a → Valued ws name u b → (u ≡ v) × (b ≡ a)
valued_one {u = u} x y =
    let t : y.word ∷ _ ≡ x.word ∷ _ = tails y.are x.are in
    (number_one x.number (subst (λ (w : Word). Number w u) (heads (sym t) refl) y.number), tails (sym t) refl)

-- entries after n others, as many as there are but at most 64 in all
abbrev Ended : ℕ → List ℕ → List Word → Type 0
Ended n vs rest = (n + length vs ≡ 64) ⊎ Unentered rest

entered_one : (n : ℕ) (ws : List Word) (vs us : List ℕ) (a b : List Word) → Entered ws vs a → Entered ws us b → Ended n vs a → Ended n us b → n + length vs ≤ 64 → n + length us ≤ 64 → (us ≡ vs) × (b ≡ a)
entered_one n ws [] [] a b e f p q few less = (refl, sym f ∙ e)
entered_one n ws [] (u ∷ us) a b e f p q few less = absurd (⊎_elim (λ z. omega arith) (λ none. none u f.0 (subst (λ (x : List Word). Entering x u f.0) e f.1)) p)
entered_one n ws (v ∷ vs) [] a b e f p q few less = absurd (⊎_elim (λ z. omega arith) (λ none. none v e.0 (subst (λ (x : List Word). Entering x v e.0) f e.1)) q)
entered_one n ws (v ∷ vs) (u ∷ us) a b e f p q few less =
    let here : (u ≡ v) × (f.0 ≡ e.0) = entering_one e.1 f.1 in
    let later : (us ≡ vs) × (b ≡ a) =
    entered_one (suc n) e.0 vs us a b e.2 (subst (λ (x : List Word). Entered x us b) here.1 f.2) (⊎_elim (λ z. inl (omega arith)) inr p) (⊎_elim (λ z. inl (omega arith)) inr q) (omega arith) (omega arith) in
    (both here.0 later.0, later.1)
  where
    both : u ≡ v → us ≡ vs → ◌≡◌ {A = List ℕ} (u ∷ us) (v ∷ vs)
    both g h = cc

listed_one : {ws : List Word} {vs us : List ℕ} {a b : List Word} → Listed ws vs a → Listed ws us b → (us ≡ vs) × (b ≡ a)
listed_one {ws = ws} {vs = vs} {us = us} {a = a} {b = b} x y =
    entered_one 0 ws vs us a b x.entered y.entered (⊎_elim (λ z. inl (omega arith)) inr x.ended) (⊎_elim (λ z. inl (omega arith)) inr y.ended) (omega (arith, x.few)) (omega (arith, y.few))

list_one : {ws : List Word} {name : Word} {vs us : List ℕ} {a b : List Word} → ListRead ws name vs a → ListRead ws name us b → (us ≡ vs) × (b ≡ a)
list_one {us = us} {b = b} x y = listed_one x.listed (subst (λ (z : List Word). Listed z us b) (tails y.named x.named) y.listed)

card_one : {ws : List Word} {k n j m : ℕ} {a b : List Word} → CardRead ws k n a → CardRead ws j m b → (j ≡ k) × (m ≡ n) × (b ≡ a)
card_one {m = m} {b = b} x y =
    let first : (_ ≡ _) × (y.between ≡ x.between) = valued_one x.kind y.kind in
    let second : (_ ≡ _) × (_ ≡ _) = valued_one x.lines (subst (λ (z : List Word). Valued z (codes "lines") m b) first.1 y.lines) in
    (first.0, second.0, second.1)

pub card_read : {ws between rest : List Word} {k n : ℕ} → Valued ws (codes "kind") k between → Valued between (codes "lines") n rest → CardRead ws k n rest
card_read v u = record { between = _; kind = v; lines = u }

plan_one : {ws : List Word} {k n j m : ℕ} {ps qs : List ℕ} {a a' b b' : List Word} → CardRead ws k n a → ListRead a (codes "plan") ps b → CardRead ws j m a' → ListRead a' (codes "plan") qs b' → (qs ≡ ps) × (b' ≡ b)
plan_one {qs = qs} {b' = b'} c p d q = list_one p (subst (λ (z : List Word). ListRead z (codes "plan") qs b') (card_one c d).2 q)

holds_one : {b b' c c' : List Word} {hs is : List ℕ} → b' ≡ b → ListRead b (codes "holds") hs c → ListRead b' (codes "holds") is c' → (is ≡ hs) × (c' ≡ c)
holds_one {c' = c'} {is = is} e h i = list_one h (subst (λ (z : List Word). ListRead z (codes "holds") is c') e i)

sheet_one : {c c' d d' : List Word} {ss ts : List ℕ} → c' ≡ c → ListRead c (codes "sheet") ss d → ListRead c' (codes "sheet") ts d' → (ts ≡ ss) × (d' ≡ d)
sheet_one {d' = d'} {ts = ts} e s t = list_one s (subst (λ (z : List Word). ListRead z (codes "sheet") ts d') e t)

-- a part that is missing is not there
no_lines_clash : {ws : List Word} {k j m : ℕ} {a b : List Word} → Valued ws (codes "kind") k a → Unvalued a (codes "lines") → CardRead ws j m b → ⊥
no_lines_clash {m = m} {b = b} v none c = none m b (subst (λ (z : List Word). Valued z (codes "lines") m b) (valued_one v c.kind).1 c.lines)

unnamed_clash : {a b c : List Word} {name : Word} {vs : List ℕ} → b ≡ a → Unnamed a name → ListRead b name vs c → ⊥
unnamed_clash e none l = none l.entries (sym e ∙ l.named)

asked : ℕ → ℕ → List ℕ → List ℕ → List ℕ → Asked
asked k n ps hs ss = record { kind = k; lines = n; plan = ps; holds = hs; sheet = ss }

same_asked : {k n j m : ℕ} {ps qs hs is ss ts : List ℕ} → j ≡ k → m ≡ n → qs ≡ ps → is ≡ hs → ts ≡ ss → asked j m qs is ts ≡ asked k n ps hs ss
same_asked a b c d e = cc

reading_one : (ws : List Word) (r q : Result Asked Misread) → Reading ws r → Reading ws q → q ≡ r
unfolding asked
reading_one ws r q₀ (Reading.no_kind u) (Reading.no_kind u') = refl
reading_one ws r q₀ (Reading.no_kind u) (Reading.no_lines k' a' v' u') = absurd (u _ _ v')
reading_one ws r q₀ (Reading.no_kind u) (Reading.no_plan k' n' a' c' u') = absurd (u _ _ c'.kind)
reading_one ws r q₀ (Reading.no_kind u) (Reading.no_holds k' n' ps' a' b' c' p' u') = absurd (u _ _ c'.kind)
reading_one ws r q₀ (Reading.no_kind u) (Reading.no_sheet k' n' ps' hs' a' b' d' c' p' h' u') = absurd (u _ _ c'.kind)
reading_one ws r q₀ (Reading.no_kind u) (Reading.no_end k' n' ps' hs' ss' a' b' d' e' c' p' h' s' u') = absurd (u _ _ c'.kind)
reading_one ws r q₀ (Reading.no_kind u) (Reading.read q' a' b' d' c' p' h' s') = absurd (u _ _ c'.kind)
reading_one ws r q₀ (Reading.no_lines k a v u) (Reading.no_kind u') = absurd (u' _ _ v)
reading_one ws r q₀ (Reading.no_lines k a v u) (Reading.no_lines k' a' v' u') = refl
reading_one ws r q₀ (Reading.no_lines k a v u) (Reading.no_plan k' n' a' c' u') = absurd (no_lines_clash v u c')
reading_one ws r q₀ (Reading.no_lines k a v u) (Reading.no_holds k' n' ps' a' b' c' p' u') = absurd (no_lines_clash v u c')
reading_one ws r q₀ (Reading.no_lines k a v u) (Reading.no_sheet k' n' ps' hs' a' b' d' c' p' h' u') = absurd (no_lines_clash v u c')
reading_one ws r q₀ (Reading.no_lines k a v u) (Reading.no_end k' n' ps' hs' ss' a' b' d' e' c' p' h' s' u') = absurd (no_lines_clash v u c')
reading_one ws r q₀ (Reading.no_lines k a v u) (Reading.read q' a' b' d' c' p' h' s') = absurd (no_lines_clash v u c')
reading_one ws r q₀ (Reading.no_plan k n a c u) (Reading.no_kind u') = absurd (u' _ _ c.kind)
reading_one ws r q₀ (Reading.no_plan k n a c u) (Reading.no_lines k' a' v' u') = absurd (no_lines_clash v' u' c)
reading_one ws r q₀ (Reading.no_plan k n a c u) (Reading.no_plan k' n' a' c' u') = refl
reading_one ws r q₀ (Reading.no_plan k n a c u) (Reading.no_holds k' n' ps' a' b' c' p' u') = absurd (unnamed_clash (card_one c c').2 u p')
reading_one ws r q₀ (Reading.no_plan k n a c u) (Reading.no_sheet k' n' ps' hs' a' b' d' c' p' h' u') = absurd (unnamed_clash (card_one c c').2 u p')
reading_one ws r q₀ (Reading.no_plan k n a c u) (Reading.no_end k' n' ps' hs' ss' a' b' d' e' c' p' h' s' u') = absurd (unnamed_clash (card_one c c').2 u p')
reading_one ws r q₀ (Reading.no_plan k n a c u) (Reading.read q' a' b' d' c' p' h' s') = absurd (unnamed_clash (card_one c c').2 u p')
reading_one ws r q₀ (Reading.no_holds k n ps a b c p u) (Reading.no_kind u') = absurd (u' _ _ c.kind)
reading_one ws r q₀ (Reading.no_holds k n ps a b c p u) (Reading.no_lines k' a' v' u') = absurd (no_lines_clash v' u' c)
reading_one ws r q₀ (Reading.no_holds k n ps a b c p u) (Reading.no_plan k' n' a' c' u') = absurd (unnamed_clash (card_one c' c).2 u' p)
reading_one ws r q₀ (Reading.no_holds k n ps a b c p u) (Reading.no_holds k' n' ps' a' b' c' p' u') = refl
reading_one ws r q₀ (Reading.no_holds k n ps a b c p u) (Reading.no_sheet k' n' ps' hs' a' b' d' c' p' h' u') = absurd (unnamed_clash (plan_one c p c' p').1 u h')
reading_one ws r q₀ (Reading.no_holds k n ps a b c p u) (Reading.no_end k' n' ps' hs' ss' a' b' d' e' c' p' h' s' u') = absurd (unnamed_clash (plan_one c p c' p').1 u h')
reading_one ws r q₀ (Reading.no_holds k n ps a b c p u) (Reading.read q' a' b' d' c' p' h' s') = absurd (unnamed_clash (plan_one c p c' p').1 u h')
reading_one ws r q₀ (Reading.no_sheet k n ps hs a b d c p h u) (Reading.no_kind u') = absurd (u' _ _ c.kind)
reading_one ws r q₀ (Reading.no_sheet k n ps hs a b d c p h u) (Reading.no_lines k' a' v' u') = absurd (no_lines_clash v' u' c)
reading_one ws r q₀ (Reading.no_sheet k n ps hs a b d c p h u) (Reading.no_plan k' n' a' c' u') = absurd (unnamed_clash (card_one c' c).2 u' p)
reading_one ws r q₀ (Reading.no_sheet k n ps hs a b d c p h u) (Reading.no_holds k' n' ps' a' b' c' p' u') = absurd (unnamed_clash (plan_one c' p' c p).1 u' h)
reading_one ws r q₀ (Reading.no_sheet k n ps hs a b d c p h u) (Reading.no_sheet k' n' ps' hs' a' b' d' c' p' h' u') = refl
reading_one ws r q₀ (Reading.no_sheet k n ps hs a b d c p h u) (Reading.no_end k' n' ps' hs' ss' a' b' d' e' c' p' h' s' u') = absurd (unnamed_clash (holds_one (plan_one c p c' p').1 h h').1 u s')
reading_one ws r q₀ (Reading.no_sheet k n ps hs a b d c p h u) (Reading.read q' a' b' d' c' p' h' s') = absurd (unnamed_clash (holds_one (plan_one c p c' p').1 h h').1 u s')
reading_one ws r q₀ (Reading.no_end k n ps hs ss a b d e c p h s u) (Reading.no_kind u') = absurd (u' _ _ c.kind)
reading_one ws r q₀ (Reading.no_end k n ps hs ss a b d e c p h s u) (Reading.no_lines k' a' v' u') = absurd (no_lines_clash v' u' c)
reading_one ws r q₀ (Reading.no_end k n ps hs ss a b d e c p h s u) (Reading.no_plan k' n' a' c' u') = absurd (unnamed_clash (card_one c' c).2 u' p)
reading_one ws r q₀ (Reading.no_end k n ps hs ss a b d e c p h s u) (Reading.no_holds k' n' ps' a' b' c' p' u') = absurd (unnamed_clash (plan_one c' p' c p).1 u' h)
reading_one ws r q₀ (Reading.no_end k n ps hs ss a b d e c p h s u) (Reading.no_sheet k' n' ps' hs' a' b' d' c' p' h' u') = absurd (unnamed_clash (holds_one (plan_one c' p' c p).1 h' h).1 u' s)
reading_one ws r q₀ (Reading.no_end k n ps hs ss a b d e c p h s u) (Reading.no_end k' n' ps' hs' ss' a' b' d' e' c' p' h' s' u') = refl
reading_one ws r q₀ (Reading.no_end k n ps hs ss a b d e c p h s u) (Reading.read q' a' b' d' c' p' h' s') = absurd (u (sym (sheet_one (holds_one (plan_one c p c' p').1 h h').1 s s').1))
reading_one ws r q₀ (Reading.read q a b d c p h s) (Reading.no_kind u') = absurd (u' _ _ c.kind)
reading_one ws r q₀ (Reading.read q a b d c p h s) (Reading.no_lines k' a' v' u') = absurd (no_lines_clash v' u' c)
reading_one ws r q₀ (Reading.read q a b d c p h s) (Reading.no_plan k' n' a' c' u') = absurd (unnamed_clash (card_one c' c).2 u' p)
reading_one ws r q₀ (Reading.read q a b d c p h s) (Reading.no_holds k' n' ps' a' b' c' p' u') = absurd (unnamed_clash (plan_one c' p' c p).1 u' h)
reading_one ws r q₀ (Reading.read q a b d c p h s) (Reading.no_sheet k' n' ps' hs' a' b' d' c' p' h' u') = absurd (unnamed_clash (holds_one (plan_one c' p' c p).1 h' h).1 u' s)
reading_one ws r q₀ (Reading.read q a b d c p h s) (Reading.no_end k' n' ps' hs' ss' a' b' d' e' c' p' h' s' u') = absurd (u' (sym (sheet_one (holds_one (plan_one c' p' c p).1 h' h).1 s' s).1))
reading_one ws r q₀ (Reading.read q a b d c p h s) (Reading.read q' a' b' d' c' p' h' s') = ap (λ (z : Asked). Ok z) (same_asked (card_one c c').0 (card_one c c').1 (plan_one c p c' p').0 (holds_one (plan_one c p c' p').1 h h').0 (sheet_one (holds_one (plan_one c p c' p').1 h h').1 s s').0)

pub the_reading : (ws : List Word) (r : Result Asked Misread) → Reading ws r → Sole (Reading ws) r
the_reading ws r a = record { holds = a; only = λ q b. reading_one ws r q a b }

-- what the exit of a `?` answers where a part is missing
pub missing : {A : Type 0} {ws : List Word} {o : Option A} {e d : Misread} (r : Result Request Misread) → o ≡ None → Err d ≡ ok_or o e → IsErrAnd r (λ y. y ≡ d) → Reading ws (Err e) → Sole (Reading ws) (outcome r)
missing {ws = ws} {o = o} {e = e} {d = d} r none gave left a =
    let p = err_from_is_err_and r left in
    let same : d ≡ e = cc (none, gave) in
    rw (p.1, p.2, same) (the_reading _ _ a)
