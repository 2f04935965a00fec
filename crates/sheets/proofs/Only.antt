-- The verdict on a sheet is the only one.
use Rattle.std.proofs.Common.{◌≡◌, ℕ, ◌<◌, List, get_or, Ok, Err, Result, sym, refl, ap, subst, ⊎_elim, arith}
use Rattle.card.specs.declared.fault.Cause.TheVariants.{SheetPosition, SheetHold, SheetPair}
use Rattle.card.specs.declared.fault.Layer.TheVariants.{Cabinet}
use Rattle.card.specs.declared.fault.Fault.{Fault}
use Rattle.card.specs.Faults.{fault}
use Rattle.card.specs.Meaning.{Meaning}
use Rattle.card.specs.Placing.{Misset}
use Rattle.card.specs.Settling as settling
use Rattle.card.specs.Settling.{none, Carries, Keeps, Fits, Before}
use Rattle.card.proofs.Firsts.{before_asym}
use Rattle.card.proofs.One.{lowest_one}
use Rattle.sheets.specs.declared.Verdict.{Verdict}
use Rattle.sheets.specs.declared.Verdict.TheVariants.{First, Other}
use Rattle.sheets.specs.Checking.{KeptAt, Unkept, CarriedAt, Uncarried, Unfitting, Compared, Later, VerdictOn}
use Rattle.sheets.specs.Sole.{Sole}
use Rattle.sheets.proofs.Refusals.{unlawful}

module _ (m : Meaning) (pairs holds sheet : List ℕ) where
  misset_one : (c d : ℕ) → Misset m sheet c → Misset m sheet d → c ≡ d
  misset_one c d a b = lowest_one (λ k. get_or sheet k 0 < m.positions k) c d a.lowest (λ h. omega (arith, a.outside)) b.lowest (λ h. omega (arith, b.outside))

  unkept_one : (c d : ℕ) → Unkept m holds sheet c → Unkept m holds sheet d → c ≡ d
  unkept_one c d a b = lowest_one (λ k. KeptAt holds sheet k) c d a.lowest (λ h. a.differs (h a.held)) b.lowest (λ h. b.differs (h b.held))

  uncarried_one : (i j : ℕ) → Uncarried m pairs sheet i → Uncarried m pairs sheet j → i ≡ j
  uncarried_one i j a b = lowest_one (λ k. CarriedAt m pairs sheet k) i j a.lowest (λ h. a.elsewhere (h a.busy)) b.lowest (λ h. b.elsewhere (h b.busy))

  unfitting_one : (e f : Fault) → Unfitting m pairs holds sheet e → Unfitting m pairs holds sheet f → e ≡ f
  unfitting_one e f (Unfitting.wrong_length a) (Unfitting.wrong_length b) = refl
  unfitting_one e f (Unfitting.wrong_length a) (Unfitting.wrong_position s c b) = absurd (a s)
  unfitting_one e f (Unfitting.wrong_length a) (Unfitting.wrong_hold l c b) = absurd (a l.size)
  unfitting_one e f (Unfitting.wrong_length a) (Unfitting.wrong_pair l k i b) = absurd (a l.size)
  unfitting_one e f (Unfitting.wrong_position s c a) (Unfitting.wrong_length b) = absurd (b s)
  unfitting_one e f (Unfitting.wrong_position s c a) (Unfitting.wrong_position t d b) = ap (λ (x : ℕ). fault SheetPosition Cabinet x) (misset_one c d a b)
  unfitting_one e f (Unfitting.wrong_position s c a) (Unfitting.wrong_hold l d b) = absurd (unlawful m sheet c a l)
  unfitting_one e f (Unfitting.wrong_position s c a) (Unfitting.wrong_pair l k i b) = absurd (unlawful m sheet c a l)
  unfitting_one e f (Unfitting.wrong_hold l c a) (Unfitting.wrong_length b) = absurd (b l.size)
  unfitting_one e f (Unfitting.wrong_hold l c a) (Unfitting.wrong_position s d b) = absurd (unlawful m sheet d b l)
  unfitting_one e f (Unfitting.wrong_hold l c a) (Unfitting.wrong_hold n d b) = ap (λ (x : ℕ). fault SheetHold Cabinet x) (unkept_one c d a b)
  unfitting_one e f (Unfitting.wrong_hold l c a) (Unfitting.wrong_pair n k i b) = absurd (a.differs (k c a.inside a.held))
  unfitting_one e f (Unfitting.wrong_pair l k i a) (Unfitting.wrong_length b) = absurd (b l.size)
  unfitting_one e f (Unfitting.wrong_pair l k i a) (Unfitting.wrong_position s d b) = absurd (unlawful m sheet d b l)
  unfitting_one e f (Unfitting.wrong_pair l k i a) (Unfitting.wrong_hold n d b) = absurd (b.differs (k d b.inside b.held))
  unfitting_one e f (Unfitting.wrong_pair l k i a) (Unfitting.wrong_pair n q j b) = ap (λ (x : ℕ). fault SheetPair Cabinet x) (uncarried_one i j a b)

  misfits : (e : Fault) → Unfitting m pairs holds sheet e → Fits m pairs holds sheet → ⊥
  misfits e (Unfitting.wrong_length a) ok = a ok.lawful.size
  misfits e (Unfitting.wrong_position s c a) ok = unlawful m sheet c a ok.lawful
  misfits e (Unfitting.wrong_hold l c a) ok = a.differs (ok.keeps c a.inside a.held)
  misfits e (Unfitting.wrong_pair l k i a) ok = a.elsewhere (ok.carries i a.inside a.busy)

  not_later : settling.First m pairs holds sheet → Later m pairs holds sheet → ⊥
  not_later f l = ⊎_elim (same f l) (λ b. before_asym sheet l.earlier b l.before) (f.first l.earlier l.earlier_fits)
    where
      same : settling.First m pairs holds sheet → (l : Later m pairs holds sheet) → l.earlier ≡ sheet → ⊥
      same f l e = let b : Before sheet sheet = subst (λ (x : List ℕ). Before x sheet) e l.before in before_asym sheet sheet b b

  pub verdict_one : (r q : Result Verdict Fault) → VerdictOn m pairs holds sheet r → VerdictOn m pairs holds sheet q → q ≡ r
  verdict_one (Ok First) (Ok First) a b = refl
  verdict_one (Ok First) (Ok Other) a b = absurd (not_later a b)
  verdict_one (Ok First) (Err e) a b = absurd (misfits e b a.fits)
  verdict_one (Ok Other) (Ok First) a b = absurd (not_later b a)
  verdict_one (Ok Other) (Ok Other) a b = refl
  verdict_one (Ok Other) (Err e) a b = absurd (misfits e b a.fits)
  verdict_one (Err e) (Ok First) a b = absurd (misfits e a b.fits)
  verdict_one (Err e) (Ok Other) a b = absurd (misfits e a b.fits)
  verdict_one (Err e) (Err f) a b = ap (λ (x : Fault). Err x) (unfitting_one f e b a)

  -- beside the first setting that fits, the check gives the verdict
  compared_verdict : (standing : List ℕ) → settling.First m pairs holds standing → (r : Result Verdict Fault) → Compared m pairs holds standing sheet r → VerdictOn m pairs holds sheet r
  compared_verdict standing f (Ok First) c = subst (λ (x : List ℕ). settling.First m pairs holds x) (sym c.1) f
  compared_verdict standing f (Ok Other) c = record { fits = c.0; earlier = standing; earlier_fits = f.fits; before = ⊎_elim (λ e. absurd (c.1 e)) (λ b. b) (f.first sheet c.0) }
  compared_verdict standing f (Err e) c = c

  pub the_verdict : (standing : List ℕ) → settling.First m pairs holds standing → (r : Result Verdict Fault) → Compared m pairs holds standing sheet r → Sole (VerdictOn m pairs holds sheet) r
  the_verdict standing f r c = let v : VerdictOn m pairs holds sheet r = compared_verdict standing f r c in record { holds = v; only = λ q w. verdict_one r q v w }
