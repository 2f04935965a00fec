-- The answers of the calls by kind are the only ones.
use Rattle.std.proofs.Common.{◌≡◌, ℕ, List, Err, Result, refl, ap, subst}
use Rattle.card.specs.declared.fault.Fault.{Fault}
use Rattle.card.specs.Meaning.{Meaning}
use Rattle.card.specs.Placing.{Placed}
use Rattle.card.specs.Settling.{First, Settleable, Refusal, Settled}
use Rattle.kinds.specs.Kinds.{Kind}
use Rattle.sheets.specs.declared.Verdict.{Verdict}
use Rattle.sheets.specs.Checking.{VerdictOn}
use Rattle.sheets.specs.Sole.{Sole}
use Rattle.sheets.proofs.Only.{verdict_one}
use Rattle.by_kind.specs.Planning.{PlanFine, PlanBroken}
use Rattle.by_kind.specs.Answering.{room, SheetAnswer, PlaceAnswer, SettleAnswer}
use Rattle.kinds.proofs.Sole.{kind_one}
use Rattle.card.proofs.One.{plan_one, plan_clash}
use Rattle.by_kind.proofs.OneRefusal.{refusal_one, refusal_clash, settled_one, placed_one}

-- what holds of one card of a kind holds of each
moved : {k n : ℕ} (P : Meaning → Type 0) {m p : Meaning} → Kind k n m → Kind k n p → P p → P m
moved P a b h = subst P (kind_one a b) h

module _ (k n : ℕ) (pairs holds sheet : List ℕ) where
  sheet_one : (r q : Result Verdict Fault) → SheetAnswer k n pairs holds sheet r → SheetAnswer k n pairs holds sheet q → q ≡ r
  sheet_one r q (SheetAnswer.unknown a) (SheetAnswer.unknown b) = refl
  sheet_one r q (SheetAnswer.unknown a) (SheetAnswer.unplanned p f c d) = absurd (a p c)
  sheet_one r q (SheetAnswer.unknown a) (SheetAnswer.unsettled p f c d e) = absurd (a p c)
  sheet_one r q (SheetAnswer.unknown a) (SheetAnswer.checked p l v c d e f g) = absurd (a p c)
  sheet_one r q (SheetAnswer.unplanned m e a b) (SheetAnswer.unknown u) = absurd (u m a)
  sheet_one r q (SheetAnswer.unplanned m e a b) (SheetAnswer.unplanned p f c d) = ap (λ (x : Fault). Err x) (plan_one b (moved (λ x. PlanBroken x.lines pairs f) a c d))
  sheet_one r q (SheetAnswer.unplanned m e a b) (SheetAnswer.unsettled p f c d g) = absurd (plan_clash (moved (λ x. PlanFine x.lines pairs) a c d) b)
  sheet_one r q (SheetAnswer.unplanned m e a b) (SheetAnswer.checked p l v c d f g h) = absurd (plan_clash (moved (λ x. PlanFine x.lines pairs) a c d) b)
  sheet_one r q (SheetAnswer.unsettled m e a b w) (SheetAnswer.unknown u) = absurd (u m a)
  sheet_one r q (SheetAnswer.unsettled m e a b w) (SheetAnswer.unplanned p f c d) = absurd (plan_clash b (moved (λ x. PlanBroken x.lines pairs f) a c d))
  sheet_one r q (SheetAnswer.unsettled m e a b w) (SheetAnswer.unsettled p f c d g) = ap (λ (x : Fault). Err x) (refusal_one m pairs holds (room m) e f w (moved (λ x. Refusal x pairs holds (room x) f) a c g))
  sheet_one r q (SheetAnswer.unsettled m e a b w) (SheetAnswer.checked p l v c d f g h) = absurd (refusal_clash m pairs holds (room m) e l (moved (λ x. Settleable x pairs holds (room x)) a c f) (moved (λ x. First x pairs holds l) a c g) w)
  sheet_one r q (SheetAnswer.checked m l v a b w x y) (SheetAnswer.unknown u) = absurd (u m a)
  sheet_one r q (SheetAnswer.checked m l v a b w x y) (SheetAnswer.unplanned p f c d) = absurd (plan_clash b (moved (λ z. PlanBroken z.lines pairs f) a c d))
  sheet_one r q (SheetAnswer.checked m l v a b w x y) (SheetAnswer.unsettled p f c d g) = absurd (refusal_clash m pairs holds (room m) f l w x (moved (λ z. Refusal z pairs holds (room z) f) a c g))
  sheet_one r q (SheetAnswer.checked m l v a b w x y) (SheetAnswer.checked p j u c d f g h) = verdict_one m pairs holds sheet r q y (moved (λ z. VerdictOn z pairs holds sheet q) a c h)

  pub the_sheet : (r : Result Verdict Fault) → SheetAnswer k n pairs holds sheet r → Sole (SheetAnswer k n pairs holds sheet) r
  the_sheet r a = record { holds = a; only = λ q b. sheet_one r q a b }

module _ (k n : ℕ) (setting : List ℕ) (i s : ℕ) where
  place_one : (r q : Result ℕ Fault) → PlaceAnswer k n setting i s r → PlaceAnswer k n setting i s q → q ≡ r
  place_one r q (PlaceAnswer.unknown a) (PlaceAnswer.unknown b) = refl
  place_one r q (PlaceAnswer.unknown a) (PlaceAnswer.placed p v c d) = absurd (a p c)
  place_one r q (PlaceAnswer.placed m v a b) (PlaceAnswer.unknown u) = absurd (u m a)
  place_one r q (PlaceAnswer.placed m v a b) (PlaceAnswer.placed p w c d) = placed_one m setting i s r q b (moved (λ z. Placed z setting i s q) a c d)

  pub the_place : (r : Result ℕ Fault) → PlaceAnswer k n setting i s r → Sole (PlaceAnswer k n setting i s) r
  the_place r a = record { holds = a; only = λ q b. place_one r q a b }

abbrev Left : Type 0
Left = Result (Unit {0}) Fault × List ℕ

joined : {a b : Result (Unit {0}) Fault} {l k : List ℕ} → (a ≡ b) × (l ≡ k) → ◌≡◌ {A = Left} (a, l) (b, k)
joined e = let p = e.0 in let q = e.1 in cc

module _ (k n : ℕ) (pairs holds before : List ℕ) where
  settle_one : (r q : Left) → SettleAnswer k n pairs holds before r → SettleAnswer k n pairs holds before q → q ≡ r
  settle_one r q (SettleAnswer.unknown a) (SettleAnswer.unknown b) = refl
  settle_one r q (SettleAnswer.unknown a) (SettleAnswer.unplanned p f c d) = absurd (a p c)
  settle_one r q (SettleAnswer.unknown a) (SettleAnswer.settled p v l c d e) = absurd (a p c)
  settle_one r q (SettleAnswer.unplanned m e a b) (SettleAnswer.unknown u) = absurd (u m a)
  settle_one r q (SettleAnswer.unplanned m e a b) (SettleAnswer.unplanned p f c d) = joined (ap (λ (x : Fault). Err x) (plan_one b (moved (λ x. PlanBroken x.lines pairs f) a c d)), refl)
  settle_one r q (SettleAnswer.unplanned m e a b) (SettleAnswer.settled p v l c d f) = absurd (plan_clash (moved (λ x. PlanFine x.lines pairs) a c d) b)
  settle_one r q (SettleAnswer.settled m v l a b w) (SettleAnswer.unknown u) = absurd (u m a)
  settle_one r q (SettleAnswer.settled m v l a b w) (SettleAnswer.unplanned p f c d) = absurd (plan_clash b (moved (λ x. PlanBroken x.lines pairs f) a c d))
  settle_one r q (SettleAnswer.settled m v l a b w) (SettleAnswer.settled p u j c d f) = joined (settled_one m pairs holds before v u l j w (moved (λ z. Settled z pairs holds before j u) a c f))

  pub the_settling : (r : Left) → SettleAnswer k n pairs holds before r → Sole (SettleAnswer k n pairs holds before) r
  the_settling r a = record { holds = a; only = λ q b. settle_one r q a b }
