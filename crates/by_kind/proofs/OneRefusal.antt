-- Of the rules that a place or a settling can break, one is the first.
use Rattle.std.proofs.Common.{◌≡◌, ℕ, ◌<◌, List, get_or, Ok, Err, Result, refl, ap, arith}
use Rattle.card.specs.declared.fault.Cause.TheVariants.{NoPosition, SheetPosition}
use Rattle.card.specs.declared.fault.Layer.TheVariants.{Card}
use Rattle.card.specs.declared.fault.Fault.{Fault}
use Rattle.card.specs.Faults.{fault}
use Rattle.card.specs.Meaning.{Meaning}
use Rattle.card.specs.Placing.{Placeable, Unplaceable, Placed}
use Rattle.card.specs.Settling.{Holdable, Settleable, Unsettleable, Refusal, First, Settled}
use Rattle.card.proofs.Firsts.{first_same}
use Rattle.card.proofs.One.{same_self, lowest_one}
use Rattle.sheets.proofs.Refusals.{unlawful}

module _ (m : Meaning) (pairs holds buffer : List ℕ) where
  unsettleable_clash : (e : Fault) → Settleable m pairs holds buffer → Unsettleable m pairs holds buffer e → ⊥
  unsettleable_clash e ok (Unsettleable.wrong_length a) = a ok.sized
  unsettleable_clash e ok (Unsettleable.wrong_hold s c mis) = mis.outside (ok.holdable c mis.inside)

  unsettleable_one : (e f : Fault) → Unsettleable m pairs holds buffer e → Unsettleable m pairs holds buffer f → f ≡ e
  unsettleable_one e f (Unsettleable.wrong_length a) (Unsettleable.wrong_length b) = refl
  unsettleable_one e f (Unsettleable.wrong_length a) (Unsettleable.wrong_hold s c b) = absurd (a s)
  unsettleable_one e f (Unsettleable.wrong_hold s c a) (Unsettleable.wrong_length b) = absurd (b s)
  unsettleable_one e f (Unsettleable.wrong_hold s c a) (Unsettleable.wrong_hold t d b) = ap (λ (x : ℕ). fault NoPosition Card x) (lowest_one (λ k. Holdable m holds k) d c b.lowest b.outside a.lowest a.outside)

  pub refusal_one : (e f : Fault) → Refusal m pairs holds buffer e → Refusal m pairs holds buffer f → f ≡ e
  refusal_one e f (Refusal.broken a) (Refusal.broken b) = unsettleable_one e f a b
  refusal_one e f (Refusal.broken a) (Refusal.no_setting ok unfit) = absurd (unsettleable_clash e ok a)
  refusal_one e f (Refusal.no_setting ok unfit) (Refusal.broken b) = absurd (unsettleable_clash f ok b)
  refusal_one e f (Refusal.no_setting ok unfit) (Refusal.no_setting ok' unfit') = refl

  pub refusal_clash : (e : Fault) (l : List ℕ) → Settleable m pairs holds buffer → First m pairs holds l → Refusal m pairs holds buffer e → ⊥
  refusal_clash e l ok first (Refusal.broken a) = unsettleable_clash e ok a
  refusal_clash e l ok first (Refusal.no_setting ok' unfit) = unfit l first.fits

  pub settled_one : (r q : Result (Unit {0}) Fault) (l k : List ℕ) → Settled m pairs holds buffer l r → Settled m pairs holds buffer k q → (q ≡ r) × (k ≡ l)
  settled_one (Ok x) (Ok y) l k a b = (refl, first_same m m pairs holds l k (same_self m) a.1 b.1)
  settled_one (Ok x) (Err f) l k a b = absurd (refusal_clash f l a.0 a.1 b.0)
  settled_one (Err e) (Ok y) l k a b = absurd (refusal_clash e k b.0 b.1 a.0)
  settled_one (Err e) (Err f) l k a b = (ap (λ (x : Fault). Err x) (refusal_one e f a.0 b.0), rw (a.1, b.1))

module _ (m : Meaning) (setting : List ℕ) (i s : ℕ) where
  unplaceable_clash : (e : Fault) → Placeable m setting i s → Unplaceable m setting i s e → ⊥
  unplaceable_clash e ok (Unplaceable.wrong_length a) = a ok.lawful.size
  unplaceable_clash e ok (Unplaceable.wrong_position z c a) = unlawful m setting c a ok.lawful
  unplaceable_clash e ok (Unplaceable.no_input l h) = omega (arith, ok.input)
  unplaceable_clash e ok (Unplaceable.too_far l h k) = omega (arith, ok.reached)

  unplaceable_one : (e f : Fault) → Unplaceable m setting i s e → Unplaceable m setting i s f → f ≡ e
  unplaceable_one e f (Unplaceable.wrong_length a) (Unplaceable.wrong_length b) = refl
  unplaceable_one e f (Unplaceable.wrong_length a) (Unplaceable.wrong_position z c b) = absurd (a z)
  unplaceable_one e f (Unplaceable.wrong_length a) (Unplaceable.no_input l h) = absurd (a l.size)
  unplaceable_one e f (Unplaceable.wrong_length a) (Unplaceable.too_far l h k) = absurd (a l.size)
  unplaceable_one e f (Unplaceable.wrong_position z c a) (Unplaceable.wrong_length b) = absurd (b z)
  unplaceable_one e f (Unplaceable.wrong_position z c a) (Unplaceable.wrong_position w d b) = ap (λ (x : ℕ). fault SheetPosition Card x) (lowest_one (λ k. get_or setting k 0 < m.positions k) d c b.lowest (λ h. omega (arith, b.outside)) a.lowest (λ h. omega (arith, a.outside)))
  unplaceable_one e f (Unplaceable.wrong_position z c a) (Unplaceable.no_input l h) = absurd (unlawful m setting c a l)
  unplaceable_one e f (Unplaceable.wrong_position z c a) (Unplaceable.too_far l h k) = absurd (unlawful m setting c a l)
  unplaceable_one e f (Unplaceable.no_input l h) (Unplaceable.wrong_length b) = absurd (b l.size)
  unplaceable_one e f (Unplaceable.no_input l h) (Unplaceable.wrong_position w d b) = absurd (unlawful m setting d b l)
  unplaceable_one e f (Unplaceable.no_input l h) (Unplaceable.no_input l' h') = refl
  unplaceable_one e f (Unplaceable.no_input l h) (Unplaceable.too_far l' h' k') = absurd (omega arith)
  unplaceable_one e f (Unplaceable.too_far l h k) (Unplaceable.wrong_length b) = absurd (b l.size)
  unplaceable_one e f (Unplaceable.too_far l h k) (Unplaceable.wrong_position w d b) = absurd (unlawful m setting d b l)
  unplaceable_one e f (Unplaceable.too_far l h k) (Unplaceable.no_input l' h') = absurd (omega arith)
  unplaceable_one e f (Unplaceable.too_far l h k) (Unplaceable.too_far l' h' k') = refl

  pub placed_one : (r q : Result ℕ Fault) → Placed m setting i s r → Placed m setting i s q → q ≡ r
  placed_one (Ok x) (Ok y) a b = rw (a.1, b.1)
  placed_one (Ok x) (Err f) a b = absurd (unplaceable_clash f a.0 b)
  placed_one (Err e) (Ok y) a b = absurd (unplaceable_clash e b.0 a)
  placed_one (Err e) (Err f) a b = ap (λ (x : Fault). Err x) (unplaceable_one e f a b)
