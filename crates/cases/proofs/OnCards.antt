-- What a call answers where no card is of its kind.
use Rattle.std.proofs.Common.{◌≡◌, ℕ, List, [], ◌∷◌, Ok, Err, Result, refl, subst}
use Rattle.std.specs.Result.{IsErrAnd}
use Rattle.std.proofs.lemmas.Result.{err_from_is_err_and}
use Rattle.card.specs.declared.fault.Cause.TheVariants.{UnknownCard}
use Rattle.card.specs.declared.fault.Layer.TheVariants.{Card}
use Rattle.card.specs.declared.fault.Fault.{Fault}
use Rattle.card.specs.Faults.{fault}
use Rattle.card.specs.Meaning.{Meaning}
use Rattle.kinds.specs.Kinds.{Kind}
use Rattle.cabinet.specs.Orders.{Row}
use Rattle.cabinet.specs.Logs.{Standing, Log, Carry}
use Rattle.cabinet.specs.Telling.{FollowsCarry}
use Rattle.cases.specs.Calls.{OnCard, CarriedCount}

pub unbuilt : {A : Type 0} {k n : ℕ} {e : Fault} (rule : Meaning → Result A Fault → Type 0) (r : Result A Fault) → IsErrAnd r (λ y. y ≡ e) → ((m : Meaning) → Kind k n m → ⊥) × (e ≡ fault UnknownCard Card n) → OnCard k n rule r
unbuilt rule r left why = let p = err_from_is_err_and r left in rw (p.1, p.2, why.1) (OnCard.unknown why.0)

-- how many outputs a carry by a fresh cabinet fills, where its card is known by another name
module _ (m n : Meaning) (s : Meaning → Standing) (a b : ℕ) (same : n ≡ m) (log : Log m (Row.commissioned m.lines m.cells ∷ []) (s m)) where
  call : (r : Result (List ℕ) Fault) → FollowsCarry n (s n) a b r → Carry m (s m) a b r (s m)
  call r f = let g : FollowsCarry m (s m) a b r = subst (λ (x : Meaning). FollowsCarry x (s x) a b r) same f in g.call (Row.commissioned m.lines m.cells ∷ []) log

  module _ (given out : ℕ) (given_is : a ≡ given) (out_is : b ≡ out) where
    pub carry_done : (route : List ℕ) → FollowsCarry n (s n) a b (Ok route) → CarriedCount given out m (Ok out)
    carry_done route f = (rw (← given_is, ← out_is) (call (Ok route) f).0, refl)

    pub carry_refused : (e : Fault) → FollowsCarry n (s n) a b (Err e) → CarriedCount given out m (Err e)
    carry_refused e f = (rw (← given_is, ← out_is) (call (Err e) f).0, (call (Err e) f).1)
