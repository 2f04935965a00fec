-- What the calls on a card by its kind and line count answer.
use Rattle.std.specs.Prelude.{◌≡◌, ℕ, List, length, Ok, Err, Result}
use Rattle.card.specs.declared.fault.Cause.TheVariants.{UnknownCard, WrongLength}
use Rattle.card.specs.declared.fault.Layer.TheVariants.{Cabinet, Card}
use Rattle.card.specs.declared.fault.Fault.{Fault}
use Rattle.card.specs.Faults.{fault}
use Rattle.card.specs.Meaning.{Meaning}
use Rattle.card.specs.Plans.{Lines, Plannable, Unplannable}
use Rattle.card.specs.Settling.{Settled}
use Rattle.kinds.specs.Kinds.{Kind}
use Rattle.cabinet.specs.Orders.{Carriable}

-- no card is of this kind with n lines, or the card answers by a rule
pub data OnCard {A : Type 0} (k n : ℕ) (rule : Meaning → Result A Fault → Type 0) : Result A Fault → Type 0 where
  unknown : ((m : Meaning) → Kind k n m → ⊥) → OnCard k n rule (Err (fault UnknownCard Card n))
  answered : (m : Meaning) (r : Result A Fault) → Kind k n m → rule m r → OnCard k n rule r

-- settling pairs of any number: they break a rule of plans, or the plan of them is settled
pub data SettledPairs (m : Meaning) (pairs holds before after : List ℕ) : Result (Unit {0}) Fault → Type 0 where
  unplanned : (e : Fault) → Unplannable (Lines (length pairs)) (length pairs) pairs e → SettledPairs m pairs holds before after (Err e)
  planned : (r : Result (Unit {0}) Fault) → Plannable (Lines (length pairs)) (length pairs) pairs → Settled m pairs holds before after r → SettledPairs m pairs holds before after r

-- a carry of a payloads to b outputs fills them all, or is refused for its lengths
abbrev pub CarriedCount : ℕ → ℕ → Meaning → Result ℕ Fault → Type 0
CarriedCount a b m (Ok filled) = Carriable m a b × (filled ≡ b)
CarriedCount a b m (Err e) = (Carriable m a b → ⊥) × (e ≡ fault WrongLength Cabinet 0)
