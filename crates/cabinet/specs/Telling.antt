-- What every log of a cabinet tells, after every row.
use Rattle.std.specs.Prelude.{◌≡◌, ℕ, ◌<◌, List, [], ◌∷◌, length, Ok, Err, Result, slice_index_or}
use Rattle.card.specs.declared.fault.Cause.TheVariants.{NoSetting}
use Rattle.card.specs.declared.fault.Layer.TheVariants.{Card}
use Rattle.card.specs.declared.fault.Fault.{Fault}
use Rattle.card.specs.Faults.{fault}
use Rattle.card.specs.Meaning.{Meaning, Same}
use Rattle.card.specs.Settling.{none, First, Unfit}
use Rattle.card.specs.Plans.{Free}
use Rattle.cabinet.specs.Orders.{Order, Force, Row, wanted, in_force, idle, Clear, Carriable, stuck}
use Rattle.cabinet.specs.Logs.{Standing, Log, Call, Carry, Routed}

-- no setting fits these pairs and holds
abbrev pub NothingFits : Meaning → Force → Type 0
NothingFits m f = Unfit m f.pairs f.holds

-- an order is refused exactly when nothing fits what it wanted, and then for want of a setting
abbrev pub Judged : Meaning → Force → Order → Result ℕ Fault → Type 0
Judged m f o (Ok n) = NothingFits m (wanted o f) → ⊥
Judged m f o (Err e) = NothingFits m (wanted o f) × (e ≡ fault NoSetting Card (stuck o))

-- a route is the pairs, inverted: each output has its input, and an output without a pair has none
pub record Inverted (lines : ℕ) (pairs route : List ℕ) : Type 0 where
  pub size : length route ≡ lines
  pub paired : (i o : ℕ) → i < lines → o < lines → slice_index_or pairs i none ≡ o → slice_index_or route o none ≡ i
  pub silent : (o : ℕ) → o < lines → Free lines pairs o → slice_index_or route o none ≡ none

-- a carry of the right lengths is done, by the pairs
abbrev pub Delivered : Meaning → Force → Result (List ℕ) Fault → Type 0
Delivered m f (Ok route) = Inverted m.lines f.pairs route
Delivered m f (Err e) = ⊥

-- what the last row of a log tells, if its order broke no earlier rule
abbrev pub Told : Meaning → List Row → Type 0
Told m [] = Unit {0}
Told m (Row.commissioned lines cells ∷ rows) = Unit {0}
Told m (Row.ordered o a ∷ rows) = Clear m (in_force rows) o → Judged m (in_force rows) o a
Told m (Row.carried a b r ∷ rows) = Carriable m a b → Delivered m (in_force rows) r

-- two cabinets have the same setting, and the next carry of each has the same route
pub record Agree (m : Meaning) (t : Standing) (n : Meaning) (u : Standing) : Type 0 where
  pub setting : u.setting ≡ t.setting
  pub route : (there here : List ℕ) → Routed n u there → Routed m t here → there ≡ here

-- another log, on a card that means the same, read down to any row: if it has there the same pairs and holds in force, the cabinets agree
abbrev pub Matched : (m : Meaning) → List Row → Standing → (n : Meaning) (others : List Row) (u : Standing) → Log n others u → Type 0
Matched m rows t n [] u other = Unit {0}
Matched m rows t n (Row.commissioned lines cells ∷ others) u other = in_force rows ≡ idle lines cells → Agree m t n u
Matched m rows t n (Row.ordered o a ∷ others) u other = (in_force rows ≡ in_force (Row.ordered o a ∷ others) → Agree m t n u) × Matched m rows t n others other.0 other.1
Matched m rows t n (Row.carried a b r ∷ others) u other = (in_force rows ≡ in_force others → Agree m t n u) × Matched m rows t n others other.0 other.1

-- what a log tells at its last row
pub record ToldAt (m : Meaning) (rows : List Row) (t : Standing) : Type 0 where
  -- the setting is the first that fits the pairs and holds in force
  pub first : First m (in_force rows).pairs (in_force rows).holds t.setting
  -- the row was refused exactly when nothing fits, and a carry went by the pairs
  pub row : Told m rows
  -- nothing but the pairs and holds in force tells on the setting
  pub alone : (n : Meaning) → Same m n → (others : List Row) (u : Standing) (other : Log n others u) → Matched m rows t n others u other

-- it tells so after every row
abbrev pub Throughout : (m : Meaning) (rows : List Row) (t : Standing) → Log m rows t → Type 0
Throughout m [] t log = Unit {0}
Throughout m (Row.commissioned lines cells ∷ rows) t log = ToldAt m (Row.commissioned lines cells ∷ rows) t
Throughout m (Row.ordered o a ∷ rows) t log = ToldAt m (Row.ordered o a ∷ rows) t × Throughout m rows log.0 log.1
Throughout m (Row.carried a b r ∷ rows) t log = ToldAt m (Row.carried a b r ∷ rows) t × Throughout m rows log.0 log.1

-- an order after any log that led to what stood: it meets its rule, so that the log with its row is the log of what stands now, and tells all that after every row
pub record Follows (m : Meaning) (s : Standing) (o : Order) (a : Result ℕ Fault) (t : Standing) : Type 0 where
  pub call : (rows : List Row) → Log m rows s → Call m s o a t
  pub tells : (rows : List Row) (log : Log m rows s) → Throughout m (Row.ordered o a ∷ rows) t (s, log, call rows log)

-- the same of a carry, which leaves what stood
pub record FollowsCarry (m : Meaning) (s : Standing) (a b : ℕ) (r : Result (List ℕ) Fault) : Type 0 where
  pub call : (rows : List Row) → Log m rows s → Carry m s a b r s
  pub tells : (rows : List Row) (log : Log m rows s) → Throughout m (Row.carried a b r ∷ rows) s (s, log, call rows log)
