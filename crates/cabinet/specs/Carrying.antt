-- What a carry brings to the outputs, at any kind of payload.
use Rattle.std.specs.Prelude.{◌≡◌, ℕ, ◌-◌, ◌<◌, List, length, take, drop, replicate, Ok, Err, Result, ◌≢◌, slice_index_or}
use Rattle.card.specs.declared.fault.Fault.{Fault}
use Rattle.card.specs.Meaning.{Meaning, Same}
use Rattle.card.specs.Settling.{none}
use Rattle.card.specs.Plans.{Free}
use Rattle.cabinet.specs.Orders.{Row, in_force}
use Rattle.cabinet.specs.Logs.{Standing, Log, Routed}
use Rattle.cabinet.specs.Telling.{FollowsCarry}

-- the outputs by a route: each has the payload of its input, or silence
pub record Sent {P : Type 0} (silent : P) (given : List P) (route : List ℕ) (out : List P) : Type 0 where
  pub size : length out ≡ length route
  pub got : (o : ℕ) → o < length route → (slice_index_or route o none ≢ none) → slice_index_or out o silent ≡ slice_index_or given (slice_index_or route o none) silent
  pub quiet : (o : ℕ) → o < length route → slice_index_or route o none ≡ none → slice_index_or out o silent ≡ silent

-- the outputs by pairs: each paired input's payload is at its output, and silence at all others
pub record Arrived {P : Type 0} (silent : P) (lines : ℕ) (pairs : List ℕ) (given out : List P) : Type 0 where
  pub paired : (i o : ℕ) → i < lines → o < lines → slice_index_or pairs i none ≡ o → slice_index_or out o silent ≡ slice_index_or given i silent
  pub others : (o : ℕ) → o < lines → Free lines pairs o → slice_index_or out o silent ≡ silent

-- a done carry that filled so many outputs: its row, its outputs by the row's route, and so by the pairs in force; and the same payloads carried by any cabinet with the same pairs and holds in force, on a card that means the same, leave the same outputs
pub record Went {P : Type 0} (silent : P) (m : Meaning) (s : Standing) (given : List P) (filled : ℕ) (out : List P) : Type 0 where
  pub route : List ℕ
  pub sent : Sent silent given route out
  pub log : FollowsCarry m s (length given) filled (Ok route)
  pub arrived : (rows : List Row) → Log m rows s → Arrived silent m.lines (in_force rows).pairs given out
  pub same : (rows : List Row) → Log m rows s → (n : Meaning) → Same m n → (others : List Row) (u : Standing) → Log n others u → in_force rows ≡ in_force others → (there : List ℕ) (left : List P) → Routed n u there → Sent silent given there left → left ≡ out

-- what a carry answers, and what it leaves in the buffer
abbrev pub Carried : {P : Type 0} → P → Meaning → Standing → List P → List P → List P → Result (Unit {0}) Fault → Type 0
Carried silent m s given before out (Ok x) = Went silent m s given (length before) out
Carried silent m s given before out (Err e) = (out ≡ before) × FollowsCarry m s (length given) (length before) (Err e)

-- what a carry into a table of its own answers: the outputs, and silence past the last line
abbrev pub CarriedOut : {P : Type 0} → P → Meaning → Standing → List P → Result (List P) Fault → Type 0
CarriedOut silent m s given (Ok table) = Went silent m s given m.lines (take m.lines table) × (drop m.lines table ≡ replicate (16 - m.lines) silent)
CarriedOut silent m s given (Err e) = FollowsCarry m s (length given) m.lines (Err e)
