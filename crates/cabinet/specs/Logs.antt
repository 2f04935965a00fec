-- What makes rows the log of a cabinet: commissioning, the orders' rules, and what the card's settling answered.
use Rattle.std.specs.Prelude.{◌≡◌, ℕ, zero, suc, ◌+◌, ◌<◌, cond, List, [], ◌∷◌, length, get_or, replicate, Ok, Err, Result, ◌==◌, slice_index, slice_index_or}
use Rattle.card.specs.declared.fault.Cause.TheVariants.{WrongLength}
use Rattle.card.specs.declared.fault.Layer.TheVariants.{Cabinet}
use Rattle.card.specs.declared.fault.Fault.{Fault}
use Rattle.card.specs.Faults.{fault}
use Rattle.card.specs.Meaning.{Meaning}
use Rattle.card.specs.Settling.{none, Settled}
use Rattle.cabinet.specs.Orders.{Order, Row, Force, idle, wanted, Clear, Broken, Carriable}

-- what stands in a cabinet: the pairs and holds in force, and the setting of its cells
pub record Standing : Type 0 where
  pub force : Force
  pub setting : List ℕ

-- in how many of the first n cells two settings differ
abbrev pub moved : ℕ → List ℕ → List ℕ → ℕ
moved zero a b = 0
moved (suc n) a b = moved n a b + cond (slice_index a n == slice_index b n) 0 1

-- what the card's settling answered for what an order wanted, and the setting that it left
abbrev pub Answered : Meaning → Standing → Order → Result (Unit {0}) Fault → List ℕ → Type 0
Answered m s o r setting = Settled m (wanted o s.force).pairs (wanted o s.force).holds s.setting setting r

-- a card's fault as an order passes it on: a patch puts its input in the place, a hold its cell
abbrev pub placed : Order → Fault → Fault
placed (Order.plan ps) e = e
placed (Order.patch i o) e = fault e.cause e.layer i
placed (Order.drop i) e = e
placed (Order.hold c p) e = fault e.cause e.layer c
placed (Order.release c) e = e

-- done: it broke no earlier rule, the card settled what it wanted, which is now in force, and the count is of the cells that moved
pub record Done (m : Meaning) (s : Standing) (o : Order) (n : ℕ) (t : Standing) : Type 0 where
  pub clear : Clear m s.force o
  pub settled : Answered m s o (Ok tt) t.setting
  pub force : t.force ≡ wanted o s.force
  pub count : n ≡ moved m.cells s.setting t.setting

-- refused: for an earlier rule, or else because the card refused to settle what it wanted
pub data Refused (m : Meaning) (s : Standing) (o : Order) : Fault → Type 0 where
  broken : {e : Fault} → Broken m s.force o e → Refused m s o e
  unsettled : {e : Fault} → Clear m s.force o → (d : Fault) → Answered m s o (Err d) s.setting → e ≡ placed o d → Refused m s o e

-- the rule of an order, from what stood to what stands; a refused one leaves what stood
abbrev pub Call : Meaning → Standing → Order → Result ℕ Fault → Standing → Type 0
Call m s o (Ok n) t = Done m s o n t
Call m s o (Err e) t = Refused m s o e × (t ≡ s)

-- an input that is not idle, and that ends at this output where the cells now stand
pub record Ends (m : Meaning) (s : Standing) (i o : ℕ) : Type 0 where
  pub input : i < m.lines
  pub busy : get_or s.force.pairs i none ≡ none → ⊥
  pub there : m.place s.setting i m.columns ≡ o

-- a route by the card's places: an output has the busy input that ends there, or none
pub record Routed (m : Meaning) (s : Standing) (route : List ℕ) : Type 0 where
  pub size : length route ≡ m.lines
  pub from : (i o : ℕ) → o < m.lines → Ends m s i o → slice_index_or route o none ≡ i
  pub quiet : (o : ℕ) → o < m.lines → ((i : ℕ) → Ends m s i o → ⊥) → slice_index_or route o none ≡ none

-- the rule of a carry: it goes where the card puts the lines, is refused for a wrong length alone, and leaves what stood
abbrev pub Carry : Meaning → Standing → ℕ → ℕ → Result (List ℕ) Fault → Standing → Type 0
Carry m s a b (Ok route) t = Carriable m a b × Routed m s route × (t ≡ s)
Carry m s a b (Err e) t = (Carriable m a b → ⊥) × (e ≡ fault WrongLength Cabinet 0) × (t ≡ s)

-- every line idle, no hold, and all cells at 0
pub record Commissioned (m : Meaning) (lines cells : ℕ) (s : Standing) : Type 0 where
  pub lines_are : lines ≡ m.lines
  pub cells_are : cells ≡ m.cells
  pub force : s.force ≡ idle lines cells
  pub setting : s.setting ≡ replicate cells 0

-- these rows are the log of a cabinet in which this stands: first its commissioning, then each row by its rule; the last row stands first
abbrev pub Log : Meaning → List Row → Standing → Type 0
Log m [] t = ⊥
Log m (Row.commissioned lines cells ∷ rows) t = Commissioned m lines cells t × (rows ≡ [])
Log m (Row.ordered o a ∷ rows) t = (s : Standing) × Log m rows s × Call m s o a t
Log m (Row.carried a b r ∷ rows) t = (s : Standing) × Log m rows s × Carry m s a b r t
