-- The rows that commands leave in a log, one by one and over a whole run.
use Rattle.std.specs.Prelude.{◌≡◌, ℕ, ◌-◌, List, [], ◌∷◌, length, take, drop, replicate, Ok, Err, Result}
use Rattle.std.specs.Borrow.{Bor}
use Rattle.card.specs.declared.fault.Fault.{Fault}
use Rattle.card.specs.Meaning.{Meaning}
use Rattle.payload.specs.declared.Frame.{Frame}
use Rattle.payload.specs.Silence.{quiet_number, quiet_frame}
use Rattle.cabinet.specs.declared.Cabinet.{Cabinet}
use Rattle.cabinet.specs.declared.command.Command.{Command}
use Rattle.cabinet.specs.declared.command.Command.TheVariants.{Plan, Patch, Drop, Hold, Release, RingOut, Voice}
use Rattle.cabinet.specs.declared.command.Reply.{Reply}
use Rattle.cabinet.specs.declared.command.Reply.TheVariants.{Moved, Numbers, Frames}
use Rattle.cabinet.specs.Orders.{Order, Row}
use Rattle.cabinet.specs.Logs.{Standing, Log}
use Rattle.cabinet.specs.Telling.{Throughout}
use Rattle.cabinet.specs.Carrying.{Sent}
use Rattle.cabinet.specs.States.{standing}

-- the numbers of the first n lines: in a ring-out each input sends its own
abbrev pub numbers : ℕ → List ℕ
numbers n = take n (0 ∷ 1 ∷ 2 ∷ 3 ∷ 4 ∷ 5 ∷ 6 ∷ 7 ∷ 8 ∷ 9 ∷ 10 ∷ 11 ∷ 12 ∷ 13 ∷ 14 ∷ 15 ∷ [])

-- an order and its answer, as the row has it
pub data Ordering : Command → Order → Type 0 where
  plan : (ps : Bor (List ℕ)) → Ordering (Plan ps) (Order.plan ps.now)
  patch : (i o : ℕ) → Ordering (Patch i o) (Order.patch i o)
  drop_input : (i : ℕ) → Ordering (Drop i) (Order.drop i)
  hold : (c p : ℕ) → Ordering (Hold c p) (Order.hold c p)
  release : (c : ℕ) → Ordering (Release c) (Order.release c)

-- a table of 16 outputs by a route of n: each line's payload is where the route has it, and silence past the last line
pub record Tabled {P : Type 0} (silent : P) (n : ℕ) (given : List P) (route : List ℕ) (table : List P) : Type 0 where
  pub sent : Sent silent given route (take n table)
  pub past : drop n table ≡ replicate (16 - n) silent

-- the row of a command and its reply, on a card of n lines
pub data Entry (n : ℕ) : Command → Result Reply Fault → Row → Type 0 where
  done : (c : Command) (o : Order) (k : ℕ) → Ordering c o → Entry n c (Ok (Moved k)) (Row.ordered o (Ok k))
  refused : (c : Command) (o : Order) (e : Fault) → Ordering c o → Entry n c (Err e) (Row.ordered o (Err e))
  rung : (route table : List ℕ) → Tabled quiet_number n (numbers n) route table → Entry n RingOut (Ok (Numbers table)) (Row.carried n n (Ok route))
  not_rung : (e : Fault) → Entry n RingOut (Err e) (Row.carried n n (Err e))
  voiced : (given : Bor (List Frame)) (route : List ℕ) (table : List Frame) → Tabled quiet_frame n given.now route table → Entry n (Voice given) (Ok (Frames table)) (Row.carried (length given.now) n (Ok route))
  not_voiced : (given : Bor (List Frame)) (e : Fault) → Entry n (Voice given) (Err e) (Row.carried (length given.now) n (Err e))

-- a refused command changes nothing at all
abbrev pub Kept : {C : Type 0} → Cabinet C → Cabinet C → Result Reply Fault → Type 0
Kept before after (Ok r) = Unit {0}
Kept before after (Err e) = after ≡ before

-- what the call of any command ensures: it adds its row to every log that leads to the cabinet, and the log so grown tells all that after every row
pub record Obeyed {C : Type 0} (meaning : C → Meaning) (before : Cabinet C) (c : Command) (r : Result Reply Fault) (after : Cabinet C) : Type 0 where
  pub card : after.card ≡ before.card
  pub kept : Kept before after r
  pub row : Row
  pub entry : Entry (meaning before.card).lines c r row
  pub log : (rows : List Row) → Log (meaning before.card) rows (standing (meaning before.card) before.state) → Log (meaning before.card) (row ∷ rows) (standing (meaning before.card) after.state)
  pub tells : (rows : List Row) (l : Log (meaning before.card) rows (standing (meaning before.card) before.state)) → Throughout (meaning before.card) (row ∷ rows) (standing (meaning before.card) after.state) (log rows l)

-- these rows stand on the old ones: one row for each command and its reply, in order; the last row stands first
abbrev pub Entered : ℕ → List Command → List (Result Reply Fault) → List Row → List Row → Type 0
Entered n [] [] old rows = rows ≡ old
Entered n [] (r ∷ rs) old rows = ⊥
Entered n (c ∷ cs) [] old rows = ⊥
Entered n (c ∷ cs) (r ∷ rs) old rows = (row : Row) × Entry n c r row × Entered n cs rs (row ∷ old) rows

-- a whole run on a card: commissioning, then a row for each command with its reply, are the log of a cabinet, and it tells all that logs tell, after every row
pub record Served (m : Meaning) (commands : List Command) (replies : List (Result Reply Fault)) : Type 0 where
  pub rows : List Row
  pub entered : Entered m.lines commands replies (Row.commissioned m.lines m.cells ∷ []) rows
  pub stands : Standing
  pub log : Log m rows stands
  pub tells : Throughout m rows stands log
