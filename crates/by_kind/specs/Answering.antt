-- What the calls on a card by its kind answer: one constructor for each rule, in the order of the rules.
use Rattle.std.specs.Prelude.{ℕ, List, replicate, Err, Result}
use Rattle.card.specs.declared.fault.Cause.TheVariants.{UnknownCard}
use Rattle.card.specs.declared.fault.Layer.TheVariants.{Card}
use Rattle.card.specs.declared.fault.Fault.{Fault}
use Rattle.card.specs.Faults.{fault}
use Rattle.card.specs.Meaning.{Meaning}
use Rattle.card.specs.Placing.{Placed}
use Rattle.card.specs.Settling.{First, Settleable, Refusal, Settled}
use Rattle.kinds.specs.Kinds.{Kind}
use Rattle.sheets.specs.declared.Verdict.{Verdict}
use Rattle.sheets.specs.Checking.{VerdictOn}
use Rattle.by_kind.specs.Planning.{PlanFine, PlanBroken}

-- no card is of this kind with n lines
abbrev pub Unknown : ℕ → ℕ → Type 0
Unknown k n = (m : Meaning) → Kind k n m → ⊥

abbrev pub unknown_card : ℕ → Fault
unknown_card n = fault UnknownCard Card n

-- a buffer with room for a position of each cell
abbrev pub room : Meaning → List ℕ
room m = replicate m.cells 0

-- the check of a sheet: the card is unknown, else the plan breaks a rule, else it is not settled, else the verdict for the pairs and holds
pub data SheetAnswer (k n : ℕ) (pairs holds sheet : List ℕ) : Result Verdict Fault → Type 0 where
  unknown : Unknown k n → SheetAnswer k n pairs holds sheet (Err (unknown_card n))
  unplanned : (m : Meaning) (e : Fault) → Kind k n m → PlanBroken m.lines pairs e → SheetAnswer k n pairs holds sheet (Err e)
  unsettled : (m : Meaning) (e : Fault) → Kind k n m → PlanFine m.lines pairs → Refusal m pairs holds (room m) e → SheetAnswer k n pairs holds sheet (Err e)
  checked : (m : Meaning) (standing : List ℕ) (r : Result Verdict Fault) → Kind k n m → PlanFine m.lines pairs → Settleable m pairs holds (room m) → First m pairs holds standing → VerdictOn m pairs holds sheet r → SheetAnswer k n pairs holds sheet r

-- the column sheet
pub data PlaceAnswer (k n : ℕ) (setting : List ℕ) (i s : ℕ) : Result ℕ Fault → Type 0 where
  unknown : Unknown k n → PlaceAnswer k n setting i s (Err (unknown_card n))
  placed : (m : Meaning) (r : Result ℕ Fault) → Kind k n m → Placed m setting i s r → PlaceAnswer k n setting i s r

-- settling, and what it leaves in the buffer
pub data SettleAnswer (k n : ℕ) (pairs holds before : List ℕ) : Result (Unit {0}) Fault × List ℕ → Type 0 where
  unknown : Unknown k n → SettleAnswer k n pairs holds before (Err (unknown_card n), before)
  unplanned : (m : Meaning) (e : Fault) → Kind k n m → PlanBroken m.lines pairs e → SettleAnswer k n pairs holds before (Err e, before)
  settled : (m : Meaning) (r : Result (Unit {0}) Fault) (after : List ℕ) → Kind k n m → PlanFine m.lines pairs → Settled m pairs holds before after r → SettleAnswer k n pairs holds before (r, after)
