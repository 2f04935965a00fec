-- What the check of another house's sheet tells.
use Rattle.std.specs.Prelude.{ℕ, List, Result}
use Rattle.card.specs.declared.fault.Fault.{Fault}
use Rattle.card.specs.Meaning.{Meaning}
use Rattle.sheets.specs.declared.Verdict.{Verdict}
use Rattle.sheets.specs.Checking.{VerdictOn}
use Rattle.sheets.specs.Sole.{Sole}
use Rattle.cabinet.specs.Orders.{Row, in_force}
use Rattle.cabinet.specs.Logs.{Standing, Log}

-- by every log that leads to what stands, the answer is the one verdict on the sheet for the pairs and holds in force
abbrev pub Checked : Meaning → Standing → List ℕ → Result Verdict Fault → Type 0
Checked m s sheet r = (rows : List Row) → Log m rows s → Sole (VerdictOn m (in_force rows).pairs (in_force rows).holds sheet) r
