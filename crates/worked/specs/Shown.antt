-- A case of the code as a case of the table.
use Rattle.std.specs.Prelude.{ℕ, List, map, Option, Some, None}
use Rattle.std.specs.Borrow.{Bor}
use Rattle.worked.specs.declared.cases.Case as code
use Rattle.worked.specs.declared.cases.Hold.{Hold}
use Rattle.worked.specs.Cases.{Case, Entry, Outcome, first, nothing}

abbrev entry : Hold → Entry
entry h = record { at = h.cell; is = h.position }

abbrev outcome : Option (Bor (List ℕ)) → Outcome
outcome (Some l) = first l.now
outcome None = nothing

abbrev pub shown : code.Case → Case
shown c = record { kind = c.card.kind; lines = c.card.lines; pairs = c.pairs.now; holds = map entry c.holds.now; outcome = outcome c.setting }
