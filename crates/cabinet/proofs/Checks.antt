-- Beside the standing setting of any log, the check gives the one verdict.
use Rattle.std.proofs.Common.{ℕ, List, Result, subst}
use Rattle.card.specs.declared.fault.Fault.{Fault}
use Rattle.card.specs.Meaning.{Meaning, Sound}
use Rattle.sheets.specs.declared.Verdict.{Verdict}
use Rattle.sheets.specs.Checking.{Compared, VerdictOn}
use Rattle.sheets.specs.Sole.{Sole}
use Rattle.sheets.proofs.Only.{the_verdict}
use Rattle.cabinet.specs.Orders.{Force}
use Rattle.cabinet.specs.Logs.{Standing}
use Rattle.cabinet.specs.Checking.{Checked}
use Rattle.cabinet.proofs.Steady.{ready, forced}

pub checked : (m : Meaning) → Sound m → (s : Standing) (sheet : List ℕ) (r : Result Verdict Fault) → Compared m s.force.pairs s.force.holds s.setting sheet r → Checked m s sheet r
checked m sound s sheet r c rows log =
    subst (λ (f : Force). Sole (VerdictOn m f.pairs f.holds sheet) r) (forced m sound rows s log)
    (the_verdict m s.force.pairs s.force.holds sheet s.setting (ready m sound rows s log).first r c)
