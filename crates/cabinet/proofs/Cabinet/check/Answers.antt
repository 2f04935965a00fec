use Rattle.std.proofs.Common.{ℕ, List, take, subst}
use Rattle.sheets.specs.Checking.{Compared}
use Rattle.cabinet.specs.States.{standing}
use Rattle.cabinet.proofs.Checks.{checked}
use Rattle.cabinet.proofs.Cabinet.check.Goals as goal

pub returns : goal.returns
returns g c =
    let m = g.C.Card.meaning c.args.self.now.card in
    let s = standing m c.args.self.now.state in
    checked m (g.met.C.Card.sound c.args.self.now.card) s c.args.sheet.now c.check.result
    (subst (λ (l : List ℕ). Compared m s.force.pairs s.force.holds l c.args.sheet.now c.check.result) c.standing_setting-standing.ensures
    (subst (λ (k : ℕ). Compared m s.force.pairs (take k c.args.self.now.state.holds) c.standing_setting-standing.result.now c.args.sheet.now c.check.result) c.cells.ensures c.check.ensures))
