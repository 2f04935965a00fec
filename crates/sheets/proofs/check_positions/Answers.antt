use Rattle.std.proofs.Common.{rules}
use Rattle.sheets.proofs.Refusals.{of_checks}
use Rattle.sheets.proofs.check_positions.Goals as goal

pub returns : goal.returns
returns g c = of_checks (g.C.Card.meaning c.args.card.now) (g.met.C.Card.sound c.args.card.now) c.args.sheet.now _ _ _ (λ e f h. search rules) c.check_place.ensures c.map_err.ensures.cases
