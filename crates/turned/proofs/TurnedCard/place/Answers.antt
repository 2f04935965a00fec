-- What the card beneath answers with the columns that are left.
use Rattle.std.proofs.Common.{ℕ, ◌-◌, ap}
use Rattle.turned.proofs.Sheets.{placed_turned}
use Rattle.turned.proofs.TurnedCard.place.Goals as goal

pub returns : goal.returns
returns g c =
    let e = ap (λ (x : ℕ). x - c.args.passed) c.columns-columns.ensures in
    placed_turned (g.C.Card.meaning c.args.self.now.card) c.args.setting.now c.args.input c.args.passed c.ending_at-entered.result (c.columns-columns.result - c.args.passed)
    c.in_ok-check_place.ensures c.ending_at-entered.ensures.only.inside c.ending_at-entered.ensures.found e c.place.result c.place.ensures
