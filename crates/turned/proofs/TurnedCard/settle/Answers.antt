-- What the card beneath answers to the plan turned over.
use Rattle.card.specs.PlanPairs.{pairs_of}
use Rattle.turned.proofs.Carrying.{settled_turned, plan_low}
use Rattle.turned.proofs.TurnedCard.settle.Goals as goal

pub returns : goal.returns
returns g c =
    settled_turned (g.C.Card.meaning c.args.self.now.card) (g.met.C.Card.sound c.args.self.now.card)
    (pairs_of c.args.plan.now) (pairs_of c.turned_over-over.result) c.args.holds.now c.args.setting.now c.settle.new.setting
    c.turned_over-over.ensures.inverse (plan_low c.args.plan.now.lawful) (plan_low c.turned_over-over.result.lawful) c.settle.result c.settle.ensures
