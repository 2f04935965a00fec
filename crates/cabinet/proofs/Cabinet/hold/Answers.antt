use Rattle.std.proofs.Common.{rules, ℕ, List, set, sym, refl, ap, ◌∙◌, arith}
use Rattle.card.specs.PlanPairs.{pairs_of}
use Rattle.card.proofs.Pairing.{take_set_below}
use Rattle.cabinet.specs.Orders.{Order, UnholdableAt}
use Rattle.cabinet.proofs.Calls.{held_at, order_broken, order_placed}
use Rattle.cabinet.proofs.Cabinet.hold.Goals as goal

pub returns-in_default : goal.returns-in_default
returns-in_default g c = order_broken g.C.Card.meaning g.met.C.Card.sound c.args.self.now (Order.hold c.args.cell c.args.position) _ (λ r. UnholdableAt.no_cell c.in_default.ensures.0)

pub returns-then-position-positions : goal.returns-then-position-positions
returns-then-position-positions g c =
    order_broken g.C.Card.meaning g.met.C.Card.sound c.args.self.now (Order.hold c.args.cell c.args.position) _
    (λ r. UnholdableAt.no_position c.in-Ok.ensures.0 (omega (arith, c.in-Ok.ensures.1, c.if-position-positions.true)))

pub returns-then-next-cell : goal.returns-then-next-cell
returns-then-next-cell g c =
    order_broken g.C.Card.meaning g.met.C.Card.sound c.args.self.now (Order.hold c.args.cell c.args.position) _
    (λ r. UnholdableAt.held c.in-Ok.ensures.0 (omega (arith, c.in-Ok.ensures.1, c.if-position-positions.false)) (λ z. c.if-next-cell.true (held_at _ _ _ r.cells c.in-Ok.ensures.0 ∙ z)))

pub returns : goal.returns
returns g c =
    order_placed g.C.Card.meaning g.met.C.Card.sound c.args.self.now (Order.hold c.args.cell c.args.position) (record { plan = c.args.self.now.state.plan; holds = set c.args.self.now.state.holds c.args.cell c.args.position; setting = c.args.self.now.state.setting })
    (ap (λ (x : List ℕ). record { pairs = pairs_of c.args.self.now.state.plan; holds = x }) (take_set_below (g.C.Card.meaning c.args.self.now.card).cells c.args.self.now.state.holds c.args.cell c.args.position))
    (λ r. record { cell = c.in-Ok.ensures.0; position = omega (arith, c.in-Ok.ensures.1, c.if-position-positions.false); free = sym (held_at _ _ _ r.cells c.in-Ok.ensures.0) ∙ c.if-next-cell.false })
    refl _ _ _ _ (λ e d h. search rules) c.adopt.ensures c.map_err.ensures.cases
