use Rattle.std.proofs.Common.{ℕ, ◌<◌, List, set, sym, refl, ap, ◌∙◌, arith}
use Rattle.card.specs.PlanPairs.{pairs_of}
use Rattle.card.proofs.Pairing.{take_set_below}
use Rattle.cabinet.specs.Orders.{Order, Unreleasable}
use Rattle.cabinet.proofs.Calls.{held_at, order_broken, order_adopted}
use Rattle.cabinet.proofs.Cabinet.release.Goals as goal

pub returns-then-cell-cells : goal.returns-then-cell-cells
returns-then-cell-cells g c = order_broken g.C.Card.meaning g.met.C.Card.sound c.args.self.now (Order.release c.args.cell) _ (λ r. Unreleasable.no_cell (omega (arith, c.cells.ensures)))

pub returns-then-next-cell : goal.returns-then-next-cell
returns-then-next-cell g c =
    order_broken g.C.Card.meaning g.met.C.Card.sound c.args.self.now (Order.release c.args.cell) _
    (λ r. let h : c.args.cell < (g.C.Card.meaning c.args.self.now.card).cells = omega (arith, c.cells.ensures) in Unreleasable.not_held h (sym (held_at _ _ _ r.cells h) ∙ c.if-next-cell.true))

pub returns : goal.returns
returns g c =
    let h : c.args.cell < (g.C.Card.meaning c.args.self.now.card).cells = omega (arith, c.cells.ensures) in
    order_adopted g.C.Card.meaning g.met.C.Card.sound c.args.self.now (Order.release c.args.cell) (record { plan = c.args.self.now.state.plan; holds = set c.args.self.now.state.holds c.args.cell 255; setting = c.args.self.now.state.setting })
    (ap (λ (x : List ℕ). record { pairs = pairs_of c.args.self.now.state.plan; holds = x }) (take_set_below (g.C.Card.meaning c.args.self.now.card).cells c.args.self.now.state.holds c.args.cell 255))
    (λ r. record { cell = h; held = λ z. c.if-next-cell.false (held_at _ _ _ r.cells h ∙ z) })
    refl _ _ (λ e. refl) c.adopt.ensures
