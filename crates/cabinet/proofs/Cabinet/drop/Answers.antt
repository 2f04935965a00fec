use Rattle.std.proofs.Common.{ℕ, List, take, sym, refl, ap, ◌∙◌, subst}
use Rattle.std.proofs.lemmas.Result.{err_from_is_err_and}
use Rattle.card.specs.Plans.{Droppable, Undroppable}
use Rattle.card.specs.PlanPairs.{pairs_of}
use Rattle.card.proofs.Pairing.{law_size}
use Rattle.cabinet.specs.Orders.{Order}
use Rattle.cabinet.proofs.Calls.{order_broken, order_adopted}
use Rattle.cabinet.proofs.Cabinet.drop.Goals as goal

pub returns-in_err-drop : goal.returns-in_err-drop
returns-in_err-drop g c =
    let p = err_from_is_err_and c.from_residual.result c.from_residual.ensures.1 in
    rw (p.1, p.2)
    (order_broken g.C.Card.meaning g.met.C.Card.sound c.args.self.now (Order.drop c.args.input) c.in_err-drop.field-0.0
    (λ r. subst (λ (n : ℕ). Undroppable n (pairs_of c.args.self.now.state.plan) c.args.input c.in_err-drop.field-0.0) (sym (law_size c.args.self.now.state.plan.lawful) ∙ r.lines) c.in_err-drop.ensures.pairs.0))

pub returns : goal.returns
returns g c =
    order_adopted g.C.Card.meaning g.met.C.Card.sound c.args.self.now (Order.drop c.args.input) (record { plan = c.drop.new.self; holds = c.args.self.now.state.holds; setting = c.args.self.now.state.setting })
    (ap (λ (x : List ℕ). record { pairs = x; holds = take (g.C.Card.meaning c.args.self.now.card).cells c.args.self.now.state.holds }) c.in_ok-drop.ensures.pairs.1)
    (λ r. subst (λ (n : ℕ). Droppable n (pairs_of c.args.self.now.state.plan) c.args.input) (sym (law_size c.args.self.now.state.plan.lawful) ∙ r.lines) c.in_ok-drop.ensures.pairs.0)
    refl _ _ (λ e. refl) c.adopt.ensures
