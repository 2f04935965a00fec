use Rattle.std.proofs.Common.{rules, ℕ, List, take, sym, refl, ap, ◌∙◌, subst}
use Rattle.std.proofs.lemmas.Result.{err_from_is_err_and}
use Rattle.card.specs.Plans.{Patchable, Unpatchable}
use Rattle.card.specs.PlanPairs.{pairs_of}
use Rattle.card.proofs.Pairing.{law_size}
use Rattle.cabinet.specs.Orders.{Order}
use Rattle.cabinet.proofs.Calls.{order_broken, order_placed}
use Rattle.cabinet.proofs.Cabinet.patch.Goals as goal

pub returns-in_err-patch : goal.returns-in_err-patch
returns-in_err-patch g c =
    let p = err_from_is_err_and c.from_residual.result c.from_residual.ensures.1 in
    rw (p.1, p.2)
    (order_broken g.C.Card.meaning g.met.C.Card.sound c.args.self.now (Order.patch c.args.input c.args.output) c.in_err-patch.field-0.0
    (λ r. subst (λ (n : ℕ). Unpatchable n (pairs_of c.args.self.now.state.plan) c.args.input c.args.output c.in_err-patch.field-0.0) (sym (law_size c.args.self.now.state.plan.lawful) ∙ r.lines) c.in_err-patch.ensures.pairs.0))

pub returns : goal.returns
returns g c =
    order_placed g.C.Card.meaning g.met.C.Card.sound c.args.self.now (Order.patch c.args.input c.args.output) (record { plan = c.patch.new.self; holds = c.args.self.now.state.holds; setting = c.args.self.now.state.setting })
    (ap (λ (x : List ℕ). record { pairs = x; holds = take (g.C.Card.meaning c.args.self.now.card).cells c.args.self.now.state.holds }) c.in_ok-patch.ensures.pairs.1)
    (λ r. subst (λ (n : ℕ). Patchable n (pairs_of c.args.self.now.state.plan) c.args.input c.args.output) (sym (law_size c.args.self.now.state.plan.lawful) ∙ r.lines) c.in_ok-patch.ensures.pairs.0)
    refl _ _ _ _ (λ e d h. search rules) c.adopt.ensures c.map_err.ensures.cases
