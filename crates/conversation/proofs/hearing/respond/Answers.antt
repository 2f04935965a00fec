use Rattle.std.proofs.Common.{vec_items, sym, subst}
use Rattle.std.proofs.lemmas.Result.{IfOk-weaker}
use Rattle.records.specs.declared.order.Order.{Order}
use Rattle.records.specs.Format.{image}
use Rattle.conversation.specs.declared.talk.Phase.{Phase}
use Rattle.conversation.specs.declared.talk.Phase.TheVariants.{Waiting, Serving, Over}
use Rattle.conversation.specs.Answering.{Responded}
use Rattle.conversation.proofs.Responding.{commissions, exchanges, silence}
use Rattle.conversation.proofs.hearing.respond.Goals as goal

pub returns-in-Commission : goal.returns-in-Commission
returns-in-Commission c =
    IfOk-weaker c.commission.result _ _
    (λ next h.
    subst (λ (x : Phase). Responded x (image c.args.order) (vec_items c.args.out.now) (vec_items c.commission.new.out) next) (sym c.in-Waiting.is)
    (subst (λ (x : Order). Responded Waiting (image x) (vec_items c.args.out.now) (vec_items c.commission.new.out) next) (sym c.in-Commission.is)
    (commissions c.in-Commission.kind c.in-Commission.lines (vec_items c.args.out.now) (vec_items c.commission.new.out) next h)))
    c.commission.ensures

pub returns-in_ok-exchange-in-Serving : goal.returns-in_ok-exchange-in-Serving
returns-in_ok-exchange-in-Serving c =
    subst (λ (x : Phase). Responded x (image c.args.order) (vec_items c.args.out.now) (vec_items c.exchange.new.out) (Serving c.exchange.new.cabinet)) (sym c.in-Serving.is)
    (exchanges c.in-Serving.cabinet c.exchange.new.cabinet (image c.args.order) (vec_items c.args.out.now) (vec_items c.exchange.new.out) c.in_ok-exchange-in-Serving.ensures)

pub returns-in-Over : goal.returns-in-Over
returns-in-Over c =
    subst (λ (x : Phase). Responded x (image c.args.order) (vec_items c.args.out.now) (vec_items c.args.out.now) Over) (sym c.in-Over.is) (silence (image c.args.order) (vec_items c.args.out.now))
