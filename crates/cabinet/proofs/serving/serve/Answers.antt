use Rattle.std.proofs.Common.{◌≡◌, List, [], ◌∷◌, take, vec_items, Result, sym, refl, subst}
use Rattle.std.proofs.lemmas.List.{take_all}
use Rattle.card.specs.declared.fault.Fault.{Fault}
use Rattle.cabinet.specs.declared.command.Command.{Command}
use Rattle.cabinet.specs.declared.command.Reply.{Reply}
use Rattle.cabinet.specs.Orders.{Row}
use Rattle.cabinet.specs.Logs.{Log}
use Rattle.cabinet.specs.States.{standing}
use Rattle.cabinet.specs.Serving.{Served}
use Rattle.cabinet.proofs.Entries.{SoFar, begun, gone_on_at, served}
use Rattle.cabinet.proofs.serving.serve.Goals as goal

pub loop-command-init : goal.loop-command-init
loop-command-init g c =
    subst (λ (xs : List (Result Reply Fault)). SoFar g.C.Card.meaning c.commission-cabinet.result.card [] xs c.commission-cabinet.result) (sym c.new-replies.ensures.items)
    (begun g.C.Card.meaning c.commission-cabinet.result.card c.commission-cabinet.result refl
    (subst (λ (x : g.row.C.Denot). Log (g.C.Card.meaning x) (Row.commissioned (g.C.Card.meaning x).lines (g.C.Card.meaning x).cells ∷ []) (standing (g.C.Card.meaning x) c.commission-cabinet.result.state)) (sym c.commission-cabinet.ensures.card) c.commission-cabinet.ensures.log))

pub loop-command-preserved : goal.loop-command-preserved
loop-command-preserved g c =
    gone_on_at g.C.Card.meaning c.commission-cabinet.result.card _ c.args.commands.now c.loop-command.command-index c.loop-command-test.true (vec_items c.loop-command.replies) (vec_items c.push.new.self) c.obey-reply.result c.in_ok-push.ensures.items c.loop-command.cabinet c.obey-reply.new.self c.loop-command.invariant c.obey-reply.ensures

pub returns : goal.returns
returns g c =
    let all : take c.loop-command.command-index c.args.commands.now ≡ c.args.commands.now = take_all c.loop-command.command-index c.args.commands.now c.loop-command-test.false in
    subst (λ (x : g.row.C.Denot). Served (g.C.Card.meaning x) c.args.commands.now (vec_items c.loop-command.replies)) c.commission-cabinet.ensures.card
    (subst (λ (cs : List Command). Served (g.C.Card.meaning c.commission-cabinet.result.card) cs (vec_items c.loop-command.replies)) all
    (served g.C.Card.meaning c.commission-cabinet.result.card g.met.C.Card.sound (take c.loop-command.command-index c.args.commands.now) (vec_items c.loop-command.replies) c.loop-command.cabinet c.loop-command.invariant))
