use Rattle.std.proofs.Common.{ap, rules}
use Rattle.std.proofs.lemmas.Result.{err_from_is_err_and}
use Rattle.kinds.specs.Kinds.{built_meaning}
use Rattle.cabinet.specs.States.{standing}
use Rattle.cases.specs.Calls.{OnCard}
use Rattle.cases.proofs.OnCards.{unbuilt, carry_done, carry_refused}
use Rattle.cases.proofs.calls.carry.Goals as goal

pub returns-in_err-build : goal.returns-in_err-build
returns-in_err-build c = unbuilt _ _ c.from_residual.ensures.1 c.in_err-build.ensures

pub returns-in_err-carry : goal.returns-in_err-carry
returns-in_err-carry c =
    let p = err_from_is_err_and c.from_residual-in_err-carry.result c.from_residual-in_err-carry.ensures.1 in
    let k = carry_refused _ _ (λ x. standing x c.commission-cabinet.result.state) _ _ (ap built_meaning c.commission-cabinet.ensures.card) c.commission-cabinet.ensures.log c.args.given c.args.out (search rules) (search rules) _ c.in_err-carry.ensures.1 in
    rw (p.1, p.2) (OnCard.answered _ _ c.in_ok-build.ensures k)

pub returns : goal.returns
returns c =
    let k = carry_done _ _ (λ x. standing x c.commission-cabinet.result.state) _ _ (ap built_meaning c.commission-cabinet.ensures.card) c.commission-cabinet.ensures.log c.args.given c.args.out (search rules) (search rules) _ c.in_ok-carry.ensures.log in
    OnCard.answered _ _ c.in_ok-build.ensures k
