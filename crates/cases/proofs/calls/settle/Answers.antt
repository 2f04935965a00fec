use Rattle.std.proofs.lemmas.Result.{err_from_is_err_and}
use Rattle.std.proofs.Common.{ℕ, List, subst}
use Rattle.card.specs.Settling.{Settled}
use Rattle.kinds.specs.Kinds.{built_meaning}
use Rattle.cases.specs.Calls.{OnCard, SettledPairs}
use Rattle.cases.proofs.OnCards.{unbuilt}
use Rattle.cases.proofs.calls.settle.Goals as goal

pub returns-in_err-card-clause-answer : goal.returns-in_err-card-clause-answer
returns-in_err-card-clause-answer c = unbuilt _ _ c.from_residual.ensures.1 c.in_err-card.ensures

pub returns-in_err-fill-clause-answer : goal.returns-in_err-fill-clause-answer
returns-in_err-fill-clause-answer c =
    let p = err_from_is_err_and c.from_residual-in_err-fill.result c.from_residual-in_err-fill.ensures.1 in
    rw (p.1, p.2) (OnCard.answered _ _ c.in_ok-card.ensures (SettledPairs.unplanned _ c.in_err-fill.ensures.0))

pub returns-clause-answer : goal.returns-clause-answer
returns-clause-answer c =
    let settled : Settled (built_meaning c.in_ok-card.card) c.args.pairs.now c.args.holds.now c.args.setting.now c.settle.new.setting c.settle.result =
    subst (λ (pairs : List ℕ). Settled (built_meaning c.in_ok-card.card) pairs c.args.holds.now c.args.setting.now c.settle.new.setting c.settle.result) c.in_ok-fill.ensures.1 c.settle.ensures in
    OnCard.answered _ _ c.in_ok-card.ensures (SettledPairs.planned _ c.in_ok-fill.ensures.0 settled)
