use Rattle.std.proofs.Common.{ℕ, List, subst}
use Rattle.std.proofs.lemmas.Result.{err_from_is_err_and}
use Rattle.card.specs.Settling.{Settled}
use Rattle.kinds.specs.Kinds.{built_meaning}
use Rattle.by_kind.specs.Planning.{PlanFine, PlanBroken}
use Rattle.by_kind.specs.Answering.{SettleAnswer}
use Rattle.by_kind.proofs.Only.{the_settling}
use Rattle.by_kind.proofs.settle.Goals as goal

pub returns-in_err-card : goal.returns-in_err-card
returns-in_err-card c =
    let p = err_from_is_err_and c.from_residual.result c.from_residual.ensures.1 in
    the_settling _ _ _ _ _ _ (rw (p.1, p.2, c.in_err-card.ensures.1) (SettleAnswer.unknown c.in_err-card.ensures.0))

pub returns-in_err-plan : goal.returns-in_err-plan
returns-in_err-plan c =
    let p = err_from_is_err_and c.from_residual-in_err-plan.result c.from_residual-in_err-plan.ensures.1 in
    the_settling _ _ _ _ _ _
    (rw (p.1, p.2)
    (SettleAnswer.unplanned (built_meaning c.in_ok-card.card) _ c.in_ok-card.ensures
    (subst (λ (n : ℕ). PlanBroken n c.args.pairs.now c.in_err-plan.field-0.0) c.lines.ensures c.in_err-plan.ensures)))

pub returns : goal.returns
returns c =
    let m = built_meaning c.in_ok-card.card in
    the_settling _ _ _ _ _ _
    (SettleAnswer.settled (built_meaning c.in_ok-card.card) _ _ c.in_ok-card.ensures
    (subst (λ (n : ℕ). PlanFine n c.args.pairs.now) c.lines.ensures c.in_ok-plan.ensures.0)
    (subst (λ (ps : List ℕ). Settled (built_meaning c.in_ok-card.card) ps c.args.holds.now c.args.setting.now c.settle.new.setting c.settle.result) c.in_ok-plan.ensures.1 c.settle.ensures))
