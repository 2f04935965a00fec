use Rattle.cases.specs.Calls.{OnCard}
use Rattle.cases.proofs.OnCards.{unbuilt}
use Rattle.cases.proofs.calls.place.Goals as goal

pub returns-in_err-build : goal.returns-in_err-build
returns-in_err-build c = unbuilt _ _ c.from_residual.ensures.1 c.in_err-build.ensures

pub returns : goal.returns
returns c = OnCard.answered _ _ c.in_ok-build.ensures c.place.ensures
