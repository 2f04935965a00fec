use Rattle.std.proofs.lemmas.Result.{err_from_is_err_and}
use Rattle.by_kind.specs.Answering.{PlaceAnswer}
use Rattle.by_kind.proofs.Only.{the_place}
use Rattle.by_kind.proofs.place.Goals as goal

pub returns-in_err-card : goal.returns-in_err-card
returns-in_err-card c =
    let p = err_from_is_err_and c.from_residual.result c.from_residual.ensures.1 in
    the_place _ _ _ _ _ _ (rw (p.1, p.2, c.in_err-card.ensures.1) (PlaceAnswer.unknown c.in_err-card.ensures.0))

pub returns : goal.returns
returns c = the_place _ _ _ _ _ _ (PlaceAnswer.placed _ _ c.in_ok-card.ensures c.place.ensures)
