use Rattle.std.proofs.lemmas.Result.{err_from_is_err_and}
use Rattle.card.specs.Plans.{Unplannable}
use Rattle.by_kind.proofs.Planning.{plan_wrong}
use Rattle.by_kind.proofs.planned.Goals as goal

pub returns-then-pairs-lines : goal.returns-then-pairs-lines
returns-then-pairs-lines c = Unplannable.wrong_length c.if-pairs-lines.true

pub returns-in_err-fill : goal.returns-in_err-fill
returns-in_err-fill c =
    let p = err_from_is_err_and c.from_residual-in_err-fill.result c.from_residual-in_err-fill.ensures.1 in
    rw (p.1, p.2) (plan_wrong c.args.lines c.requires c.args.pairs.now c.if-pairs-lines.false c.in_err-fill.field-0.0 c.in_err-fill.ensures.0)
