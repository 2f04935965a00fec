use Rattle.std.proofs.Common.{sym, subst}
use Rattle.std.proofs.lemmas.Result.{err_from_is_err_and}
use Rattle.turned.specs.Turning.{turned_meaning}
use Rattle.kinds.specs.declared.plain.Plain.{Plain}
use Rattle.kinds.specs.Kinds.{Kind, plain_meaning}
use Rattle.kinds.proofs.Known.{no_high, high}
use Rattle.kinds.proofs.plain.CardName.build.Goals as goal

pub returns-in_err-build_plain : goal.returns-in_err-build_plain
returns-in_err-build_plain c =
    let p = err_from_is_err_and c.from_residual.result c.from_residual.ensures.1 in
    rw (p.1, p.2) (no_high c.if-self-gt-TURNED.true c.in_err-build_plain.ensures.0, c.in_err-build_plain.ensures.1)

pub returns-in_ok-build_plain : goal.returns-in_ok-build_plain
returns-in_ok-build_plain c =
    subst (λ (x : Plain). Kind c.args.self.kind c.args.self.lines (turned_meaning (plain_meaning x))) (sym c.new.ensures.holds) (high c.if-self-gt-TURNED.true c.in_ok-build_plain.ensures)

pub returns-in_ok-build_plain-2 : goal.returns-in_ok-build_plain-2
returns-in_ok-build_plain-2 c = Kind.plain c.in_ok-build_plain-2.ensures
