use Rattle.kinds.specs.Kinds.{PlainKind}
use Rattle.kinds.proofs.Known.{klw_kind, bbc_kind}
use Rattle.kinds.proofs.plain.CardName.build_plain.Goals as goal

pub returns-in_ok-new-in-1 : goal.returns-in_ok-new-in-1
returns-in_ok-new-in-1 c = klw_kind c.args.self.kind c.args.self.lines c.in_ok-new-in-1.field-0.lines c.in-1.is c.in_ok-new-in-1.ensures.1 c.in_ok-new-in-1.ensures.0

pub returns-in_ok-new-in-2 : goal.returns-in_ok-new-in-2
returns-in_ok-new-in-2 c = bbc_kind c.args.self.kind c.args.self.lines c.in_ok-new-in-2.field-0.lines c.in-2.is c.in_ok-new-in-2.ensures.1 c.in_ok-new-in-2.ensures.0

pub returns-in_ok-new-in-3 : goal.returns-in_ok-new-in-3
returns-in_ok-new-in-3 c = rw c.in-3.is (PlainKind.benes_card c.in_ok-new-in-3.ensures.0)

pub returns-in_ok-new-in-4 : goal.returns-in_ok-new-in-4
returns-in_ok-new-in-4 c = rw c.in-4.is (PlainKind.baseline_card c.in_ok-new-in-4.ensures.0)
