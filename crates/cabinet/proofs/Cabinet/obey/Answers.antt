use Rattle.std.proofs.Common.{Ok, sym, subst}
use Rattle.std.proofs.lemmas.Result.{err_from_is_err_and}
use Rattle.cabinet.specs.declared.command.Command.{Command}
use Rattle.cabinet.specs.declared.command.Command.TheVariants.{Plan, Patch, Drop, Hold, Release}
use Rattle.cabinet.specs.declared.command.Reply.TheVariants.{Moved, Numbers, Frames}
use Rattle.cabinet.specs.Orders.{Order}
use Rattle.cabinet.specs.Serving.{Ordering, Obeyed}
use Rattle.cabinet.proofs.Entries.{did, did_not, rang, rang_not, spoke, spoke_not}
use Rattle.cabinet.proofs.Cabinet.obey.Goals as goal

pub returns-in_err-plan-in-Plan : goal.returns-in_err-plan-in-Plan
returns-in_err-plan-in-Plan g c =
    let p = err_from_is_err_and c.from_residual.result c.from_residual.ensures.1 in
    subst (λ (x : Command). Obeyed g.C.Card.meaning c.args.self.now x c.from_residual.result c.plan.new.self) (sym c.in-Plan.is)
    (rw (p.1, p.2) (did_not g.C.Card.meaning g.met.C.Card.sound c.args.self.now (Plan c.in-Plan.pairs) (Order.plan c.in-Plan.pairs.now) c.in_err-plan-in-Plan.field-0.0 c.plan.new.self (Ordering.plan c.in-Plan.pairs) c.in_err-plan-in-Plan.ensures))

pub returns-in_ok-plan-in-Plan : goal.returns-in_ok-plan-in-Plan
returns-in_ok-plan-in-Plan g c =
    subst (λ (x : Command). Obeyed g.C.Card.meaning c.args.self.now x (Ok (Moved c.in_ok-plan-in-Plan.field-0)) c.plan.new.self) (sym c.in-Plan.is)
    (did g.C.Card.meaning g.met.C.Card.sound c.args.self.now (Plan c.in-Plan.pairs) (Order.plan c.in-Plan.pairs.now) c.in_ok-plan-in-Plan.field-0 c.plan.new.self (Ordering.plan c.in-Plan.pairs) c.in_ok-plan-in-Plan.ensures)

pub returns-in_err-patch-in-Patch : goal.returns-in_err-patch-in-Patch
returns-in_err-patch-in-Patch g c =
    let p = err_from_is_err_and c.from_residual-in_err-patch-in-Patch.result c.from_residual-in_err-patch-in-Patch.ensures.1 in
    subst (λ (x : Command). Obeyed g.C.Card.meaning c.args.self.now x c.from_residual-in_err-patch-in-Patch.result c.patch.new.self) (sym c.in-Patch.is)
    (rw (p.1, p.2) (did_not g.C.Card.meaning g.met.C.Card.sound c.args.self.now (Patch c.in-Patch.input c.in-Patch.output) (Order.patch c.in-Patch.input c.in-Patch.output) c.in_err-patch-in-Patch.field-0.0 c.patch.new.self (Ordering.patch c.in-Patch.input c.in-Patch.output) c.in_err-patch-in-Patch.ensures))

pub returns-in_ok-patch-in-Patch : goal.returns-in_ok-patch-in-Patch
returns-in_ok-patch-in-Patch g c =
    subst (λ (x : Command). Obeyed g.C.Card.meaning c.args.self.now x (Ok (Moved c.in_ok-patch-in-Patch.field-0)) c.patch.new.self) (sym c.in-Patch.is)
    (did g.C.Card.meaning g.met.C.Card.sound c.args.self.now (Patch c.in-Patch.input c.in-Patch.output) (Order.patch c.in-Patch.input c.in-Patch.output) c.in_ok-patch-in-Patch.field-0 c.patch.new.self (Ordering.patch c.in-Patch.input c.in-Patch.output) c.in_ok-patch-in-Patch.ensures)

pub returns-in_err-drop-in-Drop : goal.returns-in_err-drop-in-Drop
returns-in_err-drop-in-Drop g c =
    let p = err_from_is_err_and c.from_residual-in_err-drop-in-Drop.result c.from_residual-in_err-drop-in-Drop.ensures.1 in
    subst (λ (x : Command). Obeyed g.C.Card.meaning c.args.self.now x c.from_residual-in_err-drop-in-Drop.result c.drop.new.self) (sym c.in-Drop.is)
    (rw (p.1, p.2) (did_not g.C.Card.meaning g.met.C.Card.sound c.args.self.now (Drop c.in-Drop.input) (Order.drop c.in-Drop.input) c.in_err-drop-in-Drop.field-0.0 c.drop.new.self (Ordering.drop_input c.in-Drop.input) c.in_err-drop-in-Drop.ensures))

pub returns-in_ok-drop-in-Drop : goal.returns-in_ok-drop-in-Drop
returns-in_ok-drop-in-Drop g c =
    subst (λ (x : Command). Obeyed g.C.Card.meaning c.args.self.now x (Ok (Moved c.in_ok-drop-in-Drop.field-0)) c.drop.new.self) (sym c.in-Drop.is)
    (did g.C.Card.meaning g.met.C.Card.sound c.args.self.now (Drop c.in-Drop.input) (Order.drop c.in-Drop.input) c.in_ok-drop-in-Drop.field-0 c.drop.new.self (Ordering.drop_input c.in-Drop.input) c.in_ok-drop-in-Drop.ensures)

pub returns-in_err-hold-in-Hold : goal.returns-in_err-hold-in-Hold
returns-in_err-hold-in-Hold g c =
    let p = err_from_is_err_and c.from_residual-in_err-hold-in-Hold.result c.from_residual-in_err-hold-in-Hold.ensures.1 in
    subst (λ (x : Command). Obeyed g.C.Card.meaning c.args.self.now x c.from_residual-in_err-hold-in-Hold.result c.hold.new.self) (sym c.in-Hold.is)
    (rw (p.1, p.2) (did_not g.C.Card.meaning g.met.C.Card.sound c.args.self.now (Hold c.in-Hold.cell c.in-Hold.position) (Order.hold c.in-Hold.cell c.in-Hold.position) c.in_err-hold-in-Hold.field-0.0 c.hold.new.self (Ordering.hold c.in-Hold.cell c.in-Hold.position) c.in_err-hold-in-Hold.ensures))

pub returns-in_ok-hold-in-Hold : goal.returns-in_ok-hold-in-Hold
returns-in_ok-hold-in-Hold g c =
    subst (λ (x : Command). Obeyed g.C.Card.meaning c.args.self.now x (Ok (Moved c.in_ok-hold-in-Hold.field-0)) c.hold.new.self) (sym c.in-Hold.is)
    (did g.C.Card.meaning g.met.C.Card.sound c.args.self.now (Hold c.in-Hold.cell c.in-Hold.position) (Order.hold c.in-Hold.cell c.in-Hold.position) c.in_ok-hold-in-Hold.field-0 c.hold.new.self (Ordering.hold c.in-Hold.cell c.in-Hold.position) c.in_ok-hold-in-Hold.ensures)

pub returns-in_err-release-in-Release : goal.returns-in_err-release-in-Release
returns-in_err-release-in-Release g c =
    let p = err_from_is_err_and c.from_residual-in_err-release-in-Release.result c.from_residual-in_err-release-in-Release.ensures.1 in
    subst (λ (x : Command). Obeyed g.C.Card.meaning c.args.self.now x c.from_residual-in_err-release-in-Release.result c.release.new.self) (sym c.in-Release.is)
    (rw (p.1, p.2) (did_not g.C.Card.meaning g.met.C.Card.sound c.args.self.now (Release c.in-Release.cell) (Order.release c.in-Release.cell) c.in_err-release-in-Release.field-0.0 c.release.new.self (Ordering.release c.in-Release.cell) c.in_err-release-in-Release.ensures))

pub returns-in_ok-release-in-Release : goal.returns-in_ok-release-in-Release
returns-in_ok-release-in-Release g c =
    subst (λ (x : Command). Obeyed g.C.Card.meaning c.args.self.now x (Ok (Moved c.in_ok-release-in-Release.field-0)) c.release.new.self) (sym c.in-Release.is)
    (did g.C.Card.meaning g.met.C.Card.sound c.args.self.now (Release c.in-Release.cell) (Order.release c.in-Release.cell) c.in_ok-release-in-Release.field-0 c.release.new.self (Ordering.release c.in-Release.cell) c.in_ok-release-in-Release.ensures)

pub returns-in_err-ring_out-in-RingOut : goal.returns-in_err-ring_out-in-RingOut
returns-in_err-ring_out-in-RingOut g c =
    let p = err_from_is_err_and c.from_residual-in_err-ring_out-in-RingOut.result c.from_residual-in_err-ring_out-in-RingOut.ensures.1 in
    subst (λ (x : Command). Obeyed g.C.Card.meaning c.args.self.now x c.from_residual-in_err-ring_out-in-RingOut.result c.args.self.now) (sym c.in-RingOut.is)
    (rw (p.1, p.2) (rang_not g.C.Card.meaning g.met.C.Card.sound c.args.self.now c.in_err-ring_out-in-RingOut.field-0.0 c.in_err-ring_out-in-RingOut.ensures))

pub returns-in_ok-ring_out-in-RingOut : goal.returns-in_ok-ring_out-in-RingOut
returns-in_ok-ring_out-in-RingOut g c =
    subst (λ (x : Command). Obeyed g.C.Card.meaning c.args.self.now x (Ok (Numbers c.in_ok-ring_out-in-RingOut.field-0)) c.args.self.now) (sym c.in-RingOut.is)
    (rang g.C.Card.meaning g.met.C.Card.sound c.args.self.now c.in_ok-ring_out-in-RingOut.field-0 c.in_ok-ring_out-in-RingOut.ensures)

pub returns-in_err-carried-in-Voice : goal.returns-in_err-carried-in-Voice
returns-in_err-carried-in-Voice g c =
    let p = err_from_is_err_and c.from_residual-in_err-carried-in-Voice.result c.from_residual-in_err-carried-in-Voice.ensures.1 in
    subst (λ (x : Command). Obeyed g.C.Card.meaning c.args.self.now x c.from_residual-in_err-carried-in-Voice.result c.args.self.now) (sym c.in-Voice.is)
    (rw (p.1, p.2) (spoke_not g.C.Card.meaning g.met.C.Card.sound c.args.self.now c.in-Voice.frames c.in_err-carried-in-Voice.field-0.0 c.in_err-carried-in-Voice.ensures))

pub returns-in_ok-carried-in-Voice : goal.returns-in_ok-carried-in-Voice
returns-in_ok-carried-in-Voice g c =
    subst (λ (x : Command). Obeyed g.C.Card.meaning c.args.self.now x (Ok (Frames c.in_ok-carried-in-Voice.field-0)) c.args.self.now) (sym c.in-Voice.is)
    (spoke g.C.Card.meaning g.met.C.Card.sound c.args.self.now c.in-Voice.frames c.in_ok-carried-in-Voice.field-0 c.in_ok-carried-in-Voice.ensures)
