use Rattle.cabinet.specs.Serving.{Ordering}
use Rattle.conversation.specs.Talking.{Gives}
use Rattle.conversation.specs.Answering.{GivesCommand}
use Rattle.conversation.proofs.Exchanging.{none_left}
use Rattle.conversation.proofs.answering.command_of.Goals as goal

pub returns-in-Plan : goal.returns-in-Plan
returns-in-Plan c = rw c.in-Plan.is (GivesCommand.ordered (Gives.plan c.in-Plan.pairs.now) (Ordering.plan c.in-Plan.pairs))

pub returns-in-Patch : goal.returns-in-Patch
returns-in-Patch c = rw c.in-Patch.is (GivesCommand.ordered (Gives.patch c.in-Patch.input c.in-Patch.output) (Ordering.patch c.in-Patch.input c.in-Patch.output))

pub returns-in-Drop : goal.returns-in-Drop
returns-in-Drop c = rw c.in-Drop.is (GivesCommand.ordered (Gives.drop_input c.in-Drop.input) (Ordering.drop_input c.in-Drop.input))

pub returns-in-Hold : goal.returns-in-Hold
returns-in-Hold c = rw c.in-Hold.is (GivesCommand.ordered (Gives.hold c.in-Hold.cell c.in-Hold.position) (Ordering.hold c.in-Hold.cell c.in-Hold.position))

pub returns-in-Release : goal.returns-in-Release
returns-in-Release c = rw c.in-Release.is (GivesCommand.ordered (Gives.release c.in-Release.cell) (Ordering.release c.in-Release.cell))

pub returns-in-RingOut : goal.returns-in-RingOut
returns-in-RingOut c = rw c.in-RingOut.is GivesCommand.ring_out

pub returns-in_default : goal.returns-in_default
returns-in_default c = none_left c.args.order c.in_default.not-Plan c.in_default.not-Patch c.in_default.not-Drop c.in_default.not-Hold c.in_default.not-Release c.in_default.not-RingOut
