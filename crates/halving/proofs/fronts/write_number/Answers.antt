-- One more cell written.
use Rattle.std.proofs.Common.{length, arith}
use Rattle.halving.proofs.Numbers.{writing_more}
use Rattle.halving.proofs.fronts.write_number.Goals as goal

pub loop-c-preserved : goal.loop-c-preserved
loop-c-preserved c = writing_more (length c.args.column.now) c.args.n c.loop-c.c c.loop-c.rest c.loop-c.column c.loop-c-test.true (omega arith) (omega arith) c.loop-c.invariant
