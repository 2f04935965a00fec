-- The cells from this one on are written.
use Rattle.std.proofs.Common.{length}
use Rattle.halving.proofs.Numbers.{Writing}
use Rattle.halving.proofs.fronts.write_number.Given as goal

abbrev pub invariant-loop-c : goal.invariant-loop-c
invariant-loop-c l = Writing (length l.fn.column) l.n l.c l.rest l.column
