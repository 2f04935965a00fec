use Rattle.std.proofs.Common.{◌≡◌, ◌≤◌, length}
use Rattle.cabinet.specs.Logs.{moved}
use Rattle.cabinet.proofs.differing.Given as goal

-- the count is of the cells read so far
abbrev pub invariant-loop-x : goal.invariant-loop-x
invariant-loop-x l = (l.count ≡ moved (length l.yielded) l.before l.after) × (l.count ≤ length l.yielded)
