use Rattle.std.proofs.Common.{ℕ, ◌<◌}
use Rattle.card.specs.Plans.{Fine}
use Rattle.card.proofs.plan.Plan.fill.Given as goal

-- the inputs read so far are fine
abbrev pub invariant-loop-i : goal.invariant-loop-i
invariant-loop-i l = (k : ℕ) → k < l.i → Fine l.lines l.pairs k
