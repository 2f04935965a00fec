-- The plan turned over, input by input.
use Rattle.std.proofs.Common.{◌≡◌}
use Rattle.card.specs.PlanPairs.{pairs_of}
use Rattle.turned.proofs.Inverting.{Turning}
use Rattle.turned.proofs.over.turned_over.Given as goal

-- the inputs read so far are turned over
abbrev pub invariant-loop-input : goal.invariant-loop-input
invariant-loop-input l = (l.over.lines ≡ l.plan.lines) × Turning l.plan.lines l.input (pairs_of l.plan) (pairs_of l.over)
