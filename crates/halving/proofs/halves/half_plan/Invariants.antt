-- The lines written so far have their half plan.
use Rattle.halving.specs.Halving.{lines_at}
use Rattle.halving.specs.Outer.{Halved}
use Rattle.halving.proofs.halves.half_plan.Given as goal

abbrev pub invariant-loop-c : goal.invariant-loop-c
invariant-loop-c g l = Halved g.F.OuterColumns.OUTER (lines_at l.half.depth) l.c l.pairs l.first l.b l.plan
