-- The pairs of a plan.
use Rattle.std.specs.Prelude.{ℕ, List}
use Rattle.card.specs.declared.plan.Plan.{Plan}
use Rattle.card.specs.Plans.{paired}

abbrev pub pairs_of : Plan → List ℕ
pairs_of p = paired p.lines p.outputs
