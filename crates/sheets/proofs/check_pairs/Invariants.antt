use Rattle.std.proofs.Common.{ℕ, ◌<◌}
use Rattle.card.specs.PlanPairs.{pairs_of}
use Rattle.sheets.specs.Checking.{CarriedAt}
use Rattle.sheets.proofs.check_pairs.Given as goal

-- the pairs of the inputs read so far are carried
abbrev pub invariant-loop-input : goal.invariant-loop-input
invariant-loop-input g l = (j : ℕ) → j < l.input → CarriedAt (g.C.Card.meaning l.card) (pairs_of l.plan) l.sheet j
