-- Pairs as a plan for n lines.
use Rattle.std.specs.Prelude.{◌≡◌, ℕ, List, length, Ok, Err, Result}
use Rattle.card.specs.declared.fault.Fault.{Fault}
use Rattle.card.specs.declared.plan.Plan.{Plan}
use Rattle.card.specs.Plans.{Plannable, Unplannable}
use Rattle.card.specs.PlanPairs.{pairs_of}

-- the pairs break no rule of a plan for n lines
abbrev pub PlanFine : ℕ → List ℕ → Type 0
PlanFine n pairs = Plannable (length pairs ≡ n) n pairs

-- the first rule that they break
abbrev pub PlanBroken : ℕ → List ℕ → Fault → Type 0
PlanBroken n pairs e = Unplannable (length pairs ≡ n) n pairs e

-- a plan of just these pairs, or the first rule that they break
abbrev pub Planned : ℕ → List ℕ → Result Plan Fault → Type 0
Planned n pairs (Ok p) = PlanFine n pairs × (pairs_of p ≡ pairs)
Planned n pairs (Err e) = PlanBroken n pairs e
