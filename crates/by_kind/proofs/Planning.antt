-- With as many pairs as lines, a plan's own rules are those of a plan for the lines.
use Rattle.std.proofs.Common.{◌≡◌, ℕ, ◌<◌, List, length, subst, arith}
use Rattle.card.specs.declared.fault.Fault.{Fault}
use Rattle.card.specs.Plans.{Lines, Unplannable, Fine}
use Rattle.by_kind.specs.Planning.{PlanBroken}

module _ (n : ℕ) (count : Lines n) (ps : List ℕ) (size : length ps ≡ n) where
  lines : Lines (length ps)
  lines = record { some = omega (arith, count.some); few = omega (arith, count.few) }

  pub plan_wrong : (e : Fault) → Unplannable (Lines (length ps)) (length ps) ps e → PlanBroken n ps e
  plan_wrong e (Unplannable.wrong_length ne) = absurd (ne lines)
  plan_wrong e (Unplannable.no_output s i h before busy high) = Unplannable.no_output size i (omega arith) (subst (λ (x : ℕ). (j : ℕ) → j < i → Fine x ps j) size before) busy (omega arith)
  plan_wrong e (Unplannable.used_output s i h before busy low t) = Unplannable.used_output size i (omega arith) (subst (λ (x : ℕ). (j : ℕ) → j < i → Fine x ps j) size before) busy (omega arith) t
