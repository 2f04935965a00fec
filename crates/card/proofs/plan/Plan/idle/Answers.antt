use Rattle.std.proofs.Common.{refl}
use Rattle.card.proofs.Pairing.{idle_law, idle_pairs}
use Rattle.card.proofs.plan.Plan.idle.Goals as goal

pub invariant_of-result : goal.invariant_of-result
invariant_of-result c = record { lawful = ∣ idle_law c.args.lines c.if-lines-lt2.false c.if-lines-gt16.false ∣₁ }

pub returns : goal.returns
returns c = record { count = record { some = c.if-lines-lt2.false; few = c.if-lines-gt16.false }; lines_are = refl; pairs = idle_pairs c.args.lines c.if-lines-gt16.false }
