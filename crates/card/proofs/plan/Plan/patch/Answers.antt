use Rattle.std.proofs.Common.{rules, refl, inr, arith}
use mathlib.Core.Logic.{∥∥₁_map}
use Rattle.card.specs.Plans.{Unpatchable}
use Rattle.card.proofs.Pairing.{law_few, put_law, take_set_below, is_idle, is_busy}
use Rattle.card.proofs.plan.Plan.patch.Goals as goal

pub returns-then-input-self : goal.returns-then-input-self
returns-then-input-self c = record { pairs = (Unpatchable.no_input c.if-input-self.true, refl); lines = refl }

pub returns-then-output-self : goal.returns-then-output-self
returns-then-output-self c = record { pairs = (Unpatchable.no_output c.if-input-self.false c.if-output-self.true, refl); lines = refl }

pub bounds-self-input : goal.bounds-self-input
bounds-self-input c = omega (arith, law_few c.args.self.now.lawful)

pub returns-then-is_some : goal.returns-then-is_some
returns-then-is_some c = record { pairs = (Unpatchable.busy_input c.if-input-self.false c.if-output-self.false (is_busy _ c.args.input _ c.output.ensures c.if-is_some.ensures), refl); lines = refl }

pub returns-then-taken : goal.returns-then-taken
returns-then-taken c = record { pairs = (Unpatchable.busy_output c.if-input-self.false c.if-output-self.false (is_idle _ c.args.input _ c.output.ensures (search rules)) c.if-taken.ensures, refl); lines = refl }

pub invariant_of-self : goal.invariant_of-self
invariant_of-self c = record { lawful = ∥∥₁_map c.args.self.now.lawful (put_law _ _ c.args.input c.args.output c.if-input-self.false (inr c.if-output-self.false) (λ z. c.if-taken.ensures)) }

pub returns : goal.returns
returns c =
    record {
      pairs = (
        record { input = c.if-input-self.false; output = c.if-output-self.false; idle = is_idle _ c.args.input _ c.output.ensures (search rules); free = c.if-taken.ensures },
        take_set_below c.args.self.now.lines c.args.self.now.outputs c.args.input c.args.output,
      );
      lines = refl;
    }
