use Rattle.std.proofs.Common.{rules, refl, inl}
use mathlib.Core.Logic.{∥∥₁_map}
use Rattle.card.specs.Plans.{Undroppable}
use Rattle.card.proofs.Pairing.{put_law, take_set_below, is_idle, is_busy}
use Rattle.card.proofs.plan.Plan.drop.Goals as goal

pub returns-then-input-self : goal.returns-then-input-self
returns-then-input-self c = record { pairs = (Undroppable.no_input c.if-input-self.true, refl); lines = refl }

pub returns-then-is_none : goal.returns-then-is_none
returns-then-is_none c = record { pairs = (Undroppable.idle_input c.if-input-self.false (is_idle _ c.args.input _ c.output.ensures (search rules)), refl); lines = refl }

pub invariant_of-self : goal.invariant_of-self
invariant_of-self c = record { lawful = ∥∥₁_map c.args.self.now.lawful (put_law _ _ c.args.input 255 c.if-input-self.false (inl refl) (λ z. absurd (z refl))) }

pub returns : goal.returns
returns c =
    record {
      pairs = (record { input = c.if-input-self.false; busy = is_busy _ c.args.input _ c.output.ensures (search rules) }, take_set_below c.args.self.now.lines c.args.self.now.outputs c.args.input 255);
      lines = refl;
    }
