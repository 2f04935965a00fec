-- What the checks and the search found, as settling answers it.
use Rattle.std.proofs.Common.{◌≡◌, ℕ, List, length, get_or, refl, sym, ◌∙◌, inl, inr, arith, length-take}
use Rattle.std.proofs.lemmas.Result.{err_from_is_err_and}
use native.Mathlib.Decide.{ℕ_discrete}
use Rattle.card.specs.Settling.{none, Refusal}
use Rattle.card.specs.Plans.{PlanLaw, paired}
use Rattle.card.proofs.Pairing.{law_few, law_room, law_below, law_size}
use Rattle.halving.specs.Halving.{lines_at}
use Rattle.halving.specs.Outer.{Pairable}
use Rattle.halving.specs.Counts.{cells_few, outer_few}
use Rattle.halving.proofs.cards.HalvingCardCard.settle.Goals as goal

-- a plan's busy pairs end at its lines
plan_pairable : (n k : ℕ) (outputs : List ℕ) → ∥ PlanLaw n outputs ∥₁ → length (paired n outputs) ≡ k → Pairable k (paired n outputs)
plan_pairable n k outputs law e i p =
    let q : n ≡ k = sym (law_size law) ∙ e in
    elim (ℕ_discrete (get_or (paired n outputs) i none) none) [ yes z ↦ inl z | no z ↦ inr (rw (← q) (law_below law i (omega arith) z)) ]

pub returns-in_err-check_settle : goal.returns-in_err-check_settle
returns-in_err-check_settle g c =
    let p = err_from_is_err_and c.from_residual.result c.from_residual.ensures.1 in
    rw (p.1, p.2) (Refusal.broken c.in_err-check_settle.ensures, refl {a = c.args.setting.now})

pub slice_bounds-table-end : goal.slice_bounds-table-end
slice_bounds-table-end g c = rw (c.lines.ensures, c.outputs-table.ensures) (omega (arith, law_few c.args.plan.now.lawful, law_room c.args.plan.now.lawful))

pub slice_bounds-pairs-end : goal.slice_bounds-pairs-end
slice_bounds-pairs-end g c = rw (c.lines.ensures, c.outputs-table.ensures, law_size c.args.plan.now.lawful)

pub slice_bounds-room-end : goal.slice_bounds-room-end
slice_bounds-room-end g c = omega (arith, c.cells.ensures, cells_few g.F.OuterColumns.OUTER c.args.self.now.level.depth (outer_few g.F.OuterColumns.counted) c.args.self.now.level.small)

pub slice_bounds-scratch-end : goal.slice_bounds-scratch-end
slice_bounds-scratch-end g c = simp length-take (omega (arith, c.cells.ensures, cells_few g.F.OuterColumns.OUTER c.args.self.now.level.depth (outer_few g.F.OuterColumns.counted) c.args.self.now.level.small))

pub settle_level-requires-clause-settleable : goal.settle_level-requires-clause-settleable
settle_level-requires-clause-settleable g c =
    let ok = c.in_ok-check_settle.ensures in
    record {
      sized = record {
        pairs_size = rw (c.lines.ensures, c.outputs-table.ensures) ok.sized.pairs_size;
        holds_size = ok.sized.holds_size;
        buffer_size = grind (arith, length-take, ok.sized.buffer_size, c.cells.ensures, cells_few g.F.OuterColumns.OUTER c.args.self.now.level.depth (outer_few g.F.OuterColumns.counted) c.args.self.now.level.small);
      };
      holdable = ok.holdable;
    }

pub settle_level-requires-clause-pairable : goal.settle_level-requires-clause-pairable
settle_level-requires-clause-pairable g c = rw (c.lines.ensures, c.outputs-table.ensures) (plan_pairable c.args.plan.now.lines (lines_at c.args.self.now.level.depth) c.args.plan.now.outputs c.args.plan.now.lawful c.in_ok-check_settle.ensures.sized.pairs_size)

pub returns-then-not-settle_level : goal.returns-then-not-settle_level
returns-then-not-settle_level g c = (Refusal.no_setting c.in_ok-check_settle.ensures (rw (c.lines.ensures, c.outputs-table.ensures) at c.if-not-settle_level.ensures), refl)
