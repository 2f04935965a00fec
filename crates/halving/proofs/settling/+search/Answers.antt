-- The first setting of the card, outer columns by outer columns.
use Rattle.std.proofs.Common.{ℕ, ◌*◌, List, take, refl, ◌∙◌, arith}
use Rattle.std.proofs.lemmas.List.{length-take-le}
use Rattle.halving.specs.Halving.{lines_at}
use Rattle.halving.specs.Outer.{Halved}
use Rattle.halving.proofs.Search.{Split, split, half_settleable, planned, past_front, past_half, past_all, first_found, upper_is, lower_is, whole_foremost, whole_fails, tries}
use Rattle.halving.proofs.settling.+search.Goals as goal
use Rattle.halving.proofs.settling.+search.Goals.{settle_halves-After-split_at_mut-upper}

pub settle_level-returns-in-None : goal.settle_level-returns-in-None
settle_level-returns-in-None g t c = rw c.in-None.ensures (c.settle_cell.ensures g.F.OuterColumns.OUTER)

holds_split : (g : _) (t : ℕ) (c : settle_halves-After-split_at_mut-upper g t) → Split g.F.OuterColumns.OUTER c.args.half.depth c.args.holds.now c.split_at.result.0.now c.split_at-2.result.0.now c.split_at-2.result.1.now
holds_split g t c = split (rw (c.OUTER.ensures, c.lines-lines.ensures.count)) c.cells-cells.ensures.count c.requires.settleable.sized.holds_size c.split_at.ensures.front c.split_at.ensures.back c.split_at-2.ensures.front c.split_at-2.ensures.back

parts : (g : _) (t : ℕ) (c : settle_halves-After-split_at_mut-upper g t) → Split g.F.OuterColumns.OUTER c.args.half.depth c.args.setting.now c.split_at_mut-front.result.0.now c.split_at_mut-upper.result.0.now c.split_at_mut-upper.result.1.now
parts g t c =
    split (rw (c.OUTER.ensures, c.lines-lines.ensures.count)) c.cells-cells.ensures.count c.requires.settleable.sized.buffer_size c.split_at_mut-front.ensures.front c.split_at_mut-front.ensures.back c.split_at_mut-upper.ensures.front c.split_at_mut-upper.ensures.back

-- the plan of a half, as the search has it
halved : (g : _) (t : ℕ) (c : settle_halves-After-split_at_mut-upper g t) (b : ℕ) (s a : List ℕ) → Halved g.F.OuterColumns.OUTER (lines_at c.args.half.depth) (lines_at c.args.half.depth) c.args.pairs.now (take c.lines-lines.result s) b a
    → Halved g.F.OuterColumns.OUTER (lines_at c.args.half.depth) (lines_at c.args.half.depth) c.args.pairs.now s b a
halved g t c b s a u = planned g.F.OuterColumns.OUTER (lines_at c.args.half.depth) b c.args.pairs.now s a (rw c.lines-lines.ensures.count at u)

pub settle_halves-settle_level-requires : goal.settle_halves-settle_level-requires
settle_halves-settle_level-requires g t c κs within =
    let d = (goal.at.settle_halves-settle_level-requires g t c).After-split_at_mut-upper in
    let p = parts g t d in
    let kept = c.loop-n.auto in
    let lines = c.half_plan.auto.plan ∙ c.loop-n.auto.plan ∙ length-take-le c.lines-lines.result _ c.lines-lines.ensures.few ∙ c.lines-lines.ensures.count in (
      omega (arith, c.decreases),
      (
        within,
        (
          (half_settleable c.half_plan.new.plan c.requires.settleable (holds_split g t d) lines (omega (arith, p.upper)) p.lower).0,
          c.half_plan.ensures.pairable,
        ),
      ),
    )

pub settle_halves-settle_level-requires-in-loop-n : goal.settle_halves-settle_level-requires-in-loop-n
settle_halves-settle_level-requires-in-loop-n g t c κs within =
    let d = (goal.at.settle_halves-settle_level-requires-in-loop-n g t c).After-split_at_mut-upper in
    let p = parts g t d in
    let kept = c.loop-n.auto in
    let lines = c.half_plan-in-loop-n.auto.plan ∙ c.half_plan.auto.plan ∙ c.loop-n.auto.plan ∙ length-take-le c.lines-lines.result _ c.lines-lines.ensures.few ∙ c.lines-lines.ensures.count in (
      omega (arith, c.decreases),
      (
        within,
        (
          (half_settleable c.half_plan-in-loop-n.new.plan c.requires.settleable (holds_split g t d) lines p.upper (omega (arith, p.lower))).1,
          c.half_plan-in-loop-n.ensures.pairable,
        ),
      ),
    )

pub settle_halves-loop-n-preserved-then-not-try_front : goal.settle_halves-loop-n-preserved-then-not-try_front
settle_halves-loop-n-preserved-then-not-try_front g t c =
    let d = (goal.at.settle_halves-loop-n-preserved-then-not-try_front g t c).After-split_at_mut-upper in
    past_front g.F.OuterColumns.counted c.args.half.depth c.loop-n.n c.args.pairs.now c.args.holds.now c.loop-n.invariant (whole_fails (holds_split g t d) c.if-not-try_front.ensures)

pub settle_halves-loop-n-preserved-then-not-settle_level : goal.settle_halves-loop-n-preserved-then-not-settle_level
settle_halves-loop-n-preserved-then-not-settle_level g t c =
    let d = (goal.at.settle_halves-loop-n-preserved-then-not-settle_level g t c).After-split_at_mut-upper in
    let sh = holds_split g t d in
    let s = c.try_front.new.front in
    past_half g.F.OuterColumns.counted c.args.half.depth c.loop-n.n c.args.pairs.now c.args.holds.now c.loop-n.invariant s c.half_plan.new.plan 0 (omega arith) c.requires.pairable
    (whole_foremost sh s c.if-not-try_front.ensures).front (halved g t d 0 s c.half_plan.new.plan c.half_plan.ensures.halved) (rw (upper_is sh) c.if-not-settle_level.ensures)

pub settle_halves-loop-n-preserved : goal.settle_halves-loop-n-preserved
settle_halves-loop-n-preserved g t c =
    let d = (goal.at.settle_halves-loop-n-preserved g t c).After-split_at_mut-upper in
    let sh = holds_split g t d in
    let s = c.try_front.new.front in
    past_half g.F.OuterColumns.counted c.args.half.depth c.loop-n.n c.args.pairs.now c.args.holds.now c.loop-n.invariant s c.half_plan-in-loop-n.new.plan 1 (omega arith) c.requires.pairable
    (whole_foremost sh s c.if-not-try_front.ensures).front (halved g t d 1 s c.half_plan-in-loop-n.new.plan c.half_plan-in-loop-n.ensures.halved) (rw (lower_is sh) c.if-settle_level.ensures)

pub settle_halves-returns-then-settle_level : goal.settle_halves-returns-then-settle_level
settle_halves-returns-then-settle_level g t c =
    let d = (goal.at.settle_halves-returns-then-settle_level g t c).After-split_at_mut-upper in
    let p = parts g t d in
    let sh = holds_split g t d in
    let s = c.try_front.new.front in
    first_found g.F.OuterColumns.counted c.args.half.depth c.loop-n.n c.args.pairs.now c.args.holds.now c.loop-n.invariant _ s c.settle_level.new.setting c.settle_level-in-loop-n.new.setting _ _ _ _ _ c.args.half.small c.requires.pairable
    (record { is = refl; front = omega (arith, p.front); upper = omega (arith, p.upper); lower = omega (arith, p.lower) })
    sh (whole_foremost sh s c.if-not-try_front.ensures) (halved g t d 0 s c.half_plan.new.plan c.half_plan.ensures.halved) (halved g t d 1 s c.half_plan-in-loop-n.new.plan c.half_plan-in-loop-n.ensures.halved)
    c.if-not-settle_level.ensures c.if-settle_level.ensures

pub settle_halves-returns : goal.settle_halves-returns
settle_halves-returns g t c =
    let e = tries g.F.OuterColumns.counted (lines_at c.args.half.depth) (c.OUTER.result * c.lines-lines.result) c.lines-lines.result (omega arith) (rw (c.OUTER.ensures, c.lines-lines.ensures.count)) c.lines-lines.ensures.count in
    past_all g.F.OuterColumns.counted c.args.half.depth c.loop-n.n c.args.pairs.now c.args.holds.now c.loop-n.invariant (omega arith)
