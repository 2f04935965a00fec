-- The outer columns serve, or the numbered part does not keep its holds, or the pairs cannot all force their cells.
use Rattle.std.proofs.Common.{◌*◌, drop, slice_index_or, ◌∙◌, arith}
use Rattle.card.specs.Settling.{none}
use Rattle.halving.specs.Halving.{lines_at}
use Rattle.halving.specs.Outer.{before, wanted_cell, wanted_position}
use Rattle.halving.proofs.Parts.{busy_below}
use Rattle.halving.proofs.Routing.{cell_below, position_bit}
use Rattle.halving.proofs.Forces.{fill_obeys, fill_least}
use Rattle.halving.proofs.Trying.{Started, started, before_last, unkept, start_open, start_long, front_obeys, obeys_front, obeys_least}
use Rattle.halving.proofs.fronts.try_front.Goals as goal

pub returns-then-not-kept : goal.returns-then-not-kept
returns-then-not-kept g c =
    let w = g.F.OuterColumns.OUTER in
    let h = lines_at c.args.half.depth in
    let whole = before_last g.F.OuterColumns.counted h in
    let o : Started w h c.args.n c.args.pairs.now c.args.holds.now c.write_number.new.column c.split_at.result.0.now c.split_at.result.1.now =
    started w h c.args.n _ _ c.args.pairs.now c.args.holds.now c.write_number.new.column _ _ g.F.OuterColumns.counted c.requires.lines c.requires.sized c.write_number.auto.column c.write_number.ensures.number c.write_number.ensures.bits
    c.split_at.ensures.front c.split_at.ensures.back c.split_at_mut-first.ensures.front_len (omega (arith, c.lines.ensures.count)) in
    unkept o c.if-not-kept.ensures

pub force-requires-clause-start : goal.force-requires-clause-start
force-requires-clause-start g c =
    let w = g.F.OuterColumns.OUTER in
    let h = lines_at c.args.half.depth in
    let whole = before_last g.F.OuterColumns.counted h in
    let o : Started w h c.args.n c.args.pairs.now c.args.holds.now c.write_number.new.column c.split_at.result.0.now c.start.new.column =
    started w h c.args.n _ _ c.args.pairs.now c.args.holds.now c.write_number.new.column _ _ g.F.OuterColumns.counted c.requires.lines c.requires.sized c.write_number.auto.column c.write_number.ensures.number c.write_number.ensures.bits
    c.split_at.ensures.front (c.start.ensures ∙ c.split_at.ensures.back) c.split_at_mut-first.ensures.front_len (omega (arith, c.lines.ensures.count)) in
    start_open o c.requires.holding

pub returns-then-not-force : goal.returns-then-not-force
returns-then-not-force g c t f =
    let w = g.F.OuterColumns.OUTER in
    let h = lines_at c.args.half.depth in
    let whole = before_last g.F.OuterColumns.counted h in
    let o : Started w h c.args.n c.args.pairs.now c.args.holds.now c.write_number.new.column c.split_at.result.0.now c.start.new.column =
    started w h c.args.n _ _ c.args.pairs.now c.args.holds.now c.write_number.new.column _ _ g.F.OuterColumns.counted c.requires.lines c.requires.sized c.write_number.auto.column c.write_number.ensures.number c.write_number.ensures.bits
    c.split_at.ensures.front (c.start.ensures ∙ c.split_at.ensures.back) c.split_at_mut-first.ensures.front_len (omega (arith, c.lines.ensures.count)) in
    c.if-not-force.ensures (drop (before w h) t) (front_obeys o t f)

pub returns : goal.returns
returns g c =
    let w = g.F.OuterColumns.OUTER in
    let h = lines_at c.args.half.depth in
    let whole = before_last g.F.OuterColumns.counted h in
    let o : Started w h c.args.n c.args.pairs.now c.args.holds.now c.write_number.new.column c.split_at.result.0.now c.start.new.column =
    started w h c.args.n _ _ c.args.pairs.now c.args.holds.now c.write_number.new.column _ _ g.F.OuterColumns.counted c.requires.lines c.requires.sized c.write_number.auto.column c.write_number.ensures.number c.write_number.ensures.bits
    c.split_at.ensures.front (c.start.ensures ∙ c.split_at.ensures.back) c.split_at_mut-first.ensures.front_len (omega (arith, c.lines.ensures.count)) in
    let pairs = c.args.pairs.now in
    let obeys = fill_obeys (wanted_cell w pairs) (wanted_position w h pairs c.write_number.new.column) pairs c.start.new.column (λ j. position_bit w h c.write_number.new.column j (slice_index_or pairs j none)) c.force.new.column c.fill.new.column c.if-not-force.ensures c.fill.ensures
    (λ j p busy. omega (arith, start_long o, cell_below w h j (slice_index_or pairs j none) (omega arith) (busy_below (2 * h) pairs j c.requires.pairable (omega arith) busy))) in
    record {
      front = obeys_front o c.fill.new.column c.if-not-kept.ensures obeys;
      least = obeys_least o c.fill.new.column c.if-not-kept.ensures obeys
          (fill_least (wanted_cell w pairs) (wanted_position w h pairs c.write_number.new.column) pairs c.start.new.column (λ j. position_bit w h c.write_number.new.column j (slice_index_or pairs j none)) c.force.new.column c.fill.new.column c.if-not-force.ensures c.fill.ensures);
    }
