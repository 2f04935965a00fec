use Rattle.std.proofs.Common.{sym, ap, ◌∙◌, arith, get_or, below_more, length}
use Rattle.std.specs.Iterator.Adapters.{zip_first}
use Rattle.std.proofs.lemmas.List.{length_push}
use Rattle.card.specs.Placing.{Unplaceable}
use Rattle.card.proofs.Numbered.{numbered_turn, numbered_end}
use Rattle.card.proofs.Card.check_place.Goals as goal

pub returns-then-setting-cells : goal.returns-then-setting-cells
returns-then-setting-cells g c = Unplaceable.wrong_length (λ e. c.if-setting-cells.true (e ∙ sym c.cells-cells.ensures))

pub returns-then-position-positions : goal.returns-then-position-positions
returns-then-position-positions g c =
    let k = numbered_turn c.cells-cells.result c.args.setting.now c.if-setting-cells.false c.loop-cell.yielded c.into_iter-cell-iterator.result c.loop-cell.cell-iterator c.next.new.self _ (ap zip_first c.into_iter-cell-iterator.ensures.into_iter_gives ∙ c.zip-cell-items.ensures.first) (cc) c.loop-cell.yielded_by (c.in-Some.cell, c.in-Some.field-0-1) c.in-Some.is c.next.ensures.steps in
    let stands = k.2 ∙ ap (λ i. get_or c.args.setting.now i 0) (sym k.1) in
    Unplaceable.wrong_position (c.if-setting-cells.false ∙ c.cells-cells.ensures) c.in-Some.cell
    (record { inside = omega (arith, c.cells-cells.ensures, k.0, k.1); outside = omega (arith, c.in_ok-positions.ensures.1, stands); lowest = λ d h. c.loop-cell.invariant d (omega (arith, h, k.1)) })

pub loop-cell-preserved : goal.loop-cell-preserved
loop-cell-preserved g c =
    let k = numbered_turn c.cells-cells.result c.args.setting.now c.if-setting-cells.false c.loop-cell.yielded c.into_iter-cell-iterator.result c.loop-cell.cell-iterator c.next.new.self _ (ap zip_first c.into_iter-cell-iterator.ensures.into_iter_gives ∙ c.zip-cell-items.ensures.first) (cc) c.loop-cell.yielded_by (c.in-Some.cell, c.in-Some.field-0-1) c.in-Some.is c.next.ensures.steps in
    let stands = ap (g.Self.Card.meaning c.args.self.now).positions (sym k.1) in
    let all = below_more _ (length c.loop-cell.yielded) c.loop-cell.invariant (omega (arith, k.2, stands, c.in_ok-positions.ensures.1, c.if-position-positions.false)) in
    λ d h. all d (omega (arith, h, length_push c.loop-cell.yielded (c.in-Some.cell, c.in-Some.field-0-1)))

pub returns-then-input-lines : goal.returns-then-input-lines
returns-then-input-lines g c =
    let k = numbered_end c.cells-cells.result c.args.setting.now c.if-setting-cells.false c.loop-cell.yielded c.into_iter-cell-iterator.result c.loop-cell.cell-iterator c.next.new.self _ (ap zip_first c.into_iter-cell-iterator.ensures.into_iter_gives ∙ c.zip-cell-items.ensures.first) (cc) c.loop-cell.yielded_by c.in-None.is c.next.ensures.steps in
    Unplaceable.no_input (record { size = c.if-setting-cells.false ∙ c.cells-cells.ensures; below = λ d h. c.loop-cell.invariant d (omega (arith, h, k, c.cells-cells.ensures)) }) (omega (arith, c.lines.ensures))

pub returns-then-passed-columns : goal.returns-then-passed-columns
returns-then-passed-columns g c =
    let k = numbered_end c.cells-cells.result c.args.setting.now c.if-setting-cells.false c.loop-cell.yielded c.into_iter-cell-iterator.result c.loop-cell.cell-iterator c.next.new.self _ (ap zip_first c.into_iter-cell-iterator.ensures.into_iter_gives ∙ c.zip-cell-items.ensures.first) (cc) c.loop-cell.yielded_by c.in-None.is c.next.ensures.steps in
    Unplaceable.too_far (record { size = c.if-setting-cells.false ∙ c.cells-cells.ensures; below = λ d h. c.loop-cell.invariant d (omega (arith, h, k, c.cells-cells.ensures)) }) (omega (arith, c.lines.ensures)) (omega (arith, c.columns.ensures))
