-- One more pair puts its cell, or cannot.
use Rattle.std.proofs.Common.{◌≡◌, ℕ, ◌*◌, ◌<◌, List, slice_index, slice_index_or, sym, ap, ◌∙◌, arith}
use Rattle.std.proofs.lemmas.List.{get_or_default}
use Rattle.card.specs.Settling.{none}
use Rattle.halving.specs.Halving.{lines_at}
use Rattle.halving.specs.Outer.{out_cell, out_position, wanted_cell, wanted_position}
use Rattle.halving.proofs.Parts.{busy_below}
use Rattle.halving.proofs.Routing.{cell_below, position_bit}
use Rattle.halving.proofs.Forces.{force_skip, force_put, force_fail}
use Rattle.halving.proofs.forcing.force.Goals as goal
use Rattle.halving.proofs.forcing.force.Goals.{then-output+else-not-put, else-output}

small : (w h : ℕ) (pairs l : List ℕ) (j : ℕ) → wanted_position w h pairs l j < 2
small w h pairs l j = position_bit w h l j (slice_index_or pairs j none)

pub returns-then-not-put : goal.returns-then-not-put
returns-then-not-put g c =
    let pairs = c.args.pairs.now in
    let first = c.args.first.now in
    let w = g.F.OuterColumns.OUTER in
    let h = lines_at c.args.half.depth in
    let i = c.loop-input.input in
    let e : slice_index pairs i ≡ slice_index_or pairs i none = get_or_default pairs i 0 none (omega arith) in
    let busy : slice_index_or pairs i none ≡ none → ⊥ = λ z. c.if-output.true (e ∙ z) in
    let is : c.cell-cell.result ≡ wanted_cell w pairs i = c.cell-cell.ensures ∙ ap (out_cell w i) e in
    let b = cell_below w h i (slice_index_or pairs i none) (omega arith) (busy_below (2 * h) pairs i c.requires.pairable (omega arith) busy) in
    force_fail (wanted_cell w pairs) (wanted_position w h pairs first) pairs c.args.column.now (small w h pairs first) i c.cell-cell.result c.position-position.result c.put.new.cell c.loop-input.column c.loop-input-test.true busy (omega arith)
    is (c.position-position.ensures ∙ ap (out_position w h first i) e) c.if-not-put.ensures c.loop-input.invariant

pub loop-input-preserved : goal.loop-input-preserved
loop-input-preserved g c =
    let pairs = c.args.pairs.now in
    let first = c.args.first.now in
    let w = g.F.OuterColumns.OUTER in
    let h = lines_at c.args.half.depth in
    let i = c.loop-input.input in
    let e : slice_index pairs i ≡ slice_index_or pairs i none = get_or_default pairs i 0 none (omega arith) in
    elim c.if-output.branch [
      | then-output+else-not-put u ↦
          let busy : slice_index_or pairs i none ≡ none → ⊥ = λ z. u.if-output.true (e ∙ z) in
          let is : u.cell-cell.result ≡ wanted_cell w pairs i = u.cell-cell.ensures ∙ ap (out_cell w i) e in
          let b = cell_below w h i (slice_index_or pairs i none) (omega arith) (busy_below (2 * h) pairs i c.requires.pairable (omega arith) busy) in
          rw u.column-is
          (force_put (wanted_cell w pairs) (wanted_position w h pairs first) pairs c.args.column.now (small w h pairs first) i u.cell-cell.result u.position-position.result u.put.new.cell c.loop-input.column c.loop-input-test.true busy (omega arith)
          is (u.position-position.ensures ∙ ap (out_position w h first i) e) u.if-not-put.ensures c.loop-input.invariant)
      | else-output u ↦ rw u.column-is (force_skip (wanted_cell w pairs) (wanted_position w h pairs first) pairs c.args.column.now (small w h pairs first) i c.loop-input.column (sym e ∙ u.if-output.false) c.loop-input.invariant)
    ]
