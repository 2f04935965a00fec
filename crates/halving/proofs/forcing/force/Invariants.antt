-- The pairs read so far have put their cells.
use Rattle.halving.specs.Halving.{lines_at}
use Rattle.halving.specs.Column.{Forced}
use Rattle.halving.specs.Outer.{wanted_cell, wanted_position}
use Rattle.halving.proofs.forcing.force.Given as goal

abbrev pub invariant-loop-input : goal.invariant-loop-input
invariant-loop-input g l =
    Forced l.input (wanted_cell g.F.OuterColumns.OUTER l.pairs) (wanted_position g.F.OuterColumns.OUTER (lines_at l.half.depth) l.pairs l.first) l.pairs l.initial.column l.column
