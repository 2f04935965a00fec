-- The column sheet, column by column.
use Rattle.std.proofs.Common.{◌≡◌, ◌-◌, drop}
use Rattle.column.specs.Passing.{through}
use Rattle.column.proofs.columns.ColumnCardCard.place.Given as goal

-- the place after the columns before this one
abbrev pub invariant-loop-column : goal.invariant-loop-column
invariant-loop-column g l = l.line ≡ through g.F.Leaders.lead (drop (l.self.lines - l.column) l.setting) l.input
