-- The orders of a cabinet, the rows of its log, and the pairs and holds that a log leaves in force.
use Rattle.std.specs.Prelude.{◌≡◌, ℕ, ◌<◌, ◌≤◌, List, [], ◌∷◌, length, get_or, replicate, Ok, Err, Result, ◌≢◌, slice_index_or, slice_set}
use Rattle.card.specs.declared.fault.Cause.TheVariants.{NoCell, NoPosition, CellHeld, CellNotHeld}
use Rattle.card.specs.declared.fault.Layer.TheVariants.{Cabinet}
use Rattle.card.specs.declared.fault.Fault.{Fault}
use Rattle.card.specs.Faults.{fault}
use Rattle.card.specs.Meaning.{Meaning}
use Rattle.card.specs.Settling.{none}
use Rattle.card.specs.Plans.{Plannable, Unplannable, Patchable, Unpatchable, Droppable, Undroppable}

-- the orders that settle anew
pub data Order : Type 0 where
  plan : List ℕ → Order
  patch : ℕ → ℕ → Order
  drop : ℕ → Order
  hold : ℕ → ℕ → Order
  release : ℕ → Order

-- one row of a log
pub data Row : Type 0 where
  -- a card of so many lines and cells is commissioned
  commissioned : ℕ → ℕ → Row
  -- an order, and how many cells moved or why it was refused
  ordered : Order → Result ℕ Fault → Row
  -- a carry: how many payloads were given, how many outputs were to be filled; and for each output the input whose payload it got, or none, or why the carry was refused
  carried : ℕ → ℕ → Result (List ℕ) Fault → Row

-- the pairs and holds in force: for each input its output, for each cell its held position, or none
pub record Force : Type 0 where
  pub pairs : List ℕ
  pub holds : List ℕ

-- nothing is in force
abbrev pub idle : ℕ → ℕ → Force
idle lines cells = record { pairs = replicate lines none; holds = replicate cells none }

-- what an order wants: the pairs and holds that would be in force after it if it were done
abbrev pub wanted : Order → Force → Force
wanted (plan ps) f = record { pairs = ps; holds = f.holds }
wanted (patch i o) f = record { pairs = slice_set f.pairs i o; holds = f.holds }
wanted (drop i) f = record { pairs = slice_set f.pairs i none; holds = f.holds }
wanted (hold c p) f = record { pairs = f.pairs; holds = slice_set f.holds c p }
wanted (release c) f = record { pairs = f.pairs; holds = slice_set f.holds c none }

-- what is in force after an order: what it wanted if it was done, else what was before
abbrev pub after : Order → Result ℕ Fault → Force → Force
after o (Ok n) f = wanted o f
after o (Err e) f = f

-- what a log leaves in force, read from the log alone; its last row stands first
abbrev pub in_force : List Row → Force
in_force [] = idle 0 0
in_force (Row.commissioned lines cells ∷ rows) = idle lines cells
in_force (Row.ordered o a ∷ rows) = after o a (in_force rows)
in_force (Row.carried a b r ∷ rows) = in_force rows

-- a cell that is not held, and a position that it has
pub record HoldableAt (m : Meaning) (holds : List ℕ) (c p : ℕ) : Type 0 where
  pub cell : c < m.cells
  pub position : p < m.positions c
  pub free : get_or holds c none ≡ none

-- the first rule that a hold breaks
pub data UnholdableAt (m : Meaning) (holds : List ℕ) (c p : ℕ) : Fault → Type 0 where
  no_cell : m.cells ≤ c → UnholdableAt m holds c p (fault NoCell Cabinet c)
  no_position : c < m.cells → m.positions c ≤ p → UnholdableAt m holds c p (fault NoPosition Cabinet c)
  held : c < m.cells → p < m.positions c → (slice_index_or holds c none ≢ none) → UnholdableAt m holds c p (fault CellHeld Cabinet c)

-- a held cell
pub record Releasable (m : Meaning) (holds : List ℕ) (c : ℕ) : Type 0 where
  pub cell : c < m.cells
  pub held : get_or holds c none ≡ none → ⊥

-- the first rule that a release breaks
pub data Unreleasable (m : Meaning) (holds : List ℕ) (c : ℕ) : Fault → Type 0 where
  no_cell : m.cells ≤ c → Unreleasable m holds c (fault NoCell Cabinet c)
  not_held : c < m.cells → slice_index_or holds c none ≡ none → Unreleasable m holds c (fault CellNotHeld Cabinet c)

-- the order breaks no earlier rule: none but perhaps the last, that a setting must fit
abbrev pub Clear : Meaning → Force → Order → Type 0
Clear m f (plan ps) = Plannable (length ps ≡ m.lines) m.lines ps
Clear m f (patch i o) = Patchable m.lines f.pairs i o
Clear m f (drop i) = Droppable m.lines f.pairs i
Clear m f (hold c p) = HoldableAt m f.holds c p
Clear m f (release c) = Releasable m f.holds c

-- the first rule that the order breaks, if it is an earlier one
abbrev pub Broken : Meaning → Force → Order → Fault → Type 0
Broken m f (plan ps) e = Unplannable (length ps ≡ m.lines) m.lines ps e
Broken m f (patch i o) e = Unpatchable m.lines f.pairs i o e
Broken m f (drop i) e = Undroppable m.lines f.pairs i e
Broken m f (hold c p) e = UnholdableAt m f.holds c p e
Broken m f (release c) e = Unreleasable m f.holds c e

-- the place that a refusal for want of a setting names
abbrev pub stuck : Order → ℕ
stuck (plan ps) = 0
stuck (patch i o) = i
stuck (drop i) = 0
stuck (hold c p) = c
stuck (release c) = 0

-- a carry is given a payload for each line, and an output to fill for each line
pub record Carriable (m : Meaning) (a b : ℕ) : Type 0 where
  pub given : a ≡ m.lines
  pub filled : b ≡ m.lines
