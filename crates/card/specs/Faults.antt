-- The numbers of causes and layers.
use Rattle.std.specs.Prelude.{ℕ}
use Rattle.card.specs.declared.fault.Cause.{Cause}
use Rattle.card.specs.declared.fault.Cause.TheVariants.{UnknownCard, NoInput, NoOutput, InputBusy, OutputBusy, InputIdle, NoCell, NoPosition, CellHeld, CellNotHeld, NoSetting, BadMark, CutShort, WrongLength, SheetPosition, SheetHold, SheetPair, PastColumns}
use Rattle.card.specs.declared.fault.Layer.{Layer}
use Rattle.card.specs.declared.fault.Layer.TheVariants.{Record, Cabinet, Card}
use Rattle.card.specs.declared.fault.Fault.{Fault}

abbrev pub cause_number : Cause → ℕ
cause_number UnknownCard = 1
cause_number NoInput = 2
cause_number NoOutput = 3
cause_number InputBusy = 4
cause_number OutputBusy = 5
cause_number InputIdle = 6
cause_number NoCell = 7
cause_number NoPosition = 8
cause_number CellHeld = 9
cause_number CellNotHeld = 10
cause_number NoSetting = 11
cause_number BadMark = 12
cause_number CutShort = 13
cause_number WrongLength = 14
cause_number SheetPosition = 15
cause_number SheetHold = 16
cause_number SheetPair = 17
cause_number PastColumns = 18

abbrev pub layer_number : Layer → ℕ
layer_number Record = 1
layer_number Cabinet = 2
layer_number Card = 3

-- a fault by its parts
abbrev pub fault : Cause → Layer → ℕ → Fault
fault c l p = record { cause = c; layer = l; place = p }
