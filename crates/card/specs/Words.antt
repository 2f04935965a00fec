-- Causes in words.
use Rattle.std.specs.Prelude.{ℕ, List, codes}
use Rattle.card.specs.declared.fault.Cause.{Cause}
use Rattle.card.specs.declared.fault.Cause.TheVariants as causes

abbrev pub cause_words : Cause → List ℕ
cause_words causes.UnknownCard = codes "kind or line count unknown"
cause_words causes.NoInput = codes "no such input"
cause_words causes.NoOutput = codes "no such output"
cause_words causes.InputBusy = codes "input busy"
cause_words causes.OutputBusy = codes "output busy"
cause_words causes.InputIdle = codes "input idle"
cause_words causes.NoCell = codes "no such cell"
cause_words causes.NoPosition = codes "no such position"
cause_words causes.CellHeld = codes "cell held"
cause_words causes.CellNotHeld = codes "cell not held"
cause_words causes.NoSetting = codes "no setting fits"
cause_words causes.BadMark = codes "mark unknown or out of place"
cause_words causes.CutShort = codes "record cut short"
cause_words causes.WrongLength = codes "wrong length"
cause_words causes.SheetPosition = codes "position out of range"
cause_words causes.SheetHold = codes "held cell differs"
cause_words causes.SheetPair = codes "pair not carried"
cause_words causes.PastColumns = codes "more than S columns"
