-- Misread texts in words.
use Rattle.std.specs.Prelude.{ℕ, List, codes}
use Rattle.sheet_text.specs.declared.reading.Misread.{Misread}
use Rattle.sheet_text.specs.declared.reading.Misread.TheVariants as misreads

abbrev pub misread_words : Misread → List ℕ
misread_words misreads.Kind = codes "the text begins with `kind` and a number from 0 to 255"
misread_words misreads.Lines = codes "after the kind come `lines` and a number from 0 to 255"
misread_words misreads.Plan = codes "after the line count comes `plan`"
misread_words misreads.Holds = codes "after `plan` come at most 64 numbers from 0 to 255 or -, and then `holds`"
misread_words misreads.Sheet = codes "after `holds` come at most 64 numbers from 0 to 255 or -, and then `sheet`"
misread_words misreads.End = codes "after `sheet` come at most 64 numbers from 0 to 255 or -, and nothing else"
