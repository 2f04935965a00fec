-- Answers as text.
use Rattle.std.specs.Prelude.{ℕ, List, [], min, take, ◌++◌, Some, Ok, Err, codes, Option, Result}
use Rattle.std.specs.List.{join_by}
use Rattle.std.specs.Fmt.{decimal}
use Rattle.cabinet.specs.declared.command.Reply.{Reply}
use Rattle.cabinet.specs.declared.command.Reply.TheVariants.{Moved, Numbers, Frames}
use Rattle.card.specs.declared.fault.Fault.{Fault}
use Rattle.card.specs.Faults.{cause_number, layer_number}

-- numbers with a blank between two
abbrev pub list_text : List ℕ → List ℕ
list_text ns = join_by decimal (codes " ") ns

-- a refusal by its three numbers
abbrev pub refusal_text : Fault → List ℕ
refusal_text e = codes "NO " ++ decimal (cause_number e.cause) ++ codes " " ++ decimal (layer_number e.layer) ++ codes " " ++ decimal e.place

-- what was answered, by its own text, or the refusal
abbrev pub answer_text : {T : Type 0} → (T → Option (List ℕ)) → Result T Fault → Option (List ℕ)
answer_text text (Ok x) = text x
answer_text text (Err e) = Some (refusal_text e)

-- what a cabinet of so many lines replied: how many cells moved, or the numbers at its outputs
abbrev pub reply_text : ℕ → Reply → List ℕ
reply_text lines (Moved n) = codes "moved " ++ decimal n
reply_text lines (Numbers table) = codes "rang " ++ list_text (take (min lines 16) table)
reply_text lines (Frames table) = []
