-- The numbers of verdicts, and their words.
use Rattle.std.specs.Prelude.{ℕ, List, codes}
use Rattle.sheets.specs.declared.Verdict.{Verdict}
use Rattle.sheets.specs.declared.Verdict.TheVariants.{First, Other}

abbrev pub verdict_number : Verdict → ℕ
verdict_number First = 0
verdict_number Other = 1

abbrev pub verdict_words : Verdict → List ℕ
verdict_words First = codes "the sheet fits and comes first"
verdict_words Other = codes "the sheet fits, but another setting comes first"
