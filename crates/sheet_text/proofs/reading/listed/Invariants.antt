use Rattle.std.proofs.Common.{◌-◌, ◌≤◌, length}
use Rattle.words.specs.Words.{words_of}
use Rattle.sheet_text.specs.Lists.{Entered}
use Rattle.sheet_text.proofs.reading.listed.Given as goal

-- the entries read so far are in the list
abbrev pub invariant-loop-rest : goal.invariant-loop-rest
invariant-loop-rest l = (length l.numbers.items ≤ 64) × Entered (words_of l.text) l.numbers.items (words_of l.rest)

abbrev pub decreases-loop-rest : goal.decreases-loop-rest
decreases-loop-rest l = 64 - length l.numbers.items
