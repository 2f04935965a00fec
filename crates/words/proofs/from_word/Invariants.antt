use Rattle.std.proofs.Common.{◌≡◌, length}
use Rattle.words.specs.Words.{words_of, End}
use Rattle.words.proofs.from_word.Given as goal

-- the words from here on are those of the text
abbrev pub invariant-loop-first : goal.invariant-loop-first
invariant-loop-first l = End l.text l.rest × (words_of l.text ≡ words_of l.rest)

abbrev pub decreases-loop-first : goal.decreases-loop-first
decreases-loop-first l = length l.rest
