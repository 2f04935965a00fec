use Rattle.std.proofs.Common.{◌≡◌, ℕ, ◌<◌, ◌≤◌, get_or, drop}
use Rattle.words.specs.Numbers.{Digit, decimal}
use Rattle.words.proofs.number.Given as goal

-- the digits read so far write the value, and the rest goes on from it
abbrev pub invariant-loop-digit : goal.invariant-loop-digit
invariant-loop-digit l = (l.value ≤ 255) × ((k : ℕ) → k < l.digit-index → Digit (get_or l.word k 0)) × (decimal l.value (drop l.digit-index l.word) ≡ decimal 0 l.word)
