-- Numbers written in decimal.
use Rattle.std.specs.Prelude.{◌≡◌, ℕ, ◌+◌, ◌-◌, ◌*◌, ◌<◌, ◌≤◌, List, [], ◌∷◌, length, Some, None, Option, slice_index}

-- the characters from '0' to '9'
abbrev pub Digit : ℕ → Type 0
Digit b = (48 ≤ b) × (b ≤ 57)

-- the number that digits write after a number, highest digit first
abbrev pub decimal : ℕ → List ℕ → ℕ
decimal n [] = n
decimal n (d ∷ ds) = decimal (10 * n + (d - 48)) ds

-- the word writes a byte in decimal
pub record Number (word : List ℕ) (v : ℕ) : Type 0 where
  pub some : 1 ≤ length word
  pub digits : (k : ℕ) → k < length word → Digit (slice_index word k)
  pub value : decimal 0 word ≡ v
  pub small : v < 256

-- the byte that the word writes, or that it writes none
abbrev pub Numbered : List ℕ → Option ℕ → Type 0
Numbered word (Some v) = Number word v
Numbered word None = (v : ℕ) → Number word v → ⊥
