-- What a halving card means, by recursion on its level: level 0 has 2 lines, and each level more has twice as many.
-- Above level 0 a card has w outer columns around two half cards of the level below: at w = 2 a first and a last column, at w = 1 a first column alone.
use Rattle.std.specs.Prelude.{◌≡◌, ℕ, zero, suc, ◌+◌, ◌*◌, ◌/◌, ◌%◌, cond, ◌⊎◌, List, take, drop, nat_le, slice_index}
use Rattle.card.specs.Meaning.{Meaning}

abbrev pub lines_at : ℕ → ℕ
lines_at zero = 2
lines_at (suc k) = 2 * lines_at k

-- cells count: the outer columns, each with as many cells as a half has lines, then the upper half, then the lower half
abbrev pub cells_at : ℕ → ℕ → ℕ
cells_at w zero = 1
cells_at w (suc k) = w * lines_at k + 2 * cells_at w k

-- the columns of the two halves count together
abbrev pub columns_at : ℕ → ℕ → ℕ
columns_at w zero = 1
columns_at w (suc k) = columns_at w k + w

-- the cells of half b of a card of the next level: half 0 is the upper, half 1 the lower
abbrev pub half : ℕ → ℕ → ℕ → List ℕ → List ℕ
half w k b l = take (cells_at w k) (drop (w * lines_at k + b * cells_at w k) l)

-- the half that input i enters, always at its line i / 2: an even input the upper and an odd one the lower, and at position 1 of their cell the other way round
abbrev pub side : List ℕ → ℕ → ℕ
side l i = (slice_index l (i / 2) + i % 2) % 2

-- the output to which the last column sends line x of half b: 2 x from the upper and 2 x + 1 from the lower, and at position 1 of their cell the other way round
abbrev pub leave : ℕ → List ℕ → ℕ → ℕ → ℕ
leave k l b x = 2 * x + (slice_index l (lines_at k + x) + b) % 2

-- where input i stands after s columns: a lone cell swaps at position 1; else the first column, the halves one above the other, and past their columns the last column
unfoldable pub place : ℕ → ℕ → List ℕ → ℕ → ℕ → ℕ
place w zero l i zero = i
place w zero l i (suc s) = (slice_index l 0 + i) % 2
place w (suc k) l i zero = i
place w (suc k) l i (suc s) =
    cond (nat_le s (columns_at w k))
    (side l i * lines_at k + place w k (half w k (side l i) l) (i / 2) s)
    (leave k l (side l i) (place w k (half w k (side l i) l) (i / 2) (columns_at w k)))

abbrev pub halving : ℕ → ℕ → Meaning
halving w k = record { lines = lines_at k; cells = cells_at w k; columns = columns_at w k; positions = λ c. 2; place = place w k }

-- a Beneš card has a last column
abbrev pub benes : ℕ → Meaning
benes = halving 2

-- a baseline card has none: it ends with the columns of its halves, and their places are its outputs
abbrev pub baseline : ℕ → Meaning
baseline = halving 1

-- what every family keeps: its cards have one or two outer columns
abbrev pub OneOrTwo : ℕ → Type 0
OneOrTwo w = (w ≡ 1) ⊎ (w ≡ 2)
