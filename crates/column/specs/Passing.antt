-- What a column card means.
use Rattle.std.specs.Prelude.{ℕ, zero, suc, ◌-◌, List, [], ◌∷◌, length, drop}
use Rattle.card.specs.Meaning.{Meaning}

-- what a position of column j does to a line: position 0 leaves it in place, and the position above t applies the leader with target t
abbrev pub turned : (ℕ → ℕ → ℕ → ℕ) → ℕ → ℕ → ℕ → ℕ
turned lead zero j p = p
turned lead (suc t) j p = lead t j p

-- where a line stands after the columns of these cells, passed in rising order: the last cell is column 1, and each cell before it one column on
abbrev pub through : (ℕ → ℕ → ℕ → ℕ) → List ℕ → ℕ → ℕ
through lead [] i = i
through lead (k ∷ ks) i = turned lead k (suc (length ks)) (through lead ks i)

-- the card of columns 1 to j: cell 0 is column j with j + 1 positions, and after s columns the last s cells are passed
abbrev pub column_card : (ℕ → ℕ → ℕ → ℕ) → ℕ → Meaning
column_card lead j = record { lines = suc j; cells = j; columns = j; positions = λ c. suc j - c; place = λ l i s. through lead (drop (j - s) l) i }
