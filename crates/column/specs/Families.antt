-- The leaders of the two families: where the leader of column j with target t sends line p.
use Rattle.std.specs.Prelude.{ℕ, ◌+◌, cond, ◌&&◌, ◌==◌, nat_le, nat_lt}

-- lines t and j are swapped
abbrev pub klw : ℕ → ℕ → ℕ → ℕ
klw t j p = cond (p == j) t (cond (p == t) j p)

-- j goes to t, and each line from t to j - 1 goes one higher
abbrev pub bbc : ℕ → ℕ → ℕ → ℕ
bbc t j p = cond (p == j) t (cond (nat_le t p && nat_lt p j) (p + 1) p)
