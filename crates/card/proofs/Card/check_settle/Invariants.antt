use Rattle.std.proofs.Common.{ℕ, ◌<◌}
use Rattle.card.specs.Settling.{Holdable}
use Rattle.card.proofs.Card.check_settle.Given as goal

-- the holds of the cells read so far lie in range
abbrev pub invariant-loop-i : goal.invariant-loop-i
invariant-loop-i g l = (c : ℕ) → c < l.i → Holdable (g.Self.Card.meaning l.self) l.holds c
