use Rattle.std.proofs.Common.{ℕ, ◌<◌, get_or, length}
use Rattle.card.proofs.Card.check_place.Given as goal

-- the positions of the cells read so far lie in range
abbrev pub invariant-loop-cell : goal.invariant-loop-cell
invariant-loop-cell g l = (c : ℕ) → c < length l.yielded → get_or l.setting c 0 < (g.Self.Card.meaning l.self).positions c
