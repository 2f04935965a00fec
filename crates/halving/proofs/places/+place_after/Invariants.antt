-- The recursion falls by a level.
use Rattle.halving.proofs.places.+place_after.Given as goal

abbrev pub decreases-place_after : goal.decreases-place_after
decreases-place_after g l = l.level.depth
