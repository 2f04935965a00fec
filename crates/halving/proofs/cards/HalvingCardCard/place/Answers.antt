-- The place fits a byte.
use Rattle.std.proofs.Common.{arith}
use Rattle.halving.specs.Counts.{lines_few}
use Rattle.halving.proofs.cards.HalvingCardCard.place.Goals as goal

pub overflow_cast-result : goal.overflow_cast-result
overflow_cast-result g c = omega (arith, lines_few c.args.self.now.level.depth c.args.self.now.level.small, c.place_after.ensures.within)
