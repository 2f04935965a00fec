-- Twice as many at each level.
use Rattle.std.proofs.Common.{arith}
use Rattle.halving.specs.Counts.{lines_some, lines_few}
use Rattle.halving.proofs.Sizes.{lines_shift}
use Rattle.halving.proofs.levels.Level.lines.Goals as goal

pub returns : goal.returns
returns c =
    let e = lines_shift c.args.self.depth c.args.self.small in
    record { count = e; some = omega (arith, lines_some c.args.self.depth); few = omega (arith, lines_few c.args.self.depth c.args.self.small) }
