-- The table is decided by computing.
use Rattle.std.proofs.Common.{refl}
use Rattle.halving.specs.Halving.{place}
use Rattle.worked.specs.Table.{table}
use Rattle.worked.proofs.Deciding.{decided}
use Rattle.worked.proofs.case_count.Goals as goal

pub returns : goal.returns
unfolding place
returns c = record { right = decided table refl; count = refl }
