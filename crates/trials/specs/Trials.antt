-- The names of what the vectors ask for besides.
use Rattle.std.specs.Prelude.{ℕ, List, codes}
use Rattle.trials.specs.declared.Trial.{Trial}
use Rattle.trials.specs.declared.Trial.TheVariants.{Cabinet, Check, Read, Write, Stream}

abbrev pub trial_name : Trial → List ℕ
trial_name Cabinet = codes "cabinet"
trial_name Check = codes "check"
trial_name Read = codes "read"
trial_name Write = codes "write"
trial_name Stream = codes "stream"
