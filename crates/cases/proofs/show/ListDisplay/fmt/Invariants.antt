use Rattle.std.proofs.Common.{◌++◌, take, flat_map, codes}
use Rattle.std.specs.Fmt.{HasWritten, IsPlainFormatter, decimal}
use Rattle.cases.proofs.show.ListDisplay.fmt.Given as goal

-- the numbers so far are written
abbrev pub invariant-loop-n : goal.invariant-loop-n
invariant-loop-n g l =
    IsPlainFormatter l.initial.f → HasWritten g.W.Write.write_str_gives l.initial.f (flat_map (λ n. codes " " ++ decimal n) (take l.n-index l.rest)) l.f
