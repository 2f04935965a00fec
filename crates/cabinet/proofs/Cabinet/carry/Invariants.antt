use Rattle.std.proofs.Common.{◌≡◌, ℕ, ◌<◌, get_or}
use Rattle.cabinet.proofs.Cabinet.carry.Given as goal

abbrev pub invariant-loop-output : goal.invariant-loop-output
invariant-loop-output g l = (o : ℕ) → o < l.output → get_or l.out o g.P.Payload.silent ≡ get_or l.given (get_or l.route o 0) g.P.Payload.silent
