-- The rule of turning, told by sources.
use Rattle.std.proofs.Common.{refl}
use Rattle.turned.specs.Sources as sources
use Rattle.turned.specs.Soundness.{back_to_front}
use Rattle.turned.proofs.Turned.new.Goals as goal

pub returns : goal.returns
returns g c =
    let ok = g.met.C.Card.sound c.args.card in
    record { holds = refl; sourced = sources.sourced (g.C.Card.meaning c.args.card) ok; turned = back_to_front (g.C.Card.meaning c.args.card) ok }
