-- Turned twice, a card means what it meant.
use Rattle.std.proofs.Common.{refl}
use Rattle.turned.specs.Soundness.{turned_twice}
use Rattle.turned.proofs.Turned.into_card.Goals as goal

pub returns : goal.returns
returns g c = record { holds = refl; twice = turned_twice (g.C.Card.meaning c.args.self.card) (g.met.C.Card.sound c.args.self.card) }
