use Rattle.cabinet.specs.States.{standing}
use Rattle.cabinet.proofs.Routes.{SoFar}
use Rattle.cabinet.proofs.Cabinet.route.Given as goal

-- the inputs read so far are in the table where they end
abbrev pub invariant-loop-input : goal.invariant-loop-input
invariant-loop-input g l = SoFar (g.C.Card.meaning l.self.card) (standing (g.C.Card.meaning l.self.card) l.self.state) l.input l.table
