use Rattle.std.proofs.Common.{List, ◌∷◌, [], refl, lit<}
use Rattle.std.specs.List.{Contains}
use Rattle.cases.specs.declared.ask.Ask.{Ask}
use Rattle.cases.specs.declared.ask.Ask.TheVariants.{Settle, Place, Positions, Carry, Orders}
use Rattle.cases.specs.Names.{ask_name}
use Rattle.cases.proofs.Finding.{found}
use Rattle.cases.proofs.ask.Ask.of.Goals as goal

abbrev all : List Ask
all = Settle ∷ Place ∷ Positions ∷ Carry ∷ Orders ∷ []

each : (a : Ask) → Contains all a
each Settle = (0, lit< tt, refl)
each Place = (1, lit< tt, refl)
each Positions = (2, lit< tt, refl)
each Carry = (3, lit< tt, refl)
each Orders = (4, lit< tt, refl)

pub returns : goal.returns
returns c = found ask_name c.args.line.now all _ each c.named.ensures
