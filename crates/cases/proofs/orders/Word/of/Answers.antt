use Rattle.std.proofs.Common.{List, ◌∷◌, [], refl, lit<}
use Rattle.std.specs.List.{Contains}
use Rattle.cases.specs.declared.orders.Word.{Word}
use Rattle.cases.specs.declared.orders.Word.TheVariants.{Commission, Plan, Patch, Drop, Hold, Release, Voice}
use Rattle.cases.specs.Names.{word_name}
use Rattle.cases.proofs.Finding.{found}
use Rattle.cases.proofs.orders.Word.of.Goals as goal

abbrev all : List Word
all = Commission ∷ Plan ∷ Patch ∷ Drop ∷ Hold ∷ Release ∷ Voice ∷ []

each : (w : Word) → Contains all w
each Commission = (0, lit< tt, refl)
each Plan = (1, lit< tt, refl)
each Patch = (2, lit< tt, refl)
each Drop = (3, lit< tt, refl)
each Hold = (4, lit< tt, refl)
each Release = (5, lit< tt, refl)
each Voice = (6, lit< tt, refl)

pub returns : goal.returns
returns c = found word_name c.args.text.now all _ each c.named.ensures
