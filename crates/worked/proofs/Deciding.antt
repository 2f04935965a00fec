-- Whether every case of a table is right, decided by computing, and that the decision is sound.
use Rattle.std.proofs.Common.{◌≡◌, ℕ, Bool, true, false, ◌&&◌, List, [], ◌∷◌, arith}
use Rattle.std.proofs.lemmas.Bool.{and_parts}
use Rattle.card.specs.Meaning.{Meaning}
use Rattle.worked.specs.Cases.{Outcome, first, nothing, Case, ComesTo, Right, AllRight, entered}
use Rattle.worked.proofs.Looking.{Look, card, no_card, look}
use Rattle.worked.proofs.Trying.{is_first, first_fits, none_fits, unfit}

abbrev comes : (m : Meaning) (pairs holds : List ℕ) → Outcome → Bool
comes m pairs holds (first l) = is_first m pairs holds l
comes m pairs holds nothing = none_fits m pairs holds

comes_to : (m : Meaning) (pairs holds : List ℕ) (o : Outcome) → comes m pairs holds o ≡ true → ComesTo m pairs holds o
comes_to m pairs holds (first l) e = first_fits m pairs holds l e
comes_to m pairs holds nothing e = unfit m pairs holds e

abbrev right : (c : Case) → Look c.kind c.lines → Bool
right c (card m known) = comes m c.pairs (entered m.cells c.holds) c.outcome
right c no_card = false

is_right : (c : Case) (l : Look c.kind c.lines) → right c l ≡ true → Right c
is_right c (card m known) e = record { meaning = m; known = known; comes = comes_to m c.pairs (entered m.cells c.holds) c.outcome e }
is_right c no_card e = let z : ◌≡◌ {A = ℕ} 0 1 = cc in absurd (omega arith)

-- the decision over a table
abbrev pub all_right : List Case → Bool
all_right [] = true
all_right (c ∷ cs) = right c (look c.kind c.lines) && all_right cs

pub decided : (cs : List Case) → all_right cs ≡ true → AllRight cs
decided [] e = tt
decided (c ∷ cs) e = let p = and_parts (right c (look c.kind c.lines)) (all_right cs) e in (is_right c (look c.kind c.lines) p.0, decided cs p.1)
