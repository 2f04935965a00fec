-- What a case says: on the card of a kind with so many lines, which setting is the first that fits some pairs and holds.
use Rattle.std.specs.Prelude.{ℕ, List, [], ◌∷◌, replicate, slice_set}
use Rattle.card.specs.Meaning.{Meaning}
use Rattle.card.specs.Settling.{none, First, Unfit}
use Rattle.kinds.specs.Kinds.{Kind}

-- an entry: at this input or cell, this output or position
pub record Entry : Type 0 where
  pub at : ℕ
  pub is : ℕ

-- a list of n entries, none where none is given
abbrev pub entered : ℕ → List Entry → List ℕ
entered n [] = replicate n none
entered n (e ∷ es) = slice_set (entered n es) e.at e.is

-- what settling comes to: the first setting that fits, or that none does
pub data Outcome : Type 0 where
  first : List ℕ → Outcome
  nothing : Outcome

pub record Case : Type 0 where
  pub kind : ℕ
  pub lines : ℕ
  pub pairs : List ℕ
  pub holds : List Entry
  pub outcome : Outcome

abbrev pub ComesTo : Meaning → List ℕ → List ℕ → Outcome → Type 0
ComesTo m pairs holds (first l) = First m pairs holds l
ComesTo m pairs holds nothing = Unfit m pairs holds

-- the case is right: its kind is known with so many lines, and on that card its pairs and holds come to its outcome
pub record Right (c : Case) : Type 0 where
  pub meaning : Meaning
  pub known : Kind c.kind c.lines meaning
  pub comes : ComesTo meaning c.pairs (entered meaning.cells c.holds) c.outcome

abbrev pub AllRight : List Case → Type 0
AllRight [] = Unit {0}
AllRight (c ∷ cs) = Right c × AllRight cs
