-- What the check of another house's sheet answers.
use Rattle.std.specs.Prelude.{◌≡◌, ℕ, ◌<◌, List, length, get_or, Ok, Err, Result, ◌≢◌, slice_index, slice_index_or}
use Rattle.card.specs.declared.fault.Cause.TheVariants.{WrongLength, SheetPosition, SheetHold, SheetPair}
use Rattle.card.specs.declared.fault.Layer.TheVariants.{Cabinet}
use Rattle.card.specs.declared.fault.Fault.{Fault}
use Rattle.card.specs.Faults.{fault}
use Rattle.card.specs.Meaning.{Meaning, Lawful}
use Rattle.card.specs.Placing.{Misset}
use Rattle.card.specs.Settling as settling
use Rattle.card.specs.Settling.{none, Carries, Keeps, Fits, Before}
use Rattle.sheets.specs.declared.Verdict.{Verdict}
use Rattle.sheets.specs.declared.Verdict.TheVariants.{First, Other}

-- a held cell stands at its held position
abbrev pub KeptAt : List ℕ → List ℕ → ℕ → Type 0
KeptAt holds sheet c = (slice_index_or holds c none ≢ none) → slice_index sheet c ≡ slice_index_or holds c none

-- the lowest held cell that differs
pub record Unkept (m : Meaning) (holds sheet : List ℕ) (c : ℕ) : Type 0 where
  pub inside : c < m.cells
  pub held : get_or holds c none ≡ none → ⊥
  pub differs : get_or sheet c 0 ≡ slice_index_or holds c none → ⊥
  pub lowest : (d : ℕ) → d < c → KeptAt holds sheet d

-- a busy input ends at its output
abbrev pub CarriedAt : Meaning → List ℕ → List ℕ → ℕ → Type 0
CarriedAt m pairs sheet i = (slice_index_or pairs i none ≢ none) → m.place sheet i m.columns ≡ slice_index_or pairs i none

-- the lowest input whose pair is not carried
pub record Uncarried (m : Meaning) (pairs sheet : List ℕ) (i : ℕ) : Type 0 where
  pub inside : i < m.lines
  pub busy : get_or pairs i none ≡ none → ⊥
  pub elsewhere : m.place sheet i m.columns ≡ slice_index_or pairs i none → ⊥
  pub lowest : (j : ℕ) → j < i → CarriedAt m pairs sheet j

-- the first rule that a sheet for these pairs and holds breaks
pub data Unfitting (m : Meaning) (pairs holds sheet : List ℕ) : Fault → Type 0 where
  wrong_length : (length sheet ≢ m.cells) → Unfitting m pairs holds sheet (fault WrongLength Cabinet 0)
  wrong_position : length sheet ≡ m.cells → (c : ℕ) → Misset m sheet c → Unfitting m pairs holds sheet (fault SheetPosition Cabinet c)
  wrong_hold : Lawful m sheet → (c : ℕ) → Unkept m holds sheet c → Unfitting m pairs holds sheet (fault SheetHold Cabinet c)
  wrong_pair : Lawful m sheet → Keeps m holds sheet → (i : ℕ) → Uncarried m pairs sheet i → Unfitting m pairs holds sheet (fault SheetPair Cabinet i)

-- what the check answers beside a standing setting: a sheet that fits is that one, or another
abbrev pub Compared : Meaning → List ℕ → List ℕ → List ℕ → List ℕ → Result Verdict Fault → Type 0
Compared m pairs holds standing sheet (Ok First) = Fits m pairs holds sheet × (sheet ≡ standing)
Compared m pairs holds standing sheet (Ok Other) = Fits m pairs holds sheet × (sheet ≢ standing)
Compared m pairs holds standing sheet (Err e) = Unfitting m pairs holds sheet e

-- a sheet that fits, and another that fits and comes before it
pub record Later (m : Meaning) (pairs holds sheet : List ℕ) : Type 0 where
  pub fits : Fits m pairs holds sheet
  pub earlier : List ℕ
  pub earlier_fits : Fits m pairs holds earlier
  pub before : Before earlier sheet

-- the verdict on a sheet for these pairs and holds, whatever stands
abbrev pub VerdictOn : Meaning → List ℕ → List ℕ → List ℕ → Result Verdict Fault → Type 0
VerdictOn m pairs holds sheet (Ok First) = settling.First m pairs holds sheet
VerdictOn m pairs holds sheet (Ok Other) = Later m pairs holds sheet
VerdictOn m pairs holds sheet (Err e) = Unfitting m pairs holds sheet e

-- what the three parts of the check answer
abbrev pub PositionsChecked : Meaning → List ℕ → Result (Unit {0}) Fault → Type 0
PositionsChecked m sheet (Ok x) = Lawful m sheet
PositionsChecked m sheet (Err e) = (pairs holds : List ℕ) → Unfitting m pairs holds sheet e

abbrev pub HoldsChecked : Meaning → List ℕ → List ℕ → Result (Unit {0}) Fault → Type 0
HoldsChecked m holds sheet (Ok x) = Keeps m holds sheet
HoldsChecked m holds sheet (Err e) = (pairs : List ℕ) → Lawful m sheet → Unfitting m pairs holds sheet e

abbrev pub PairsChecked : Meaning → List ℕ → List ℕ → Result (Unit {0}) Fault → Type 0
PairsChecked m pairs sheet (Ok x) = Carries m pairs sheet
PairsChecked m pairs sheet (Err e) = (holds : List ℕ) → Keeps m holds sheet → Unfitting m pairs holds sheet e
