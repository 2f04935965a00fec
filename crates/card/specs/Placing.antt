-- What the column sheet answers.
use Rattle.std.specs.Prelude.{◌≡◌, ℕ, ◌<◌, ◌≤◌, List, length, Ok, Err, Result, ◌≢◌, slice_index}
use Rattle.card.specs.declared.fault.Cause.TheVariants.{NoInput, WrongLength, SheetPosition, PastColumns}
use Rattle.card.specs.declared.fault.Layer.TheVariants.{Card}
use Rattle.card.specs.declared.fault.Fault.{Fault}
use Rattle.card.specs.Faults.{fault}
use Rattle.card.specs.Meaning.{Meaning, Lawful}

-- what may be asked: under a lawful setting, an input that there is, and no more columns than there are
pub record Placeable (m : Meaning) (setting : List ℕ) (i s : ℕ) : Type 0 where
  pub lawful : Lawful m setting
  pub input : i < m.lines
  pub reached : s ≤ m.columns

-- the lowest cell whose position is out of range
pub record Misset (m : Meaning) (setting : List ℕ) (c : ℕ) : Type 0 where
  pub inside : c < m.cells
  pub outside : m.positions c ≤ slice_index setting c
  pub lowest : (d : ℕ) → d < c → slice_index setting d < m.positions d

-- the first of these rules that is broken
pub data Unplaceable (m : Meaning) (setting : List ℕ) (i s : ℕ) : Fault → Type 0 where
  wrong_length : (length setting ≢ m.cells) → Unplaceable m setting i s (fault WrongLength Card 0)
  wrong_position : length setting ≡ m.cells → (c : ℕ) → Misset m setting c → Unplaceable m setting i s (fault SheetPosition Card c)
  no_input : Lawful m setting → m.lines ≤ i → Unplaceable m setting i s (fault NoInput Card i)
  too_far : Lawful m setting → i < m.lines → m.columns < s → Unplaceable m setting i s (fault PastColumns Card s)

-- what the column sheet answers
abbrev pub Placed : Meaning → List ℕ → ℕ → ℕ → Result ℕ Fault → Type 0
Placed m setting i s (Ok p) = Placeable m setting i s × (p ≡ m.place setting i s)
Placed m setting i s (Err e) = Unplaceable m setting i s e

-- what the checks before it answer
abbrev pub Checked : Meaning → List ℕ → ℕ → ℕ → Result (Unit {0}) Fault → Type 0
Checked m setting i s (Ok x) = Placeable m setting i s
Checked m setting i s (Err e) = Unplaceable m setting i s e
