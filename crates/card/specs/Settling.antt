-- The first setting that fits, and what settling answers.
use Rattle.std.specs.Prelude.{◌≡◌, ℕ, ◌<◌, ◌≤◌, ◌⊎◌, List, length, get_or, Ok, Err, Result, ◌≢◌, slice_index, slice_index_or}
use Rattle.card.specs.declared.fault.Cause.TheVariants.{NoCell, NoPosition, NoSetting, WrongLength}
use Rattle.card.specs.declared.fault.Layer.TheVariants.{Card}
use Rattle.card.specs.declared.fault.Fault.{Fault}
use Rattle.card.specs.Faults.{fault}
use Rattle.card.specs.Meaning.{Meaning, Lawful}

-- stands for an idle line, and for a cell that is not held
abbrev pub none : ℕ
none = 255

-- every input that is not idle ends at its output
abbrev pub Carries : Meaning → List ℕ → List ℕ → Type 0
Carries m pairs l = (i : ℕ) → i < m.lines → (slice_index_or pairs i none ≢ none) → m.place l i m.columns ≡ slice_index_or pairs i none

-- every held cell stands at its held position
abbrev pub Keeps : Meaning → List ℕ → List ℕ → Type 0
Keeps m holds l = (c : ℕ) → c < m.cells → (slice_index_or holds c none ≢ none) → slice_index l c ≡ slice_index_or holds c none

-- a setting comes before another if it has the smaller position at the first cell where they differ
pub record Before (a b : List ℕ) : Type 0 where
  pub at : ℕ
  pub inside : at < length a
  pub same : (c : ℕ) → c < at → slice_index a c ≡ slice_index b c
  pub less : get_or a at 0 < slice_index b at

-- a setting fits pairs and holds if it is lawful, carries the pairs and keeps the holds
pub record Fits (m : Meaning) (pairs holds l : List ℕ) : Type 0 where
  pub lawful : Lawful m l
  pub carries : Carries m pairs l
  pub keeps : Keeps m holds l

-- the first setting that fits: every other one that fits comes after it
pub record First (m : Meaning) (pairs holds l : List ℕ) : Type 0 where
  pub fits : Fits m pairs holds l
  pub first : (k : List ℕ) → Fits m pairs holds k → (k ≡ l) ⊎ Before l k

-- no setting fits
abbrev pub Unfit : Meaning → List ℕ → List ℕ → Type 0
Unfit m pairs holds = (l : List ℕ) → Fits m pairs holds l → ⊥

-- a pair for each line; a hold, and room for a position, for each cell
pub record Sized (m : Meaning) (pairs holds buffer : List ℕ) : Type 0 where
  pub pairs_size : length pairs ≡ m.lines
  pub holds_size : length holds ≡ m.cells
  pub buffer_size : length buffer ≡ m.cells

-- the cell is not held, or its hold is one of its positions
abbrev pub Holdable : Meaning → List ℕ → ℕ → Type 0
Holdable m holds c = (slice_index_or holds c none ≡ none) ⊎ (slice_index_or holds c none < m.positions c)

-- the lowest cell whose hold is none of its positions
pub record Misheld (m : Meaning) (holds : List ℕ) (c : ℕ) : Type 0 where
  pub inside : c < m.cells
  pub outside : Holdable m holds c → ⊥
  pub lowest : (d : ℕ) → d < c → Holdable m holds d

-- all that settling asks of what it is given
pub record Settleable (m : Meaning) (pairs holds buffer : List ℕ) : Type 0 where
  pub sized : Sized m pairs holds buffer
  pub holdable : (c : ℕ) → c < m.cells → Holdable m holds c

-- the first of these rules that is broken
pub data Unsettleable (m : Meaning) (pairs holds buffer : List ℕ) : Fault → Type 0 where
  wrong_length : (Sized m pairs holds buffer → ⊥) → Unsettleable m pairs holds buffer (fault WrongLength Card 0)
  wrong_hold : Sized m pairs holds buffer → (c : ℕ) → Misheld m holds c → Unsettleable m pairs holds buffer (fault NoPosition Card c)

-- why settling refuses: a rule is broken, or else no setting fits
pub data Refusal (m : Meaning) (pairs holds buffer : List ℕ) : Fault → Type 0 where
  broken : {e : Fault} → Unsettleable m pairs holds buffer e → Refusal m pairs holds buffer e
  no_setting : Settleable m pairs holds buffer → Unfit m pairs holds → Refusal m pairs holds buffer (fault NoSetting Card 0)

-- what settling answers, and what it leaves in the buffer
abbrev pub Settled : Meaning → List ℕ → List ℕ → List ℕ → List ℕ → Result (Unit {0}) Fault → Type 0
Settled m pairs holds before after (Ok x) = Settleable m pairs holds before × First m pairs holds after
Settled m pairs holds before after (Err e) = Refusal m pairs holds before e × (after ≡ before)

-- what the checks before settling answer
abbrev pub Checked : Meaning → List ℕ → List ℕ → List ℕ → Result (Unit {0}) Fault → Type 0
Checked m pairs holds buffer (Ok x) = Settleable m pairs holds buffer
Checked m pairs holds buffer (Err e) = Unsettleable m pairs holds buffer e

-- how many positions a cell has, or that the card lacks it
abbrev pub Counted : Meaning → ℕ → Result ℕ Fault → Type 0
Counted m c (Ok n) = (c < m.cells) × (n ≡ m.positions c)
Counted m c (Err e) = (m.cells ≤ c) × (e ≡ fault NoCell Card c)
