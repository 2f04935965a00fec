-- How a setting of columns 1 to j rests on one of columns 1 to j - 1.
use Rattle.std.specs.Prelude.{◌≡◌, ℕ, ◌<◌, Bool, true, false, Ok, Err, Result, List, ◌∷◌, length, ◌≢◌, slice_index, slice_index_or}
use Rattle.card.specs.declared.fault.Cause.TheVariants.{NoSetting}
use Rattle.card.specs.declared.fault.Layer.TheVariants.{Card}
use Rattle.card.specs.declared.fault.Fault.{Fault}
use Rattle.card.specs.Faults.{fault}
use Rattle.card.specs.Settling.{none, Fits, First, Unfit}
use Rattle.column.specs.Passing.{turned, column_card}

-- the line below j that position k of column j sends to an output; an idle output stays idle
pub record Back (lead : ℕ → ℕ → ℕ → ℕ) (k j output line : ℕ) : Type 0 where
  pub idle : output ≡ none → line ≡ none
  pub below : (output ≢ none) → line < j
  pub sent : (output ≢ none) → turned lead k j line ≡ output

-- the pairs that are left for the columns before j to carry
pub record Pulled (lead : ℕ → ℕ → ℕ → ℕ) (k j : ℕ) (pairs rest : List ℕ) : Type 0 where
  pub size : length rest ≡ 16
  pub each : (i : ℕ) → i < j → Back lead k j (slice_index pairs i) (slice_index rest i)

-- no line below j is sent where some input below j has to go
pub record Blocked (lead : ℕ → ℕ → ℕ → ℕ) (k j : ℕ) (pairs : List ℕ) : Type 0 where
  pub at : ℕ
  pub below : at < j
  pub busy : slice_index_or pairs at 0 ≡ none → ⊥
  pub nowhere : (p : ℕ) → p < j → turned lead k j p ≢ slice_index pairs at

-- no setting with position k in column j fits
abbrev pub Unserved : (ℕ → ℕ → ℕ → ℕ) → ℕ → List ℕ → ℕ → ℕ → Type 0
Unserved lead j pairs hold k = (hs ks : List ℕ) → Fits (column_card lead j) pairs (hold ∷ hs) (k ∷ ks) → ⊥

-- a setting with position k in column j fits if and only if its other cells fit the pairs that are left
pub record Served (lead : ℕ → ℕ → ℕ → ℕ) (j m : ℕ) (pairs : List ℕ) (hold k : ℕ) (rest : List ℕ) : Type 0 where
  pub down : (hs ks : List ℕ) → Fits (column_card lead j) pairs (hold ∷ hs) (k ∷ ks) → Fits (column_card lead m) rest hs ks
  pub up : (hs ks : List ℕ) → Fits (column_card lead m) rest hs ks → Fits (column_card lead j) pairs (hold ∷ hs) (k ∷ ks)

-- whether a setting of columns 1 to j fits, and if so, that this is the first
abbrev pub Sought : (ℕ → ℕ → ℕ → ℕ) → ℕ → List ℕ → List ℕ → List ℕ → Bool → Type 0
Sought lead j pairs holds after true = First (column_card lead j) pairs holds after
Sought lead j pairs holds after false = Unfit (column_card lead j) pairs holds

-- what settling all columns answers: the buffer has the first setting, or else stays as it was
abbrev pub Written : (ℕ → ℕ → ℕ → ℕ) → ℕ → List ℕ → List ℕ → List ℕ → List ℕ → Result (Unit {0}) Fault → Type 0
Written lead j pairs holds before after (Ok x) = First (column_card lead j) pairs holds after
Written lead j pairs holds before after (Err e) = Unfit (column_card lead j) pairs holds × (after ≡ before) × (e ≡ fault NoSetting Card 0)
