-- A plan turned over: each output goes back to its input.
use Rattle.std.specs.Prelude.{◌≡◌, ℕ, ◌<◌, List, length, slice_index_or}
use Rattle.card.specs.Meaning.{Meaning, Lawful, Sound}
use Rattle.card.specs.Settling.{none, Carries}
use Rattle.card.specs.Plans.{Free}
use Rattle.turned.specs.Turning.{turned_meaning}

-- as many lines; input i goes to output o before exactly when input o goes to output i after; an output that no input had is idle as an input
pub record TurnedOver (ps qs : List ℕ) : Type 0 where
  pub size : length qs ≡ length ps
  pub back : (i o : ℕ) → i < length ps → o < length ps → slice_index_or ps i none ≡ o → slice_index_or qs o none ≡ i
  pub forth : (i o : ℕ) → i < length ps → o < length ps → slice_index_or qs o none ≡ i → slice_index_or ps i none ≡ o
  pub idle : (o : ℕ) → o < length ps → Free (length ps) ps o → slice_index_or qs o none ≡ none

-- on every card with as many lines: a setting carries the first plan on the card back to front exactly when it carries the second on the card beneath
abbrev pub CarriedAlike : List ℕ → List ℕ → Type 0
CarriedAlike ps qs = (m : Meaning) → Sound m → m.lines ≡ length ps → (l : List ℕ) → Lawful m l → (Carries (turned_meaning m) ps l → Carries m qs l) × (Carries m qs l → Carries (turned_meaning m) ps l)
