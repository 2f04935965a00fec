-- Numbers and lists of numbers among the words of a text.
use Rattle.std.specs.Prelude.{◌≡◌, ℕ, ◌≤◌, ◌⊎◌, List, [], ◌∷◌, length, take, Some, None, codes, Option, ◌≢◌}
use Rattle.card.specs.Settling.{none}
use Rattle.words.specs.Numbers.{Number}
use Rattle.sheet_text.specs.declared.numbers.Numbers.{Numbers}

-- the bytes of a word
abbrev pub Word : Type 0
Word = List ℕ

-- the numbers of a list
abbrev pub values : Numbers → List ℕ
values n = take n.count n.items

-- a word of a list writes this: '-' stands for none
abbrev pub Entry : Word → ℕ → Type 0
Entry w v = ((w ≡ codes "-") × (v ≡ none)) ⊎ Number w v

abbrev pub EntryOf : Word → Option ℕ → Type 0
EntryOf w (Some v) = Entry w v
EntryOf w None = (v : ℕ) → Entry w v → ⊥

-- the words do not begin with this name
abbrev pub Unnamed : List Word → Word → Type 0
Unnamed ws name = (rest : List Word) → ws ≢ name ∷ rest

-- the words begin with a name and a number
pub record Valued (ws : List Word) (name : Word) (v : ℕ) (rest : List Word) : Type 0 where
  pub word : Word
  pub are : ws ≡ name ∷ word ∷ rest
  pub number : Number word v

-- the words do not begin with this name and a number
abbrev pub Unvalued : List Word → Word → Type 0
Unvalued ws name = (v : ℕ) (rest : List Word) → Valued ws name v rest → ⊥

-- the words begin with an entry
pub record Entering (ws : List Word) (v : ℕ) (rest : List Word) : Type 0 where
  pub word : Word
  pub are : ws ≡ word ∷ rest
  pub entry : Entry word v

-- the words begin with entries that write these numbers
abbrev pub Entered : List Word → List ℕ → List Word → Type 0
Entered ws [] rest = ws ≡ rest
Entered ws (v ∷ vs) rest = (us : List Word) × Entering ws v us × Entered us vs rest

-- the words begin with no entry
abbrev pub Unentered : List Word → Type 0
Unentered ws = (v : ℕ) (rest : List Word) → Entering ws v rest → ⊥

-- as many entries as there are, but at most 64
pub record Listed (ws : List Word) (vs : List ℕ) (rest : List Word) : Type 0 where
  pub entered : Entered ws vs rest
  pub few : length vs ≤ 64
  pub ended : (length vs ≡ 64) ⊎ Unentered rest
