-- A column whose cells busy inputs force: cells that stand stay, and none stands for a cell that is free yet.
use Rattle.std.specs.Prelude.{◌≡◌, ℕ, ◌<◌, Bool, true, false, ◌⊎◌, List, length, ◌≢◌, slice_index, slice_index_or}
use Rattle.card.specs.Settling.{none}

-- every cell is free or stands at a position
abbrev pub Open : List ℕ → Type 0
Open l = (c : ℕ) → c < length l → (slice_index l c ≡ none) ⊎ (slice_index l c < 2)

-- the cells of t stand where start has them, and where each busy input wants them: input j wants cell at j to stand at position to j
pub record Obeys (at to : ℕ → ℕ) (pairs start t : List ℕ) : Type 0 where
  pub bits : (c : ℕ) → c < length start → slice_index t c < 2
  pub kept : (c : ℕ) → c < length start → (slice_index start c ≢ none) → slice_index t c ≡ slice_index start c
  pub wanted : (j : ℕ) → j < length pairs → (slice_index_or pairs j none ≢ none) → slice_index t (at j) ≡ to j

-- the column once the inputs below i have forced their cells; what stands in it stands in every column that obeys
pub record Forced (i : ℕ) (at to : ℕ → ℕ) (pairs start l : List ℕ) : Type 0 where
  pub size : length l ≡ length start
  pub range : Open l
  pub kept : (c : ℕ) → c < length l → (slice_index start c ≢ none) → slice_index l c ≡ slice_index start c
  pub sent : (j : ℕ) → j < i → (slice_index_or pairs j none ≢ none) → slice_index l (at j) ≡ to j
  pub due : (t : List ℕ) → Obeys at to pairs start t → (c : ℕ) → c < length l → (slice_index l c ≢ none) → slice_index l c ≡ slice_index t c

-- whether the inputs could all force their cells
abbrev pub Forcing : (ℕ → ℕ) → (ℕ → ℕ) → List ℕ → List ℕ → List ℕ → Bool → Type 0
Forcing at to pairs start l true = Forced (length pairs) at to pairs start l
Forcing at to pairs start l false = (t : List ℕ) → Obeys at to pairs start t → ⊥

-- what putting a cell to a position answers: a free cell goes there, and one that stands there stays
abbrev pub Put : ℕ → ℕ → ℕ → Bool → Type 0
Put q before after true = ((before ≡ none) ⊎ (before ≡ q)) × (after ≡ q)
Put q before after false = (before ≢ none) × (before ≢ q)

-- the free cells have become 0, and the others are as they were
pub record Filling (before after : List ℕ) : Type 0 where
  pub free : (c : ℕ) → c < length before → slice_index before c ≡ none → slice_index after c ≡ 0
  pub busy : (c : ℕ) → c < length before → (slice_index before c ≢ none) → slice_index after c ≡ slice_index before c
