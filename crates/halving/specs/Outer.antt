-- How a setting of a halving card falls into its outer columns and its two halves.
use Rattle.std.specs.Prelude.{◌≡◌, ℕ, zero, suc, ◌+◌, ◌*◌, ◌/◌, ◌%◌, ◌<◌, ◌≤◌, Bool, true, false, cond, ◌⊎◌, List, [], ◌∷◌, ◌==◌, ◌≢◌, slice_index, slice_index_or}
use Rattle.card.specs.Meaning.{Meaning}
use Rattle.card.specs.Settling.{none, Fits, First, Unfit}
use Rattle.halving.specs.Halving.{side, halving}

-- every pair is idle or ends at a line
abbrev pub Pairable : ℕ → List ℕ → Type 0
Pairable n pairs = (i : ℕ) → i < n → (slice_index_or pairs i none ≡ none) ⊎ (slice_index_or pairs i none < n)

-- every hold is none or a position
abbrev pub Holding : ℕ → List ℕ → Type 0
Holding n holds = (c : ℕ) → c < n → (slice_index_or holds c none ≡ none) ⊎ (slice_index_or holds c none < 2)

-- the first n cells stand at positions
abbrev pub Bits : ℕ → List ℕ → Type 0
Bits n l = (c : ℕ) → c < n → slice_index l c < 2

-- the first n cells keep their holds
abbrev pub Held : ℕ → List ℕ → List ℕ → Type 0
Held n holds l = (c : ℕ) → c < n → (slice_index_or holds c none ≢ none) → slice_index l c ≡ slice_index_or holds c none

-- the same positions in the first n cells
abbrev pub Alike : ℕ → List ℕ → List ℕ → Type 0
Alike n l t = (c : ℕ) → c < n → slice_index l c ≡ slice_index t c

-- the first column as a number, cell 0 its highest digit
abbrev pub value : ℕ → List ℕ → ℕ
value zero l = 0
value (suc h) l = 2 * value h l + slice_index l h

-- the input that enters line c of half b
abbrev pub entrant : List ℕ → ℕ → ℕ → ℕ
entrant l b c = 2 * c + (slice_index l c + b) % 2

-- the line of its half, with h lines, that output o leaves from: by the last column if there is one
abbrev pub inner : ℕ → ℕ → ℕ → ℕ
inner w h o = cond (w == 2) (o / 2) (o % h)

-- x is the line at which a half hands on what leaves the card at output o
pub record Halves (w h o x : ℕ) : Type 0 where
  pub idle : o ≡ none → x ≡ none
  pub busy : (o ≢ none) → x ≡ inner w h o

-- a is the plan of half b under the first column of l, up to line d
abbrev pub Halved : ℕ → ℕ → ℕ → List ℕ → List ℕ → ℕ → List ℕ → Type 0
Halved w h d pairs l b a = (c : ℕ) → c < d → Halves w h (slice_index_or pairs (entrant l b c) none) (slice_index_or a c none)

-- what a search for the first setting answers
abbrev pub Sought : Meaning → List ℕ → List ℕ → List ℕ → Bool → Type 0
Sought m pairs holds after true = First m pairs holds after
Sought m pairs holds after false = Unfit m pairs holds

-- whether a lone cell at p fits
abbrev pub Fitting : ℕ → ℕ → List ℕ → List ℕ → Bool → Type 0
Fitting w p pairs holds true = Fits (halving w 0) pairs holds (p ∷ [])
Fitting w p pairs holds false = Fits (halving w 0) pairs holds (p ∷ []) → ⊥

abbrev pub Keeping : ℕ → List ℕ → List ℕ → Bool → Type 0
Keeping h holds l true = Held h holds l
Keeping h holds l false = Held h holds l → ⊥

-- whether a cell may stand at p, or an input end there: q is what is wanted, if anything is
abbrev pub Allowed : ℕ → ℕ → Bool → Type 0
Allowed q p true = (q ≢ none) → p ≡ q
Allowed q p false = ((q ≢ none) → p ≡ q) → ⊥

-- the pairs force the last of w outer columns; its cells come after those of the column before it, if there is one
abbrev pub before : ℕ → ℕ → ℕ
before w h = cond (w == 2) h 0

-- the position that takes input j to output o in a Beneš card's last column, from the half that it enters under the first column of l
abbrev pub last_position : List ℕ → ℕ → ℕ → ℕ
last_position l j o = (o % 2 + side l j) % 2

-- the position that takes input j to the half of output o in a baseline card's first column
abbrev pub first_position : ℕ → ℕ → ℕ → ℕ
first_position h j o = (o / h + j % 2) % 2

-- the cell of the forced column that input j passes on its way to output o, and the position that it wants there: in the last column the output's cell, in the first its own
abbrev pub out_cell : ℕ → ℕ → ℕ → ℕ
out_cell w j o = cond (w == 2) (o / 2) (j / 2)

abbrev pub out_position : ℕ → ℕ → List ℕ → ℕ → ℕ → ℕ
out_position w h l j o = cond (w == 2) (last_position l j o) (first_position h j o)

-- the same where the pairs give the output
abbrev pub wanted_cell : ℕ → List ℕ → ℕ → ℕ
wanted_cell w pairs j = out_cell w j (slice_index_or pairs j none)

abbrev pub wanted_position : ℕ → ℕ → List ℕ → List ℕ → ℕ → ℕ
wanted_position w h pairs l j = out_position w h l j (slice_index_or pairs j none)

-- the outer columns serve the plan and keep the holds, and the cells before the forced column are number n
pub record Front (w h n : ℕ) (pairs holds l : List ℕ) : Type 0 where
  pub number : value (before w h) l ≡ n
  pub bits : Bits (w * h) l
  pub held : Held (w * h) holds l
  pub agrees : (j : ℕ) → j < 2 * h → (slice_index_or pairs j none ≢ none) → slice_index l (before w h + wanted_cell w pairs j) ≡ wanted_position w h pairs l j

-- and no others that serve with that number have a smaller position
pub record Foremost (w h n : ℕ) (pairs holds l : List ℕ) : Type 0 where
  pub front : Front w h n pairs holds l
  pub least : (t : List ℕ) → Front w h n pairs holds t → (c : ℕ) → c < w * h → slice_index l c ≤ slice_index t c

-- what a try of number n answers
abbrev pub Tried : ℕ → ℕ → ℕ → List ℕ → List ℕ → List ℕ → Bool → Type 0
Tried w h n pairs holds l true = Foremost w h n pairs holds l
Tried w h n pairs holds l false = (t : List ℕ) → Front w h n pairs holds t → ⊥
