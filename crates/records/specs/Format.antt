-- The format of order records: a mark of two letters, then a body.
use Rattle.std.specs.Prelude.{◌≡◌, ℕ, ◌*◌, ◌≤◌, ◌⊎◌, List, [], ◌∷◌, ◌++◌, length, codes, slice_index, Ok, Err, Result, ◌≢◌}
use Rattle.card.specs.declared.fault.Cause.TheVariants.{BadMark}
use Rattle.card.specs.declared.fault.Layer.TheVariants.{Record}
use Rattle.card.specs.declared.fault.Fault.{Fault}
use Rattle.card.specs.Faults.{fault}
use Rattle.records.specs.declared.order.Mark.{Mark}
use Rattle.records.specs.declared.order.Mark.TheVariants.{Cm, Pl, Pt, Dr, Ho, Re, Ro, Vf}
use Rattle.records.specs.declared.order.Order.{Order}
use Rattle.records.specs.declared.order.Order.TheVariants.{Commission, Plan, Patch, Drop, Hold, Release, RingOut, Voice}

-- when a record may stand: as the opening one, while there are no lines, or after it
pub data Turn : Type 0 where
  opening : Turn
  following : Turn

-- what the format says of a mark: its letters, how many bytes of body follow at so many lines, and when it may stand
pub record Row : Type 0 where
  pub letters : List ℕ
  pub size : ℕ → ℕ
  pub turn : Turn

abbrev pub row : List ℕ → (ℕ → ℕ) → Turn → Row
row l s t = record { letters = l; size = s; turn = t }

-- the table of the marks
abbrev pub table : Mark → Row
table Cm = row (codes "CM") (λ n. 2) opening
table Pl = row (codes "PL") (λ n. n) following
table Pt = row (codes "PT") (λ n. 2) following
table Dr = row (codes "DR") (λ n. 1) following
table Ho = row (codes "HO") (λ n. 2) following
table Re = row (codes "RE") (λ n. 1) following
table Ro = row (codes "RO") (λ n. 0) following
table Vf = row (codes "VF") (λ n. 11 * n) following

-- the mark with these letters, or that there is none
abbrev pub Lettered : List ℕ → Result Mark Fault → Type 0
Lettered letters (Ok m) = letters ≡ (table m).letters
Lettered letters (Err e) = ((m : Mark) → letters ≢ (table m).letters) × (e ≡ fault BadMark Record 0)

-- the turn has come at n lines
abbrev pub Turns : ℕ → Turn → Type 0
Turns n opening = n ≡ 0
Turns n following = 2 ≤ n

-- the mark may stand at n lines
abbrev pub Stands : ℕ → Mark → Type 0
Stands n m = Turns n (table m).turn

-- a cabinet has 2 to 16 lines, and none before it is commissioned
abbrev pub Lines : ℕ → Type 0
Lines n = (n ≡ 0) ⊎ ((2 ≤ n) × (n ≤ 16))

-- an order as plain data: what it says, wherever its bytes lie
pub data Image : Type 0 where
  commission : ℕ → ℕ → Image
  plan : List ℕ → Image
  patch : ℕ → ℕ → Image
  unpatch : ℕ → Image
  hold : ℕ → ℕ → Image
  release : ℕ → Image
  ring_out : Image
  voice : List ℕ → Image

-- what an order says
abbrev pub image : Order → Image
image (Commission kind lines) = commission kind lines
image (Plan body) = plan body.now
image (Patch input output) = patch input output
image (Drop input) = unpatch input
image (Hold cell position) = hold cell position
image (Release cell) = release cell
image RingOut = ring_out
image (Voice body) = voice body.now

abbrev pub mark_of : Image → Mark
mark_of (commission kind lines) = Cm
mark_of (plan body) = Pl
mark_of (patch input output) = Pt
mark_of (unpatch input) = Dr
mark_of (hold cell position) = Ho
mark_of (release cell) = Re
mark_of ring_out = Ro
mark_of (voice body) = Vf

abbrev pub body_of : Image → List ℕ
body_of (commission kind lines) = kind ∷ lines ∷ []
body_of (plan body) = body
body_of (patch input output) = input ∷ output ∷ []
body_of (unpatch input) = input ∷ []
body_of (hold cell position) = cell ∷ position ∷ []
body_of (release cell) = cell ∷ []
body_of ring_out = []
body_of (voice body) = body

-- the record of an order
abbrev pub record_of : Image → List ℕ
record_of i = (table (mark_of i)).letters ++ body_of i

-- an order that may stand at n lines, with a body of the right length
pub record Proper (n : ℕ) (i : Image) : Type 0 where
  pub stands : Stands n (mark_of i)
  pub sized : length (body_of i) ≡ (table (mark_of i)).size n

-- an inner step of the reader: the order of a mark and a body
abbrev pub of_body : Mark → List ℕ → Image
of_body Cm b = commission (slice_index b 0) (slice_index b 1)
of_body Pl b = plan b
of_body Pt b = patch (slice_index b 0) (slice_index b 1)
of_body Dr b = unpatch (slice_index b 0)
of_body Ho b = hold (slice_index b 0) (slice_index b 1)
of_body Re b = release (slice_index b 0)
of_body Ro b = ring_out
of_body Vf b = voice b
