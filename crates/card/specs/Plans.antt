-- What a plan is, and what its calls answer.
use Rattle.std.specs.Prelude.{◌≡◌, ℕ, ◌<◌, ◌≤◌, Bool, true, false, ◌⊎◌, List, length, get_or, take, replicate, Ok, Err, Result, Option, Some, None, ◌≢◌, slice_index_or, slice_set}
use Rattle.card.specs.declared.fault.Cause.TheVariants.{NoInput, NoOutput, InputBusy, OutputBusy, InputIdle, WrongLength}
use Rattle.card.specs.declared.fault.Layer.TheVariants.{Cabinet}
use Rattle.card.specs.declared.fault.Fault.{Fault}
use Rattle.card.specs.Faults.{fault}
use Rattle.card.specs.Settling.{none}

-- the pairs of a plan: for each of its lines the output, or none; the table has room for more lines
abbrev pub paired : ℕ → List ℕ → List ℕ
paired lines outputs = take lines outputs

-- a plan has 2 to 16 lines
pub record Lines (n : ℕ) : Type 0 where
  pub some : 2 ≤ n
  pub few : n ≤ 16

-- of these lines, each input is idle or has an output that there is, and no two inputs have one output
pub record Pairs (n : ℕ) (ps : List ℕ) : Type 0 where
  pub below : (i : ℕ) → i < n → (slice_index_or ps i none ≡ none) ⊎ (slice_index_or ps i none < n)
  pub apart : (i j : ℕ) → i < n → j < n → (slice_index_or ps i none ≢ none) → slice_index_or ps i none ≡ slice_index_or ps j none → i ≡ j

-- what every plan keeps
pub record PlanLaw (lines : ℕ) (outputs : List ℕ) : Type 0 where
  pub count : Lines lines
  pub room : length outputs ≡ 16
  pub pairs : Pairs lines (paired lines outputs)

-- the output of an input, if it has one
abbrev pub Output : List ℕ → ℕ → Option ℕ → Type 0
Output ps i None = slice_index_or ps i none ≡ none
Output ps i (Some o) = (slice_index_or ps i none ≡ o) × (o ≢ none)

-- one of the first n inputs has this output
pub record Taken (n : ℕ) (ps : List ℕ) (o : ℕ) : Type 0 where
  pub by : ℕ
  pub inside : by < n
  pub there : get_or ps by none ≡ o

-- none of the first n inputs has this output
abbrev pub Free : ℕ → List ℕ → ℕ → Type 0
Free n ps o = (j : ℕ) → j < n → slice_index_or ps j none ≢ o

abbrev pub Found : ℕ → List ℕ → ℕ → Bool → Type 0
Found n ps o true = Taken n ps o
Found n ps o false = Free n ps o

-- an input is idle, or its output is one of n and no input before it has it
abbrev pub Fine : ℕ → List ℕ → ℕ → Type 0
Fine n ps i = (slice_index_or ps i none ≡ none) ⊎ ((slice_index_or ps i none < n) × Free i ps (slice_index_or ps i none))

-- pairs for n lines that break no rule; what their count must be is given
pub record Plannable (Sized : Type 0) (n : ℕ) (ps : List ℕ) : Type 0 where
  pub sized : Sized
  pub fine : (i : ℕ) → i < n → Fine n ps i

-- the first rule that pairs for n lines break: their count, then the inputs read upward
pub data Unplannable (Sized : Type 0) (n : ℕ) (ps : List ℕ) : Fault → Type 0 where
  wrong_length : (Sized → ⊥) → Unplannable Sized n ps (fault WrongLength Cabinet 0)
  no_output : Sized → (i : ℕ) → i < n → ((j : ℕ) → j < i → Fine n ps j) → (slice_index_or ps i none ≢ none) → n ≤ slice_index_or ps i none → Unplannable Sized n ps (fault NoOutput Cabinet i)
  used_output : Sized → (i : ℕ) → i < n → ((j : ℕ) → j < i → Fine n ps j) → (slice_index_or ps i none ≢ none) → slice_index_or ps i none < n → Taken i ps (slice_index_or ps i none) → Unplannable Sized n ps (fault OutputBusy Cabinet i)

-- an idle plan of n lines, by its lines and its table
pub record Idle (n lines : ℕ) (outputs : List ℕ) : Type 0 where
  pub count : Lines n
  pub lines_are : lines ≡ n
  pub pairs : paired lines outputs ≡ replicate n none

-- why there is none
pub record NotIdle (n : ℕ) (e : Fault) : Type 0 where
  pub count : Lines n → ⊥
  pub is : e ≡ fault WrongLength Cabinet 0

-- what writing a plan whole answers, and the pairs that it leaves
abbrev pub Filled : List ℕ → List ℕ → List ℕ → Result (Unit {0}) Fault → Type 0
Filled ps before after (Ok x) = Plannable (Lines (length ps)) (length ps) ps × (after ≡ ps)
Filled ps before after (Err e) = Unplannable (Lines (length ps)) (length ps) ps e × (after ≡ before)

-- an idle input and an idle output
pub record Patchable (n : ℕ) (ps : List ℕ) (i o : ℕ) : Type 0 where
  pub input : i < n
  pub output : o < n
  pub idle : get_or ps i none ≡ none
  pub free : Free n ps o

-- the first rule that a patch breaks
pub data Unpatchable (n : ℕ) (ps : List ℕ) (i o : ℕ) : Fault → Type 0 where
  no_input : n ≤ i → Unpatchable n ps i o (fault NoInput Cabinet i)
  no_output : i < n → n ≤ o → Unpatchable n ps i o (fault NoOutput Cabinet i)
  busy_input : i < n → o < n → (slice_index_or ps i none ≢ none) → Unpatchable n ps i o (fault InputBusy Cabinet i)
  busy_output : i < n → o < n → slice_index_or ps i none ≡ none → Taken n ps o → Unpatchable n ps i o (fault OutputBusy Cabinet i)

-- what a patch of n lines answers, and the pairs that it leaves
abbrev pub Patched : ℕ → List ℕ → List ℕ → ℕ → ℕ → Result (Unit {0}) Fault → Type 0
Patched n before after i o (Ok x) = Patchable n before i o × (after ≡ slice_set before i o)
Patched n before after i o (Err e) = Unpatchable n before i o e × (after ≡ before)

-- a busy input
pub record Droppable (n : ℕ) (ps : List ℕ) (i : ℕ) : Type 0 where
  pub input : i < n
  pub busy : get_or ps i none ≡ none → ⊥

-- the first rule that a drop breaks
pub data Undroppable (n : ℕ) (ps : List ℕ) (i : ℕ) : Fault → Type 0 where
  no_input : n ≤ i → Undroppable n ps i (fault NoInput Cabinet i)
  idle_input : i < n → slice_index_or ps i none ≡ none → Undroppable n ps i (fault InputIdle Cabinet i)

-- what a drop answers, and the pairs that it leaves
abbrev pub Dropped : ℕ → List ℕ → List ℕ → ℕ → Result (Unit {0}) Fault → Type 0
Dropped n before after i (Ok x) = Droppable n before i × (after ≡ slice_set before i none)
Dropped n before after i (Err e) = Undroppable n before i e × (after ≡ before)
