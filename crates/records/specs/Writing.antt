-- What the writer answers, and what becomes of its buffer.
use Rattle.std.specs.Prelude.{◌≡◌, ℕ, ◌<◌, ◌≤◌, List, [], ◌++◌, length, take, drop, Ok, Err, Result, ◌≢◌}
use Rattle.card.specs.declared.fault.Cause.TheVariants.{BadMark, WrongLength}
use Rattle.card.specs.declared.fault.Layer.TheVariants.{Record}
use Rattle.card.specs.declared.fault.Fault.{Fault}
use Rattle.card.specs.Faults.{fault}
use Rattle.records.specs.Format.{Image, table, Stands, mark_of, body_of, record_of, Lines, Proper}
use Rattle.records.specs.Reading.{found, Reads, Answered}

-- the writer's rule: what it answers at n lines for the order i, where the buffer held b and then holds b'
pub data Writes (n : ℕ) (i : Image) (b b' : List ℕ) : Result ℕ Fault → Type 0 where
  bad_count : (Lines n → ⊥) → b' ≡ b → Writes n i b b' (Err (fault WrongLength Record 0))
  misplaced : Lines n → (Stands n (mark_of i) → ⊥) → b' ≡ b → Writes n i b b' (Err (fault BadMark Record 0))
  missized : Lines n → Stands n (mark_of i) → (length (body_of i) ≢ (table (mark_of i)).size n) → b' ≡ b → Writes n i b b' (Err (fault WrongLength Record 0))
  short : Lines n → Proper n i → length b < length (record_of i) → b' ≡ b → Writes n i b b' (Err (fault WrongLength Record 0))
  done : Lines n → Proper n i → length (record_of i) ≤ length b → b' ≡ record_of i ++ drop (length (record_of i)) b → Writes n i b b' (Ok (length (record_of i)))

-- the writer's answer o
pub record Recorded (n : ℕ) (i : Image) (b b' : List ℕ) (o : Result ℕ Fault) : Type 0 where
  -- it is what the rule gives
  pub rule : Writes n i b b' o
  -- the rule gives no other answer, and no other buffer
  pub only : (q : Result ℕ Fault) (c : List ℕ) → Writes n i b c q → (q ≡ o) × (c ≡ b')
  -- a refused call leaves the buffer as it was
  pub untouched : (f : Fault) → o ≡ Err f → b' ≡ b
  -- the record lies in the buffer, and the bytes beyond it are as they were
  pub within : (k : ℕ) → o ≡ Ok k → k ≤ length b'
  pub beyond : (k : ℕ) → o ≡ Ok k → drop k b' ≡ drop k b
  -- what was written reads back as the order, with nothing left over
  pub back : (k : ℕ) → o ≡ Ok k → Answered n (take k b') (found i [])
  -- an order that was read is written as its bytes stood
  pub forth : (k : ℕ) → o ≡ Ok k → (bs rest : List ℕ) → Reads n bs (found i rest) → (take k b' ≡ take k bs) × (rest ≡ drop k bs)
