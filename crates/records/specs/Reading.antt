-- What the reader answers.
use Rattle.std.specs.Prelude.{◌≡◌, ℕ, ◌+◌, ◌<◌, ◌≤◌, List, [], ◌++◌, length, take, Some, None, Ok, Err, Option, Result}
use Rattle.std.specs.Borrow.{Bor}
use Rattle.card.specs.declared.fault.Cause.TheVariants.{BadMark, CutShort, WrongLength}
use Rattle.card.specs.declared.fault.Layer.TheVariants.{Record}
use Rattle.card.specs.declared.fault.Fault.{Fault}
use Rattle.card.specs.Faults.{fault}
use Rattle.records.specs.declared.order.Mark.{Mark}
use Rattle.records.specs.declared.order.Order.{Order}
use Rattle.records.specs.Format.{Image, image, table, Stands, record_of, Lines, Proper}

-- a reader's answer as plain data: an order and the bytes after it, the end, or a fault
pub data Reading : Type 0 where
  found : Image → List ℕ → Reading
  end : Reading
  refused : Fault → Reading

abbrev pub reading_of : Result (Option (Order × Bor (List ℕ))) Fault → Reading
reading_of (Ok None) = end
reading_of (Ok (Some p)) = found (image p.0) p.1.now
reading_of (Err f) = refused f

-- the bytes begin with a mark that may stand at n lines
pub record Begins (n : ℕ) (bs : List ℕ) (m : Mark) : Type 0 where
  pub stands : Stands n m
  pub letters : take 2 bs ≡ (table m).letters

-- the reader's rule: what it answers at n lines for these bytes
pub data Reads (n : ℕ) (bs : List ℕ) : Reading → Type 0 where
  bad_lines : (Lines n → ⊥) → Reads n bs (refused (fault WrongLength Record 0))
  at_end : Lines n → bs ≡ [] → Reads n bs end
  lone : Lines n → length bs ≡ 1 → Reads n bs (refused (fault CutShort Record 0))
  unmarked : Lines n → 2 ≤ length bs → ((m : Mark) → Begins n bs m → ⊥) → Reads n bs (refused (fault BadMark Record 0))
  cut : (m : Mark) (p : ℕ) → Lines n → Begins n bs m → p + 2 ≡ length bs → p < (table m).size n → Reads n bs (refused (fault CutShort Record p))
  whole : (i : Image) (rest : List ℕ) → Lines n → Proper n i → bs ≡ record_of i ++ rest → Reads n bs (found i rest)

-- the reader's answer: what the rule gives, and the rule gives no other
pub record Answered (n : ℕ) (bs : List ℕ) (a : Reading) : Type 0 where
  pub rule : Reads n bs a
  pub only : (b : Reading) → Reads n bs b → b ≡ a
