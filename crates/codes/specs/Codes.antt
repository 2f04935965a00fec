-- An answer as one number.
use Rattle.std.specs.Prelude.{◌≡◌, ℕ, ◌+◌, ◌*◌, List, Ok, Err, Result}
use Rattle.card.specs.declared.fault.Fault.{Fault}
use Rattle.card.specs.Faults.{cause_number, layer_number}
use Rattle.by_kind.specs.Answering.{SettleAnswer}

-- a refusal: its cause, its layer and its place
abbrev pub fault_code : Fault → ℕ
fault_code e = 65536 * cause_number e.cause + 256 * layer_number e.layer + e.place

-- an answer, where what is done has a number of its own
abbrev pub result_code : {A : Type 0} → (A → ℕ) → Result A Fault → ℕ
result_code number (Ok x) = number x
result_code number (Err e) = fault_code e

-- the number of an answer, and that any other answer by the rules has the same number
pub record Coded {A : Type 0} (number : A → ℕ) (Answer : Result A Fault → Type 0) (n : ℕ) : Type 0 where
  pub answer : Result A Fault
  pub holds : Answer answer
  pub is : n ≡ result_code number answer
  pub only : (other : Result A Fault) → Answer other → n ≡ result_code number other

-- the same for settling, with what it leaves in the buffer: 0 if it is filled
pub record CodedSettling (kind lines : ℕ) (pairs holds before after : List ℕ) (n : ℕ) : Type 0 where
  pub answer : Result (Unit {0}) Fault
  pub settled : SettleAnswer kind lines pairs holds before (answer, after)
  pub is : n ≡ result_code (λ _. 0) answer
  pub only : (other : Result (Unit {0}) Fault) (left : List ℕ) → SettleAnswer kind lines pairs holds before (other, left) → (n ≡ result_code (λ _. 0) other) × (after ≡ left)
