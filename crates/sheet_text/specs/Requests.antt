-- What the words of a text request: kind, line count, plan, holds and sheet, in this order and each after its name.
use Rattle.std.specs.Prelude.{◌≡◌, ℕ, List, [], ◌∷◌, Ok, Err, codes, Result, ◌≢◌}
use Rattle.sheet_text.specs.declared.request.Request.{Request}
use Rattle.sheet_text.specs.declared.reading.Misread.{Misread}
use Rattle.sheet_text.specs.declared.reading.Misread.TheVariants.{Kind, Lines, Plan, Holds, Sheet, End}
use Rattle.sheet_text.specs.Lists.{Word, values, Unnamed, Unvalued, Valued, Listed}

-- the kind and the line count of a card, and the words after them
pub record CardRead (ws : List Word) (k n : ℕ) (rest : List Word) : Type 0 where
  pub between : List Word
  pub kind : Valued ws (codes "kind") k between
  pub lines : Valued between (codes "lines") n rest

-- a list after its name, and the words after it
pub record ListRead (ws : List Word) (name : Word) (vs : List ℕ) (rest : List Word) : Type 0 where
  pub entries : List Word
  pub named : ws ≡ name ∷ entries
  pub listed : Listed entries vs rest

-- a request by its numbers
pub record Asked : Type 0 where
  pub kind : ℕ
  pub lines : ℕ
  pub plan : List ℕ
  pub holds : List ℕ
  pub sheet : List ℕ

-- the numbers of what the reader answers
abbrev pub outcome : Result Request Misread → Result Asked Misread
outcome (Ok q) = Ok (record { kind = q.kind; lines = q.lines; plan = values q.plan; holds = values q.holds; sheet = values q.sheet })
outcome (Err e) = Err e

-- a whole request; or the first part that is missing or not in its form, with the parts before it
pub data Reading (ws : List Word) : Result Asked Misread → Type 0 where
  no_kind : Unvalued ws (codes "kind") → Reading ws (Err Kind)
  no_lines : (k : ℕ) (a : List Word) → Valued ws (codes "kind") k a → Unvalued a (codes "lines") → Reading ws (Err Lines)
  no_plan : (k n : ℕ) (a : List Word) → CardRead ws k n a → Unnamed a (codes "plan") → Reading ws (Err Plan)
  no_holds : (k n : ℕ) (ps : List ℕ) (a b : List Word) → CardRead ws k n a → ListRead a (codes "plan") ps b → Unnamed b (codes "holds") → Reading ws (Err Holds)
  no_sheet : (k n : ℕ) (ps hs : List ℕ) (a b c : List Word) → CardRead ws k n a → ListRead a (codes "plan") ps b → ListRead b (codes "holds") hs c → Unnamed c (codes "sheet") → Reading ws (Err Sheet)
  no_end : (k n : ℕ) (ps hs ss : List ℕ) (a b c d : List Word) → CardRead ws k n a → ListRead a (codes "plan") ps b → ListRead b (codes "holds") hs c → ListRead c (codes "sheet") ss d → (d ≢ []) → Reading ws (Err End)
  read : (q : Asked) (a b c : List Word) → CardRead ws q.kind q.lines a → ListRead a (codes "plan") q.plan b → ListRead b (codes "holds") q.holds c → ListRead c (codes "sheet") q.sheet [] → Reading ws (Ok q)
