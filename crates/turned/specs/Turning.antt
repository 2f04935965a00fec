-- What a card means that is fitted back to front.
use Rattle.std.specs.Prelude.{◌≡◌, ℕ, zero, suc, ◌-◌, ◌<◌, ◌≤◌, cond, List, ◌==◌}
use Rattle.card.specs.Meaning.{Meaning, Lawful}

-- of the inputs below n, the last that a rule sends to p, or 0 where there is none
abbrev pub sent_to : (ℕ → ℕ) → ℕ → ℕ → ℕ
sent_to rule p zero = 0
sent_to rule p (suc i) = cond (rule i == p) i (sent_to rule p i)

-- the input that ends at p, after all columns
abbrev pub source : Meaning → List ℕ → ℕ → ℕ
source m l p = sent_to (λ i. m.place l i m.columns) p m.lines

-- the card back to front: a line that enters at p stands after s columns where, in the card as it was, the input that ends at p stands with s columns to go
abbrev pub turned_meaning : Meaning → Meaning
turned_meaning m = record { lines = m.lines; cells = m.cells; columns = m.columns; positions = m.positions; place = λ l p s. m.place l (source m l p) (m.columns - s) }

-- an input is the one and only that ends at p
pub record EndsAt (m : Meaning) (l : List ℕ) (p i : ℕ) : Type 0 where
  pub inside : i < m.lines
  pub there : m.place l i m.columns ≡ p
  pub only : (j : ℕ) → j < m.lines → m.place l j m.columns ≡ p → j ≡ i

-- the search for a source answers with that one
abbrev pub Sourced : Meaning → Type 0
Sourced m = (l : List ℕ) → Lawful m l → (p : ℕ) → p < m.lines → EndsAt m l p (source m l p)

-- card t is card m back to front, told with no search: the counts are the same; and if input i of m ends at p, then the line of t that enters at p stands after s columns where i stands in m with s columns to go
pub record BackToFront (m t : Meaning) : Type 0 where
  pub lines : t.lines ≡ m.lines
  pub cells : t.cells ≡ m.cells
  pub columns : t.columns ≡ m.columns
  pub positions : (c : ℕ) → c < m.cells → t.positions c ≡ m.positions c
  pub places : (l : List ℕ) → Lawful m l → (p s i : ℕ) → p < m.lines → s ≤ m.columns → i < m.lines → m.place l i m.columns ≡ p → t.place l p s ≡ m.place l i (m.columns - s)
