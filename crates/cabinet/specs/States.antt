-- A cabinet's state as its log speaks of it, and what its calls ensure.
use Rattle.std.specs.Prelude.{◌≡◌, ℕ, ◌<◌, List, length, take, Ok, Err, Result}
use Rattle.card.specs.declared.fault.Fault.{Fault}
use Rattle.card.specs.Meaning.{Meaning}
use Rattle.card.specs.PlanPairs.{pairs_of}
use Rattle.card.specs.Settling.{Settled, First, Holdable}
use Rattle.cabinet.specs.declared.State.{State}
use Rattle.cabinet.specs.declared.Cabinet.{Cabinet}
use Rattle.cabinet.specs.Orders.{Order}
use Rattle.cabinet.specs.Logs.{Standing, Routed, moved}
use Rattle.cabinet.specs.Telling.{Follows}

-- what stands in a state, on a card that means m: the tables have room for more lines and cells than the card has
abbrev pub standing : Meaning → State → Standing
standing m s = record { force = record { pairs = pairs_of s.plan; holds = take m.cells s.holds }; setting = take m.cells s.setting }

-- what the card's settling answers for what stands, and the setting that it leaves
abbrev pub Settling : Meaning → Standing → Result (Unit {0}) Fault → List ℕ → Type 0
Settling m s r setting = Settled m s.force.pairs s.force.holds s.setting setting r

-- the same pairs and holds, settled anew, with the count of the cells that moved
pub record Settles (m : Meaning) (s t : Standing) (n : ℕ) : Type 0 where
  pub force : t.force ≡ s.force
  pub settled : Settling m s (Ok tt) t.setting
  pub count : n ≡ moved m.cells s.setting t.setting

-- what taking a state over answers, and the cabinet that it leaves: done, the state is settled anew and stands; refused, nothing changes
abbrev pub Adopted : {C : Type 0} → (C → Meaning) → Cabinet C → State → Result ℕ Fault → Cabinet C → Type 0
Adopted meaning before s (Ok n) after = (after.card ≡ before.card) × Settles (meaning before.card) (standing (meaning before.card) s) (standing (meaning before.card) after.state) n
Adopted meaning before s (Err e) after = (after ≡ before) × Settling (meaning before.card) (standing (meaning before.card) s) (Err e) (standing (meaning before.card) s).setting

-- what every log leaves true of what stands
pub record Ready (m : Meaning) (s : Standing) : Type 0 where
  pub lines : length s.force.pairs ≡ m.lines
  pub cells : length s.force.holds ≡ m.cells
  pub holdable : (c : ℕ) → c < m.cells → Holdable m s.force.holds c
  pub first : First m s.force.pairs s.force.holds s.setting

-- the route that the card's places give, wherever a log led
abbrev pub Found : Meaning → Standing → Result (List ℕ) Fault → Type 0
Found m s (Ok table) = Ready m s → Routed m s (take m.lines table)
Found m s (Err e) = Ready m s → ⊥

-- a refused order changes nothing at all
abbrev pub Unchanged : {C : Type 0} → Cabinet C → Cabinet C → Result ℕ Fault → Type 0
Unchanged before after (Ok n) = Unit {0}
Unchanged before after (Err e) = after ≡ before

-- what the call of an order ensures: the card stays, a refusal changes nothing, and the call adds its row to every log that leads to the cabinet
pub record Ordered {C : Type 0} (meaning : C → Meaning) (before : Cabinet C) (o : Order) (a : Result ℕ Fault) (after : Cabinet C) : Type 0 where
  pub card : after.card ≡ before.card
  pub unchanged : Unchanged before after a
  pub log : Follows (meaning before.card) (standing (meaning before.card) before.state) o a (standing (meaning before.card) after.state)
