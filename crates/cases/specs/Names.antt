-- Values by the names that a text begins with.
use Rattle.std.specs.Prelude.{◌≡◌, ℕ, Bool, true, false, List, codes, Option, MatchOption, ◌==◌}
use Rattle.std.specs.List.{starts_with}
use Rattle.cases.specs.declared.ask.Ask.{Ask}
use Rattle.cases.specs.declared.ask.Ask.TheVariants as asks
use Rattle.cases.specs.declared.orders.Word.{Word}
use Rattle.cases.specs.declared.orders.Word.TheVariants as words

-- whether a text begins with a name
abbrev pub begins : List ℕ → List ℕ → Bool
begins text name = starts_with ◌==◌ text name

-- a value whose name the text begins with; or it begins with none of their names
abbrev pub Named : {A : Type 0} → (A → List ℕ) → List ℕ → Option A → Type 0
Named {A} name text r = MatchOption r ((a : A) → begins text (name a) ≡ false) (λ a. begins text (name a) ≡ true)

-- the names of what a case asks for
abbrev pub ask_name : Ask → List ℕ
ask_name asks.Settle = codes "settle"
ask_name asks.Place = codes "place"
ask_name asks.Positions = codes "positions"
ask_name asks.Carry = codes "carry"
ask_name asks.Orders = codes "orders"

-- the words of orders
abbrev pub word_name : Word → List ℕ
word_name words.Commission = codes "commission"
word_name words.Plan = codes "plan"
word_name words.Patch = codes "patch"
word_name words.Drop = codes "drop"
word_name words.Hold = codes "hold"
word_name words.Release = codes "release"
word_name words.Voice = codes "voice"
