-- What building a halving card answers.
use Rattle.std.specs.Prelude.{◌≡◌, ℕ, ◌⊎◌}
use Rattle.card.specs.declared.fault.Cause.TheVariants.{UnknownCard}
use Rattle.card.specs.declared.fault.Layer.TheVariants.{Card}
use Rattle.card.specs.declared.fault.Fault.{Fault}
use Rattle.card.specs.Faults.{fault}
use Rattle.halving.specs.Halving.{lines_at}

-- a halving card has 2, 4, 8 or 16 lines
abbrev pub Buildable : ℕ → Type 0
Buildable n = (n ≡ 2) ⊎ ((n ≡ 4) ⊎ ((n ≡ 8) ⊎ (n ≡ 16)))

-- a card of level k has n lines
pub record Built (n k : ℕ) : Type 0 where
  pub count : Buildable n
  pub level : lines_at k ≡ n

-- why there is none
pub record Unbuildable (n : ℕ) (e : Fault) : Type 0 where
  pub count : Buildable n → ⊥
  pub is : e ≡ fault UnknownCard Card n
