-- What building a column card answers.
use Rattle.std.specs.Prelude.{◌≡◌, ℕ, ◌≤◌}
use Rattle.card.specs.declared.fault.Cause.TheVariants.{UnknownCard}
use Rattle.card.specs.declared.fault.Layer.TheVariants.{Card}
use Rattle.card.specs.declared.fault.Fault.{Fault}
use Rattle.card.specs.Faults.{fault}

-- a column card has 2 to 8 lines
pub record Buildable (n : ℕ) : Type 0 where
  pub some : 2 ≤ n
  pub few : n ≤ 8

-- why there is none
pub record Unbuildable (n : ℕ) (e : Fault) : Type 0 where
  pub count : Buildable n → ⊥
  pub is : e ≡ fault UnknownCard Card n
