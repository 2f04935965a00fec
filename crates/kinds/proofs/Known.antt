-- Which kinds are known, and with how many lines.
use Rattle.std.proofs.Common.{◌≡◌, ℕ, ◌-◌, ◌<◌, ◌≤◌, subst, arith}
use Rattle.card.specs.Meaning.{Meaning}
use Rattle.column.specs.Building.{Buildable}
use Rattle.column.specs.Families.{klw, bbc}
use Rattle.column.specs.Passing.{column_card}
use Rattle.turned.specs.Turning.{turned_meaning}
use Rattle.kinds.specs.Kinds.{PlainKind, Kind}

-- the numbers of plain kinds
some : {k n : ℕ} {m : Meaning} → PlainKind k n m → 1 ≤ k
some (PlainKind.klw_card b) = omega arith
some (PlainKind.bbc_card b) = omega arith
some (PlainKind.benes_card b) = omega arith
some (PlainKind.baseline_card b) = omega arith

pub few : {k n : ℕ} {m : Meaning} → PlainKind k n m → k ≤ 4
few (PlainKind.klw_card b) = omega arith
few (PlainKind.bbc_card b) = omega arith
few (PlainKind.benes_card b) = omega arith
few (PlainKind.baseline_card b) = omega arith

-- the column cards, at the numbers that the code has
pub klw_kind : (k n j : ℕ) → k ≡ 1 → j ≡ n → Buildable n → PlainKind k n (column_card klw (j - 1))
klw_kind k n j e f b = rw (e, f) (PlainKind.klw_card b)

pub bbc_kind : (k n j : ℕ) → k ≡ 2 → j ≡ n → Buildable n → PlainKind k n (column_card bbc (j - 1))
bbc_kind k n j e f b = rw (e, f) (PlainKind.bbc_card b)

pub moved : {k j n : ℕ} {m : Meaning} → k ≡ j → PlainKind k n m → PlainKind j n m
moved {n = n} {m = m} e p = subst (λ (x : ℕ). PlainKind x n m) e p

-- from the plain kinds to all
pub no_low : {k n : ℕ} → k ≤ 16 → ((m : Meaning) → PlainKind k n m → ⊥) → (m : Meaning) → Kind k n m → ⊥
no_low h none m (Kind.plain p) = none m p
no_low h none m (Kind.turned e p) = omega (arith, e, some p)

pub no_high : {k n : ℕ} → 16 < k → ((m : Meaning) → PlainKind (k - 16) n m → ⊥) → (m : Meaning) → Kind k n m → ⊥
no_high h none m (Kind.plain p) = omega (arith, few p)
no_high h none m (Kind.turned e p) = none _ (moved (omega (arith, e)) p)

pub high : {k n : ℕ} {m : Meaning} → 16 < k → PlainKind (k - 16) n m → Kind k n (turned_meaning m)
high h p = Kind.turned (omega arith) p
