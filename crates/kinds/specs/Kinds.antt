-- What a kind number and a line count mean.
use Rattle.std.specs.Prelude.{◌≡◌, ℕ, ◌+◌, ◌-◌}
use Rattle.card.specs.Meaning.{Meaning}
use Rattle.column.specs.Building.{Buildable}
use Rattle.column.specs.Families.{klw, bbc}
use Rattle.column.specs.Passing.{column_card}
use Rattle.halving.specs.Building.{Built as HalvingLines}
use Rattle.halving.specs.Halving.{benes, baseline}
use Rattle.turned.specs.Turning.{turned_meaning}
use Rattle.kinds.specs.declared.plain.Plain.{Plain}
use Rattle.kinds.specs.declared.plain.Plain.TheVariants.{Klw, Bbc, Benes, Baseline}
use Rattle.kinds.specs.declared.built.Built.{Built}
use Rattle.kinds.specs.declared.built.Built.TheVariants as built

-- the card of a plain kind with n lines, and what it means
pub data PlainKind : ℕ → ℕ → Meaning → Type 0 where
  klw_card : {n : ℕ} → Buildable n → PlainKind 1 n (column_card klw (n - 1))
  bbc_card : {n : ℕ} → Buildable n → PlainKind 2 n (column_card bbc (n - 1))
  benes_card : {n level : ℕ} → HalvingLines n level → PlainKind 3 n (benes level)
  baseline_card : {n level : ℕ} → HalvingLines n level → PlainKind 4 n (baseline level)

-- the card of a kind with n lines: a plain one, or a plain one back to front, whose number is 16 higher; every other kind and count is unknown
pub data Kind : ℕ → ℕ → Meaning → Type 0 where
  plain : {k n : ℕ} {m : Meaning} → PlainKind k n m → Kind k n m
  turned : {j k n : ℕ} {m : Meaning} → j ≡ 16 + k → PlainKind k n m → Kind j n (turned_meaning m)

-- what a built card means
abbrev pub plain_meaning : Plain → Meaning
plain_meaning (Klw c) = column_card klw (c.lines - 1)
plain_meaning (Bbc c) = column_card bbc (c.lines - 1)
plain_meaning (Benes c) = benes c.level.depth
plain_meaning (Baseline c) = baseline c.level.depth

abbrev pub built_meaning : Built → Meaning
built_meaning (built.Plain c) = plain_meaning c
built_meaning (built.Turned t) = turned_meaning (plain_meaning t.card)
