-- The cards of every kind keep the rules of cards.
use Rattle.std.specs.Prelude.{ℕ, zero, suc, ◌<◌, ◌≤◌}
use Rattle.std.proofs.Common.{arith}
use Rattle.card.specs.Meaning.{Meaning, Sound}
use Rattle.halving.specs.Halving.{lines_at}
use Rattle.halving.specs.Building.{Built as HalvingLines}
use Rattle.column.proofs.FamiliesLead.{klw_sound, bbc_sound}
use Rattle.halving.specs.Soundness.{benes_sound, baseline_sound}
use Rattle.turned.specs.Soundness.{turned_sound}
use Rattle.kinds.specs.declared.plain.Plain.{Plain}
use Rattle.kinds.specs.declared.plain.Plain.TheVariants.{Klw, Bbc, Benes, Baseline}
use Rattle.kinds.specs.declared.built.Built.{Built}
use Rattle.kinds.specs.declared.built.Built.TheVariants as built
use Rattle.kinds.specs.Kinds.{PlainKind, Kind, plain_meaning, built_meaning}

pub plain_sound : (c : Plain) → Sound (plain_meaning c)
plain_sound (Klw c) = klw_sound c.lines c.sized.0 c.sized.1
plain_sound (Bbc c) = bbc_sound c.lines c.sized.0 c.sized.1
plain_sound (Benes c) = benes_sound c.level.depth c.level.small
plain_sound (Baseline c) = baseline_sound c.level.depth c.level.small

pub built_sound : (c : Built) → Sound (built_meaning c)
built_sound (built.Plain c) = plain_sound c
built_sound (built.Turned t) = turned_sound (plain_meaning t.card) (plain_sound t.card)

-- the same, of what a kind number and a line count mean
pub some_lines : (level : ℕ) → 2 ≤ lines_at level
some_lines zero = omega arith
some_lines (suc level) = omega (arith, some_lines level)

low_level : (n level : ℕ) → HalvingLines n level → level < 4
low_level n zero h = omega arith
low_level n (suc zero) h = omega arith
low_level n (suc (suc zero)) h = omega arith
low_level n (suc (suc (suc zero))) h = omega arith
low_level n (suc (suc (suc (suc k)))) h = absurd (omega (arith, some_lines k, h.level, h.count))

plain_kind_sound : {k n : ℕ} {m : Meaning} → PlainKind k n m → Sound m
plain_kind_sound (PlainKind.klw_card {n = n} b) = klw_sound n b.some b.few
plain_kind_sound (PlainKind.bbc_card {n = n} b) = bbc_sound n b.some b.few
plain_kind_sound (PlainKind.benes_card {n = n} {level = level} b) = benes_sound level (low_level n level b)
plain_kind_sound (PlainKind.baseline_card {n = n} {level = level} b) = baseline_sound level (low_level n level b)

pub kind_sound : {k n : ℕ} {m : Meaning} → Kind k n m → Sound m
kind_sound (Kind.plain p) = plain_kind_sound p
kind_sound (Kind.turned {m = m} e p) = turned_sound m (plain_kind_sound p)
