-- A kind number and a line count mean one card at most.
use Rattle.std.proofs.Common.{◌≡◌, ℕ, zero, suc, sym, refl, ap, ◌∙◌, arith}
use Rattle.card.specs.Meaning.{Meaning}
use Rattle.halving.specs.Halving.{lines_at, benes, baseline}
use Rattle.turned.specs.Turning.{turned_meaning}
use Rattle.kinds.specs.Kinds.{PlainKind, Kind}
use Rattle.kinds.proofs.Known.{moved, few}
use Rattle.kinds.specs.Soundness.{some_lines}

-- a line count is of one level
one_level : (j k : ℕ) → lines_at j ≡ lines_at k → j ≡ k
one_level zero zero e = refl
one_level zero (suc k) e = absurd (omega (arith, some_lines k, e))
one_level (suc j) zero e = absurd (omega (arith, some_lines j, e))
one_level (suc j) (suc k) e = ap suc (one_level j k (omega (arith, e)))

plain_one : {k n : ℕ} {m m' : Meaning} → PlainKind k n m → PlainKind k n m' → m' ≡ m
plain_one (PlainKind.klw_card b) (PlainKind.klw_card c) = refl
plain_one (PlainKind.bbc_card b) (PlainKind.bbc_card c) = refl
plain_one (PlainKind.benes_card {level = j} b) (PlainKind.benes_card {level = k} c) = ap benes (one_level k j (c.level ∙ sym b.level))
plain_one (PlainKind.baseline_card {level = j} b) (PlainKind.baseline_card {level = k} c) = ap baseline (one_level k j (c.level ∙ sym b.level))

pub kind_one : {k n : ℕ} {m m' : Meaning} → Kind k n m → Kind k n m' → m' ≡ m
kind_one (Kind.plain p) (Kind.plain q) = plain_one p q
kind_one (Kind.plain p) (Kind.turned e q) = absurd (omega (arith, few p, e))
kind_one (Kind.turned e p) (Kind.plain q) = absurd (omega (arith, few q, e))
kind_one (Kind.turned {k = j} e p) (Kind.turned {k = k} f q) = ap turned_meaning (plain_one p (moved (omega (arith, e, f)) q))
