-- The card of a kind number and a line count, looked up.
use Rattle.std.proofs.Common.{◌≡◌, ℕ, ◌+◌, ◌-◌, Bool, true, false, eqb, leb, sym, refl, inl, inr, arith}
use Rattle.std.proofs.lemmas.Bool.{eqb-true, leb-true}
use Rattle.card.specs.Meaning.{Meaning}
use Rattle.column.specs.Building.{Buildable}
use Rattle.column.specs.Families.{klw, bbc}
use Rattle.column.specs.Passing.{column_card}
use Rattle.halving.specs.Building.{Built as HalvingLines}
use Rattle.halving.specs.Halving.{benes, baseline}
use Rattle.turned.specs.Turning.{turned_meaning}
use Rattle.kinds.specs.Kinds.{PlainKind, Kind}

-- a test, with what it shows
abbrev tested : {A : Type 0} (b : Bool) → (b ≡ true → A) → A → A
tested true f other = f refl
tested false f other = other

-- what was found: a card, or none
pub data PlainLook (k n : ℕ) : Type 0 where
  plain_card : (m : Meaning) → PlainKind k n m → PlainLook k n
  no_plain_card : PlainLook k n

pub data Look (k n : ℕ) : Type 0 where
  card : (m : Meaning) → Kind k n m → Look k n
  no_card : Look k n

pub klw_at : (k n : ℕ) → k ≡ 1 → Buildable n → PlainKind k n (column_card klw (n - 1))
klw_at k n e b = rw e (PlainKind.klw_card b)

pub bbc_at : (k n : ℕ) → k ≡ 2 → Buildable n → PlainKind k n (column_card bbc (n - 1))
bbc_at k n e b = rw e (PlainKind.bbc_card b)

pub benes_at : (k n : ℕ) → k ≡ 3 → (level : ℕ) → HalvingLines n level → PlainKind k n (benes level)
benes_at k n e level b = rw e (PlainKind.benes_card b)

pub baseline_at : (k n : ℕ) → k ≡ 4 → (level : ℕ) → HalvingLines n level → PlainKind k n (baseline level)
baseline_at k n e level b = rw e (PlainKind.baseline_card b)

abbrev column_look : (k n : ℕ) (m : Meaning) → (Buildable n → PlainKind k n m) → PlainLook k n
column_look k n m f = tested (leb 2 n) (λ a. tested (leb n 8) (λ b. plain_card m (f (record { some = leb-true 2 n a; few = leb-true n 8 b }))) no_plain_card) no_plain_card

abbrev halving_look : (k n : ℕ) (m : ℕ → Meaning) → ((level : ℕ) → HalvingLines n level → PlainKind k n (m level)) → PlainLook k n
halving_look k n m f =
    tested (eqb n 2) (λ e. plain_card (m 0) (f 0 (record { count = inl (eqb-true n 2 e); level = sym (eqb-true n 2 e) })))
    (tested (eqb n 4) (λ e. plain_card (m 1) (f 1 (record { count = inr (inl (eqb-true n 4 e)); level = sym (eqb-true n 4 e) })))
    (tested (eqb n 8) (λ e. plain_card (m 2) (f 2 (record { count = inr (inr (inl (eqb-true n 8 e))); level = sym (eqb-true n 8 e) })))
    (tested (eqb n 16) (λ e. plain_card (m 3) (f 3 (record { count = inr (inr (inr (eqb-true n 16 e))); level = sym (eqb-true n 16 e) }))) no_plain_card)))

abbrev plain_look : (k n : ℕ) → PlainLook k n
plain_look k n =
    tested (eqb k 1) (λ e. column_look k n (column_card klw (n - 1)) (klw_at k n (eqb-true k 1 e)))
    (tested (eqb k 2) (λ e. column_look k n (column_card bbc (n - 1)) (bbc_at k n (eqb-true k 2 e)))
    (tested (eqb k 3) (λ e. halving_look k n benes (benes_at k n (eqb-true k 3 e)))
    (tested (eqb k 4) (λ e. halving_look k n baseline (baseline_at k n (eqb-true k 4 e))) no_plain_card)))

abbrev straight : {k n : ℕ} → PlainLook k n → Look k n
straight (plain_card m p) = card m (Kind.plain p)
straight no_plain_card = no_card

abbrev turned : {j k n : ℕ} → j ≡ 16 + k → PlainLook k n → Look j n
turned e (plain_card m p) = card (turned_meaning m) (Kind.turned e p)
turned e no_plain_card = no_card

pub higher : (k : ℕ) → leb 17 k ≡ true → k ≡ 16 + (k - 16)
higher k e = omega (arith, leb-true 17 k e)

abbrev pub look : (k n : ℕ) → Look k n
look k n = tested (leb 17 k) (λ e. turned (higher k e) (plain_look (k - 16) n)) (straight (plain_look k n))
