-- Carries into a table that began silent.
use Rattle.std.proofs.Common.{◌≡◌, ℕ, ◌-◌, ◌≤◌, List, ◌++◌, length, take, drop, replicate, Ok, sym, ap, ◌∙◌, subst}
use Rattle.std.proofs.lemmas.List.{take_at, drop_at, length-take-le, drop-replicate}
use Rattle.card.specs.Meaning.{Meaning}
use Rattle.cabinet.specs.Logs.{Standing}
use Rattle.cabinet.specs.Carrying.{Went, Carried, CarriedOut}

module _ {P : Type 0} (silent x : P) (m : Meaning) (s : Standing) (given new : List P) (k : ℕ) (lines : k ≡ m.lines) (room : k ≤ 16) (kept : length new ≡ length (take k (replicate 16 x))) where
  size : length (take k (replicate 16 x)) ≡ m.lines
  size = length-take-le k (replicate 16 x) room ∙ lines

  pub tabled : x ≡ silent → Carried silent m s given (take k (replicate 16 x)) new (Ok tt) → CarriedOut silent m s given (Ok (new ++ drop k (replicate 16 x)))
  tabled e w = (
    subst (λ (out : List P). Went silent m s given m.lines out) (sym (take_at new (drop k (replicate 16 x)) m.lines (kept ∙ size)))
        (subst (λ (n : ℕ). Went silent m s given n new) size w),
    drop_at new (drop k (replicate 16 x)) m.lines (kept ∙ size) ∙ ap (λ (n : ℕ). drop n (replicate 16 x)) lines ∙ drop-replicate m.lines 16 x ∙ ap (λ y. replicate (16 - m.lines) y) e,
  )
