-- From what the card settles in the front of a table, to the answer of the check.
use Rattle.std.proofs.Common.{◌≡◌, ℕ, ◌≤◌, List, ◌++◌, length, take, replicate, Err, Result, sym, ap, ◌∙◌, subst, arith}
use lib.ListN.{length-replicate}
use Rattle.std.proofs.lemmas.List.{take_at, take-replicate}
use Rattle.card.specs.declared.fault.Fault.{Fault}
use Rattle.card.specs.Meaning.{Meaning}
use Rattle.card.specs.Settling.{First, Settleable, Refusal}
use Rattle.kinds.specs.Kinds.{Kind}
use Rattle.sheets.specs.declared.Verdict.{Verdict}
use Rattle.sheets.specs.Checking.{Compared}
use Rattle.sheets.proofs.Only.{the_verdict}
use Rattle.by_kind.specs.Planning.{PlanFine}
use Rattle.by_kind.specs.Answering.{room, SheetAnswer}

module _ (k n : ℕ) (m : Meaning) (kind : Kind k n m) (pairs holds sheet : List ℕ) (fine : PlanFine m.lines pairs) (j : ℕ) (size : j ≡ m.cells) (few : m.cells ≤ 64) (ps : List ℕ) (same : ps ≡ pairs) where
  front : take j (replicate 64 0) ≡ room m
  front = take-replicate j 64 0 (omega arith) ∙ ap (λ (x : ℕ). replicate x 0) size

  pub sheet_unsettled : (e : Fault) → Refusal m ps holds (take j (replicate 64 0)) e → SheetAnswer k n pairs holds sheet (Err e)
  sheet_unsettled e why = SheetAnswer.unsettled m e kind fine (subst (λ (x : List ℕ). Refusal m x holds (room m) e) same (subst (λ (x : List ℕ). Refusal m ps holds x e) front why))

  pub sheet_checked : (new rest : List ℕ) (r : Result Verdict Fault) → length new ≡ length (take j (replicate {A = ℕ} 64 0)) → Settleable m ps holds (take j (replicate 64 0)) × First m ps holds new → Compared m ps holds (take j (new ++ rest)) sheet r → SheetAnswer k n pairs holds sheet r
  sheet_checked new rest r long settled compared =
      let e : take j (new ++ rest) ≡ new = take_at new rest j (long ∙ ap length front ∙ length-replicate m.cells 0 ∙ sym size) in
      let first : First m pairs holds new = subst (λ (x : List ℕ). First m x holds new) same settled.1 in
      SheetAnswer.checked m new r kind fine (subst (λ (x : List ℕ). Settleable m x holds (room m)) same (subst (λ (x : List ℕ). Settleable m ps holds x) front settled.0)) first
      (the_verdict m pairs holds sheet new first r (subst (λ (x : List ℕ). Compared m x holds new sheet r) same (subst (λ (x : List ℕ). Compared m ps holds x sheet r) e compared))).holds
