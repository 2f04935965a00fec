-- A plan's pairs are the first entries of its table, so a setting fits the pairs if and only if it fits the table.
use Rattle.std.proofs.Common.{Ok, Err, Result, ◌≡◌, ℕ, suc, List, sym, ◌∙◌, subst₂, arith}
use Rattle.std.proofs.lemmas.List.{get_or-take}
use Rattle.card.specs.declared.fault.Fault.{Fault}
use Rattle.card.specs.Settling.{none, Fits, First, Unfit, Settleable, Settled, Refusal}
use Rattle.card.specs.Plans.{paired}
use Rattle.column.specs.Passing.{column_card}
use Rattle.column.specs.Serving.{Written}

module _ (lead : ℕ → ℕ → ℕ → ℕ) (j n : ℕ) (outputs holds : List ℕ) (all : n ≡ suc j) where
  to_table : (l : List ℕ) → Fits (column_card lead j) (paired n outputs) holds l → Fits (column_card lead j) outputs holds l
  to_table l f =
      record {
        lawful = f.lawful;
        carries = λ i h b. let d = get_or-take n outputs i none (omega arith) in f.carries i h (λ z. b (sym d ∙ z)) ∙ d;
        keeps = f.keeps;
      }

  from_table : (l : List ℕ) → Fits (column_card lead j) outputs holds l → Fits (column_card lead j) (paired n outputs) holds l
  from_table l f =
      record {
        lawful = f.lawful;
        carries = λ i h b. let d = get_or-take n outputs i none (omega arith) in f.carries i h (λ z. b (d ∙ z)) ∙ sym d;
        keeps = f.keeps;
      }

  -- what was found of the table, under other names for it and for the columns
  first_in_table : (k : ℕ) (table l : List ℕ) → k ≡ j → table ≡ outputs → First (column_card lead k) table holds l → First (column_card lead j) (paired n outputs) holds l
  first_in_table k table l e t found =
      let f : First (column_card lead j) outputs holds l = subst₂ (λ (x : ℕ) (y : List ℕ). First (column_card lead x) y holds l) e t found in
      record { fits = from_table l f.fits; first = λ m fits. f.first m (to_table m fits) }

  unfit_in_table : (k : ℕ) (table : List ℕ) → k ≡ j → table ≡ outputs → Unfit (column_card lead k) table holds → Unfit (column_card lead j) (paired n outputs) holds
  unfit_in_table k table e t unfit l f = subst₂ (λ (x : ℕ) (y : List ℕ). Unfit (column_card lead x) y holds) e t unfit l (to_table l f)

  -- what settling found of the table is what settling the pairs answers
  pub settled_in_table : (k : ℕ) (table before after : List ℕ) (r : Result (Unit {0}) Fault) → k ≡ j → table ≡ outputs → Settleable (column_card lead j) (paired n outputs) holds before → Written lead k table holds before after r → Settled (column_card lead j) (paired n outputs) holds before after r
  settled_in_table k table before after (Ok x) e t ok w = (ok, first_in_table k table after e t w)
  settled_in_table k table before after (Err f) e t ok w = (rw w.2 (Refusal.no_setting ok (unfit_in_table k table e t w.0)), w.1)
