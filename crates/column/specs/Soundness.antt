-- A column card keeps the rules of every card.
use Rattle.std.proofs.Common.{ap, ⊎_elim, arith, length-drop}
use Rattle.std.specs.Prelude.{ℕ, ◌-◌, ◌≤◌, List, length, drop}
use Rattle.std.proofs.lemmas.List.{drop_all}
use Rattle.std.proofs.lemmas.Bool.{cases_lt}
use Rattle.card.specs.Meaning.{Lawful, Sound}
use Rattle.column.specs.Leading.{Leading}
use Rattle.column.specs.Passing.{through, column_card}
use Rattle.column.specs.Travelling.{Ranged, drop_of, through_above, through_within, through_apart}

module _ (lead : ℕ → ℕ → ℕ → ℕ) (law : Leading lead) where
  pub ranged : (j : ℕ) (l : List ℕ) → Lawful (column_card lead j) l → Ranged l
  ranged j l w c h = omega (arith, w.size, w.below c)

  pub card_sound : (j : ℕ) → 1 ≤ j → j ≤ 15 → Sound (column_card lead j)
  card_sound j some few =
      record {
        some_lines = omega arith;
        few_lines = omega arith;
        some_cells = some;
        few_cells = omega arith;
        some_columns = some;
        few_columns = omega arith;
        some_positions = λ c h. omega arith;
        few_positions = λ c h. omega arith;
        start = λ l w i h. ap (λ (ks : List ℕ). through lead ks i) (drop_all (j - 0) l (omega (arith, w.size)));
        within = λ l w i s h t.
            let n = length-drop (j - s) l in
            let r = drop_of (j - s) l (ranged j l w) in
            ⊎_elim
            (λ above. let e = through_above lead law (drop (j - s) l) r i above in omega arith)
            (λ low. let e = through_within lead law (drop (j - s) l) r i low in omega (arith, w.size))
            (cases_lt (length (drop (j - s) l)) i);
        apart = λ l w a b s ha hb t e. through_apart lead law (drop (j - s) l) (drop_of (j - s) l (ranged j l w)) a b e;
      }

  -- the card of so many lines
  pub lines_sound : (n : ℕ) → 2 ≤ n → n ≤ 8 → Sound (column_card lead (n - 1))
  lines_sound n some few = card_sound (n - 1) (omega arith) (omega arith)
