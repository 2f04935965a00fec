use Rattle.std.proofs.Common.{◌≤◌, length, ◌∙◌, ap, sym, arith, false-eqb, ◌++◌, List, ℕ}
use Rattle.std.proofs.lemmas.Bool.{eqb-true}
use Rattle.std.proofs.lemmas.List.{append_assoc}
use Rattle.words.proofs.Reading.{first_word, no_word}
use Rattle.words.proofs.split_word.Goals as goal

pub returns-then-is_empty : goal.returns-then-is_empty
returns-then-is_empty c =
    c.from_word-start.ensures.words
    ∙ no_word _ _ _ _ c.from_word-start.ensures.starts c.word_len.ensures.count c.split_at.ensures.front c.split_at.ensures.back (eqb-true _ 0 (sym c.if-is_empty.ensures))

pub returns-else-is_empty : goal.returns-else-is_empty
returns-else-is_empty c =
    let some : 1 ≤ length c.split_at.result.0.now = let ne = false-eqb (length c.split_at.result.0.now) 0 c.if-is_empty.ensures in omega (arith, ne) in
    record {
      gap = c.from_word-start.ensures.end.0;
      stands = c.from_word-start.ensures.end.1 ∙ ap (λ (t : List ℕ). c.from_word-start.ensures.end.0 ++ t) c.split_at.ensures.by_index.0 ∙ sym (append_assoc c.from_word-start.ensures.end.0 c.split_at.result.0.now c.split_at.result.1.now);
      some = some;
      words = c.from_word-start.ensures.words ∙ first_word _ _ _ _ c.from_word-start.ensures.starts c.word_len.ensures.count c.split_at.ensures.front c.split_at.ensures.back some;
    }
