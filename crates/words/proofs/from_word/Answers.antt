use Rattle.std.proofs.Common.{◌∙◌, [], ap, refl}
use Rattle.words.specs.Words.{words_of}
use Rattle.words.proofs.Reading.{comment_past, blank_past, farther}
use Rattle.words.proofs.from_word.Goals as goal

pub loop-first-preserved-then-first-le-SPACE : goal.loop-first-preserved-then-first-le-SPACE
loop-first-preserved-then-first-le-SPACE c = (
  (_, farther _ [] _ c.loop-first.invariant.0.1 c.in-Some.ensures.cases.0 refl),
  c.loop-first.invariant.1 ∙ ap words_of c.in-Some.ensures.cases.0 ∙ blank_past c.in-Some.first.now c.in-Some.others.now c.if-first-le-SPACE.true,
)

pub loop-first-preserved : goal.loop-first-preserved
loop-first-preserved c = (
  (_, farther _ _ _ c.loop-first.invariant.0.1 c.in-Some.ensures.cases.0 c.split_at.ensures.by_index.0),
  c.loop-first.invariant.1 ∙ ap words_of c.in-Some.ensures.cases.0 ∙ rw (c.split_at.ensures.back, c.line_len.ensures.count) (comment_past c.in-Some.first.now c.in-Some.others.now c.if-first-eq-COMMENT.true),
)
