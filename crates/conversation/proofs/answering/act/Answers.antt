-- The tables have room for all that a card has.
use Rattle.std.proofs.Common.{◌≡◌, length, arith, rules}
use Rattle.kinds.specs.Soundness.{built_sound}
use Rattle.conversation.proofs.answering.act.Goals as goal

pub slice_bounds-put-end : goal.slice_bounds-put-end
slice_bounds-put-end c = let wide : length c.in-Ok-Numbers.table ≡ 16 = search rules in omega (arith, c.lines-lines.ensures, (built_sound c.card.result.now).few_lines)

pub slice_bounds-put_voice-end : goal.slice_bounds-put_voice-end
slice_bounds-put_voice-end c = let wide : length c.in-Ok-Frames.table ≡ 16 = search rules in omega (arith, c.lines-lines.ensures, (built_sound c.card.result.now).few_lines)
