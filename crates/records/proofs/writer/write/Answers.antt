-- Each way through the writer is a case of the rule.
use Rattle.std.proofs.Common.{sym, refl, ◌∙◌}
use Rattle.records.specs.Writing.{bad_count}
use Rattle.records.proofs.Laws.{lines_else, no_lines}
use Rattle.records.proofs.Writing.{writes_misplaced, writes_missized, writes_short, writes_done}
use Rattle.records.proofs.Rounds.{recorded}
use Rattle.records.proofs.writer.write.Goals as goal

pub returns-then-lines-eq1 : goal.returns-then-lines-eq1
returns-then-lines-eq1 c = recorded (bad_count (no_lines c.args.lines c.then-lines-eq1.either) refl)

pub returns-then-not-stands : goal.returns-then-not-stands
returns-then-not-stands c = recorded (writes_misplaced _ _ _ (lines_else _ c.if-lines-eq1.false c.if-lines-gt16.false) _ c.mark-mark.ensures c.if-not-stands.ensures)

pub returns-then-held-body_length : goal.returns-then-held-body_length
returns-then-held-body_length c = recorded (writes_missized _ _ _ (lines_else _ c.if-lines-eq1.false c.if-lines-gt16.false) _ c.mark-mark.ensures c.if-not-stands.ensures
    _ c.body_length-held.ensures (λ e. c.if-held-body_length.true (e ∙ sym c.body_length.ensures)))

pub returns-then-buffer-held : goal.returns-then-buffer-held
returns-then-buffer-held c = recorded (writes_short _ _ _ (lines_else _ c.if-lines-eq1.false c.if-lines-gt16.false) _ c.mark-mark.ensures c.if-not-stands.ensures
    _ c.body_length-held.ensures (c.if-held-body_length.false ∙ c.body_length.ensures) c.if-buffer-held.true)

pub returns : goal.returns
returns c = recorded (writes_done _ _ _ (lines_else _ c.if-lines-eq1.false c.if-lines-gt16.false) _ c.mark-mark.ensures c.if-not-stands.ensures
    _ c.body_length-held.ensures (c.if-held-body_length.false ∙ c.body_length.ensures)
    _ _ c.if-buffer-held.false (c.copy_from_slice.ensures.after ∙ c.from.ensures) c.put_body.ensures)
