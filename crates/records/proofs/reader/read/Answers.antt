-- Each way through the reader is a case of the rule.
use Rattle.std.proofs.Common.{◌≡◌, ◌≤◌, ◌≢◌, ◌++◌, length, ap, take-append-drop, sym, refl, ◌∙◌, arith, rules}
use Rattle.std.proofs.lemmas.List.{length-take-le}
use Rattle.std.proofs.lemmas.Result.{err_from_is_err_and}
use Rattle.records.specs.Reading.{bad_lines, lone}
use Rattle.records.proofs.Laws.{lines_else, no_lines}
use Rattle.records.proofs.Reading.{reads_end, reads_unknown, reads_misplaced, reads_cut, reads_whole}
use Rattle.records.proofs.One.{answered}
use Rattle.records.proofs.reader.read.Goals as goal

pub returns-then-lines-eq1 : goal.returns-then-lines-eq1
returns-then-lines-eq1 c = answered (bad_lines (no_lines c.args.lines c.then-lines-eq1.either))

pub returns-then-is_empty : goal.returns-then-is_empty
returns-then-is_empty c = answered (reads_end _ _ (lines_else _ c.if-lines-eq1.false c.if-lines-gt16.false) (search rules))

pub returns-in_default : goal.returns-in_default
returns-in_default c =
    let some : length c.args.bytes.now ≢ 0 = search rules in
    answered (lone (lines_else _ c.if-lines-eq1.false c.if-lines-gt16.false) (omega (arith, c.in_default.ensures.cases, some)))

pub returns-in_err-mark : goal.returns-in_err-mark
returns-in_err-mark c =
    let p = err_from_is_err_and c.from_residual.result c.from_residual.ensures.1 in
    let two : 2 ≤ length c.args.bytes.now = omega (arith, c.in-Some.ensures.cases.2) in
    rw (p.1, p.2, c.in_err-mark.ensures.1)
    (answered (reads_unknown _ _ (lines_else _ c.if-lines-eq1.false c.if-lines-gt16.false) two (λ m e. c.in_err-mark.ensures.0 m (c.in-Some.ensures.cases.0 ∙ e))))

pub returns-then-not-stands : goal.returns-then-not-stands
returns-then-not-stands c =
    let two : 2 ≤ length c.args.bytes.now = omega (arith, c.in-Some.ensures.cases.2) in
    answered (reads_misplaced _ _ (lines_else _ c.if-lines-eq1.false c.if-lines-gt16.false) two c.in_ok-mark.mark (sym c.in-Some.ensures.cases.0 ∙ c.in_ok-mark.ensures) c.if-not-stands.ensures)

pub returns-in_default-split_at_checked : goal.returns-in_default-split_at_checked
returns-in_default-split_at_checked c =
    let two : 2 ≤ length c.args.bytes.now = omega (arith, c.in-Some.ensures.cases.2) in
    answered (reads_cut _ _ (lines_else _ c.if-lines-eq1.false c.if-lines-gt16.false) two c.in_ok-mark.mark (sym c.in-Some.ensures.cases.0 ∙ c.in_ok-mark.ensures) c.if-not-stands.ensures
    _ c.in-Some.ensures.cases.1 _ refl (omega (arith, c.in_default-split_at_checked.ensures.cases, c.body_length.ensures)))

pub returns : goal.returns
returns c =
    let two : 2 ≤ length c.args.bytes.now = omega (arith, c.in-Some.ensures.cases.2) in
    let cut = c.in-Some-split_at_checked.ensures.cases in
    let parts : c.in-Some.tail.now ≡ c.in-Some-split_at_checked.body.now ++ c.in-Some-split_at_checked.rest.now = rw (cut.1, cut.2) (sym (take-append-drop c.body_length.result c.in-Some.tail.now)) in
    let long : length c.in-Some-split_at_checked.body.now ≡ c.body_length.result = ap length cut.1 ∙ length-take-le c.body_length.result c.in-Some.tail.now cut.0 in
    answered (reads_whole _ _ (lines_else _ c.if-lines-eq1.false c.if-lines-gt16.false) two c.in_ok-mark.mark (sym c.in-Some.ensures.cases.0 ∙ c.in_ok-mark.ensures) c.if-not-stands.ensures
    _ c.in-Some.ensures.cases.1 _ _ _ parts (long ∙ c.body_length.ensures) c.order_from.ensures)
