use Rattle.std.proofs.Common.{length, sym, ap, ◌∙◌, arith, false-eqb}
use Rattle.std.proofs.lemmas.List.{drop_all}
use Rattle.words.specs.Numbers.{decimal}
use Rattle.words.proofs.Decimals.{too_large}
use Rattle.words.proofs.number.Goals as goal

pub returns-in_err-checked_mul : goal.returns-in_err-checked_mul
returns-in_err-checked_mul c = rw c.from_residual.ensures (too_large _ _ _ c.loop-digit-test.true c.loop-digit.invariant.2 (omega (arith, c.in_err-checked_mul.ensures)))

pub returns-in_err-value : goal.returns-in_err-value
returns-in_err-value c = rw c.from_residual-in_err-value.ensures (too_large _ _ _ c.loop-digit-test.true c.loop-digit.invariant.2 (omega (arith, c.in_err-value.ensures, c.in_ok-checked_mul.ensures)))

pub returns : goal.returns
returns c =
    record {
      some = let ne = false-eqb (length c.args.word.now) 0 c.if-is_empty.ensures in omega (arith, ne);
      digits = λ k h. c.loop-digit.invariant.1 k (omega arith);
      value = sym c.loop-digit.invariant.2 ∙ ap (λ ds. decimal c.loop-digit.value ds) (drop_all c.loop-digit.digit-index c.args.word.now c.loop-digit-test.false);
      small = omega (arith, c.loop-digit.invariant.0);
    }
