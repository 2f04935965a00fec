use Rattle.std.proofs.Common.{◌≢◌, arith, length, false-eqb}
use Rattle.sheet_text.proofs.Entries.{entered_more}
use Rattle.sheet_text.proofs.reading.listed.Goals as goal

pub loop-rest-preserved : goal.loop-rest-preserved
loop-rest-preserved c = (
  let room : length c.loop-rest.numbers.items ≢ 64 = false-eqb _ 64 c.loop-rest-test.ensures.value in
      omega (arith, c.push.ensures.len, c.loop-rest.invariant.0),
  rw c.push.ensures.items (entered_more _ _ _ _ _ c.loop-rest.invariant.1 c.in-Some.ensures),
)
