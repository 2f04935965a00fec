-- The cell fits, or its hold or one of the pairs rules the position out.
use Rattle.std.proofs.Common.{◌≡◌, ◌-◌, slice_index, true, false, true≢false, sym, ◌∙◌, arith}
use Rattle.halving.specs.Outer.{Allowed, Fitting}
use Rattle.halving.proofs.Single.{lone_held, lone_ends, lone_allowed}
use Rattle.halving.proofs.lone.cell_fits.Goals as goal
use Rattle.halving.proofs.lone.cell_fits.Goals.{then-allows, else-allows}

pub returns-then-allows-2 : goal.returns-then-allows-2
returns-then-allows-2 c v =
    let p = c.args.position in
    let pairs = c.args.pairs.now in
    let holds = c.args.holds.now in
    elim c.if-allows.branch [
      | then-allows w ↦
          let b : w.allows-then-allows.result ≡ true = sym w.value-is ∙ c.if-allows-2.true in
          elim c.allows-then-allows-2.result as (λ r. Allowed (slice_index c.args.pairs.now 1) (1 - p) r → Fitting v p pairs holds r) [
            | true ↦ λ d. lone_allowed v p pairs holds c.requires.position c.requires.lines c.requires.sized w.if-allows.ensures (rw b at w.allows-then-allows.ensures) d
            | false ↦ λ d f. d (lone_ends v p pairs holds c.requires.position c.requires.lines c.requires.sized 1 (1 - p) (omega arith) (omega arith) f)
          ] c.allows-then-allows-2.ensures
      | else-allows w ↦ absurd (true≢false (sym c.if-allows-2.true ∙ w.value-is ∙ w.if-allows.false))
    ]

pub returns-else-allows-2 : goal.returns-else-allows-2
returns-else-allows-2 c v =
    let p = c.args.position in
    let pairs = c.args.pairs.now in
    let holds = c.args.holds.now in
    rw c.if-allows-2.false
    (λ f. elim c.if-allows.branch [
      | then-allows w ↦
          let b : w.allows-then-allows.result ≡ false = sym w.value-is ∙ c.if-allows-2.false in
          (rw b at w.allows-then-allows.ensures) (lone_ends v p pairs holds c.requires.position c.requires.lines c.requires.sized 0 p (omega arith) (omega arith) f)
      | else-allows w ↦ w.if-allows.ensures (lone_held v p pairs holds c.requires.position c.requires.lines c.requires.sized f)
    ])
