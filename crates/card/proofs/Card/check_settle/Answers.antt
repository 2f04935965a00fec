use Rattle.std.proofs.Common.{sym, ◌∙◌, inl, inr, ⊎_elim, arith, below_more}
use Rattle.std.proofs.lemmas.List.{get_or_default}
use Rattle.card.specs.Settling.{Unsettleable}
use Rattle.card.proofs.Pairing.{law_size}
use Rattle.card.proofs.Card.check_settle.Goals as goal
use Rattle.card.proofs.Card.check_settle.Goals.{else-hold-via-then-hold+in_ok-positions+else-branch, else-hold-via-else-hold, then-lines-via-then-lines, then-lines-via-else-lines+then-holds-cells, then-lines-via-else-lines+else-holds-cells+then-setting-cells}

pub returns-then-lines : goal.returns-then-lines
returns-then-lines g c =
    Unsettleable.wrong_length
    (λ s.
    elim c.then-lines.branch [
      | then-lines-via-then-lines w ↦ w.if-lines.true (c.lines.ensures ∙ sym (law_size c.args.plan.now.lawful) ∙ s.pairs_size ∙ sym c.lines-2.ensures)
      | then-lines-via-else-lines+then-holds-cells w ↦ w.if-holds-cells.true (s.holds_size ∙ sym c.cells-cells.ensures)
      | then-lines-via-else-lines+else-holds-cells+then-setting-cells w ↦ w.if-setting-cells.true (s.buffer_size ∙ sym c.cells-cells.ensures)
    ])

pub returns-then-branch : goal.returns-then-branch
returns-then-branch g c =
    let d = get_or_default c.args.holds.now c.loop-i.i 0 255 c.loop-i-test.true in
    Unsettleable.wrong_hold
    (record { pairs_size = law_size c.args.plan.now.lawful ∙ sym c.lines.ensures ∙ c.if-lines.false ∙ c.lines-2.ensures; holds_size = c.if-holds-cells.false ∙ c.cells-cells.ensures; buffer_size = c.if-setting-cells.false ∙ c.cells-cells.ensures })
    c.loop-i.i
    (record {
      inside = omega (arith, c.cells-cells.ensures);
      outside = ⊎_elim (λ e. c.if-hold.true (d ∙ e)) (λ h. omega (arith, h, d, c.in_ok-positions.ensures.1, c.if-branch.true));
      lowest = c.loop-i.invariant;
    })

pub loop-i-preserved : goal.loop-i-preserved
loop-i-preserved g c =
    let d = get_or_default c.args.holds.now c.loop-i.i 0 255 c.loop-i-test.true in
    below_more _ _ c.loop-i.invariant
    (elim c.else-hold.branch [
      | else-hold-via-then-hold+in_ok-positions+else-branch w ↦ inr (omega (arith, d, w.in_ok-positions.ensures.1, w.if-branch.false))
      | else-hold-via-else-hold w ↦ inl (sym d ∙ w.if-hold.false)
    ])
