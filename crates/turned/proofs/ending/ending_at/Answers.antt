-- Each input may be asked for, and one of them ends at the output.
use Rattle.std.proofs.Common.{◌≡◌, ℕ, sym, ap, ◌∙◌, arith, below_more}
use Rattle.turned.proofs.Refusals.{placed_ok, placed_is}
use Rattle.turned.specs.Sources.{sourced, is_source, ends_at}
use Rattle.turned.proofs.ending.ending_at.Goals as goal

pub unwrap-requires : goal.unwrap-requires
unwrap-requires g c =
    placed_ok (g.C.Card.meaning c.args.card.now) c.args.setting.now c.loop-input.input c.columns-columns.result c.place.result
    (record { lawful = c.requires.lawful; input = omega (arith, c.lines-input-end.ensures); reached = omega (arith, c.columns-columns.ensures) })
    c.place.ensures

pub returns-then-unwrap-output : goal.returns-then-unwrap-output
returns-then-unwrap-output g c =
    let m = g.C.Card.meaning c.args.card.now in
    let ok = g.met.C.Card.sound c.args.card.now in
    let e : m.place c.args.setting.now c.loop-input.input m.columns ≡ c.args.output =
    ap (λ (s : ℕ). m.place c.args.setting.now c.loop-input.input s) (sym c.columns-columns.ensures)
    ∙ sym (placed_is m c.args.setting.now c.loop-input.input c.columns-columns.result c.place.result c.unwrap.result c.unwrap.ensures c.place.ensures)
    ∙ c.if-unwrap-output.true in
    record {
      found = is_source m ok c.args.setting.now c.requires.lawful c.args.output c.loop-input.input c.requires.inside (omega (arith, c.lines-input-end.ensures)) e;
      only = ends_at m ok c.args.setting.now c.requires.lawful c.args.output c.loop-input.input c.requires.inside (omega (arith, c.lines-input-end.ensures)) e;
    }

pub loop-input-preserved : goal.loop-input-preserved
loop-input-preserved g c =
    let m = g.C.Card.meaning c.args.card.now in
    below_more _ _ c.loop-input.invariant
    (λ e.
    c.if-unwrap-output.false
    (placed_is m c.args.setting.now c.loop-input.input c.columns-columns.result c.place.result c.unwrap.result c.unwrap.ensures c.place.ensures
    ∙ ap (λ (s : ℕ). m.place c.args.setting.now c.loop-input.input s) c.columns-columns.ensures
    ∙ e))

pub unreachable-requires : goal.unreachable-requires
unreachable-requires g c =
    let m = g.C.Card.meaning c.args.card.now in
    let t = sourced m (g.met.C.Card.sound c.args.card.now) c.args.setting.now c.requires.lawful c.args.output c.requires.inside in
    c.loop-input.invariant _ (omega (arith, t.inside, c.lines-input-end.ensures)) t.there
