use Rattle.std.proofs.Common.{List, ℕ, Ok, subst, arith}
use Rattle.std.proofs.lemmas.Result.{err_from_is_err_and}
use Rattle.card.specs.Placing.{Placed}
use Rattle.card.proofs.Pairing.{is_idle, is_busy}
use Rattle.cabinet.specs.States.{standing}
use Rattle.cabinet.proofs.Routes.{SoFar, idle_next, busy_next, all_found, never_refused}
use Rattle.cabinet.proofs.Cabinet.route.Goals as goal
use Rattle.cabinet.proofs.Cabinet.route.Goals.{then-is_some+in_ok-place, else-is_some}

pub returns-in_err-place : goal.returns-in_err-place
returns-in_err-place g c =
    let p = err_from_is_err_and c.from_residual.result c.from_residual.ensures.1 in
    rw p.1
    (λ r. never_refused (g.C.Card.meaning c.args.self.now.card) c.standing_setting.result.now c.loop-input.input c.columns-columns.result c.in_err-place.field-0.0
    (rw c.standing_setting.ensures (record { lawful = r.first.fits.lawful; input = omega (arith, c.lines-input-end.ensures); reached = omega (arith, c.columns-columns.ensures) }))
    c.in_err-place.ensures)

pub loop-input-preserved : goal.loop-input-preserved
loop-input-preserved g c =
    let m = g.C.Card.meaning c.args.self.now.card in
    let sound = g.met.C.Card.sound c.args.self.now.card in
    let s = standing m c.args.self.now.state in
    elim c.if-is_some.branch [
      | then-is_some+in_ok-place w ↦
          let at : Placed m s.setting c.loop-input.input m.columns (Ok w.in_ok-place.place) = subst (λ (l : List ℕ). Placed m l c.loop-input.input m.columns (Ok w.in_ok-place.place)) w.standing_setting.ensures (subst (λ (k : ℕ). Placed m w.standing_setting.result.now c.loop-input.input k (Ok w.in_ok-place.place)) c.columns-columns.ensures w.in_ok-place.ensures) in
          rw w.table-is (busy_next m sound s c.loop-input.input c.loop-input.table c.loop-input.invariant (is_busy _ c.loop-input.input _ c.output.ensures w.if-is_some.ensures) w.in_ok-place.place at.0 at.1)
      | else-is_some w ↦ rw w.table-is (idle_next m sound s c.loop-input.input c.loop-input.table c.loop-input.invariant (is_idle _ c.loop-input.input _ c.output.ensures w.if-is_some.ensures))
    ]

pub returns : goal.returns
returns g c =
    let m = g.C.Card.meaning c.args.self.now.card in
    let s = standing m c.args.self.now.state in
    λ r. all_found m (g.met.C.Card.sound c.args.self.now.card) s c.loop-input.table (subst (λ (n : ℕ). SoFar m s n c.loop-input.table) (omega (arith, c.lines-input-end.ensures)) c.loop-input.invariant)
