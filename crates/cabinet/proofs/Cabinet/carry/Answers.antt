use Rattle.std.proofs.Common.{◌≡◌, length, take, Err, sym, refl, ◌∙◌, arith, rules}
use Rattle.std.proofs.lemmas.Result.{err_from_is_err_and}
use Rattle.card.specs.declared.fault.Cause.TheVariants.{WrongLength}
use Rattle.card.specs.declared.fault.Layer.TheVariants.{Cabinet}
use Rattle.card.specs.Faults.{fault}
use Rattle.cabinet.specs.Carrying.{Sent}
use Rattle.cabinet.specs.States.{standing}
use Rattle.cabinet.proofs.Steady.{follow_carry, ready, routed_pairs}
use Rattle.cabinet.proofs.Routes.{sending, arriving, same_outputs}
use Rattle.cabinet.proofs.Cabinet.carry.Goals as goal
use Rattle.cabinet.proofs.Cabinet.carry.Goals.{then-given-lines-via-then-given-lines, then-given-lines-via-else-given-lines+then-out-lines}

pub returns-then-given-lines : goal.returns-then-given-lines
returns-then-given-lines g c = (
  refl,
  follow_carry (g.C.Card.meaning c.args.self.now.card) (g.met.C.Card.sound c.args.self.now.card) (standing (g.C.Card.meaning c.args.self.now.card) c.args.self.now.state) (length c.args.given.now) (length c.args.out.now) (Err (fault WrongLength Cabinet 0))
      (λ r. (
        λ ok. elim c.then-given-lines.branch [
          | then-given-lines-via-then-given-lines w ↦ w.if-given-lines.true (ok.given ∙ sym c.lines-lines.ensures)
          | then-given-lines-via-else-given-lines+then-out-lines w ↦ w.if-out-lines.true (ok.filled ∙ sym c.lines-lines.ensures)
        ],
        refl,
        refl,
      )),
)

pub returns-in_err-route : goal.returns-in_err-route
returns-in_err-route g c =
    let p = err_from_is_err_and c.from_residual.result c.from_residual.ensures.1 in
    rw p.1 (
      refl,
      follow_carry (g.C.Card.meaning c.args.self.now.card) (g.met.C.Card.sound c.args.self.now.card) (standing (g.C.Card.meaning c.args.self.now.card) c.args.self.now.state) (length c.args.given.now) (length c.args.out.now) (Err p.0) (λ r. absurd (c.in_err-route.ensures r)),
    )

pub returns : goal.returns
returns g c =
    let m = g.C.Card.meaning c.args.self.now.card in
    let sound = g.met.C.Card.sound c.args.self.now.card in
    let s = standing (g.C.Card.meaning c.args.self.now.card) c.args.self.now.state in
    let size : length c.args.given.now ≡ (g.C.Card.meaning c.args.self.now.card).lines = c.if-given-lines.false ∙ c.lines-lines.ensures in
    let filled : length c.args.out.now ≡ (g.C.Card.meaning c.args.self.now.card).lines = c.if-out-lines.false ∙ c.lines-lines.ensures in
    let wide : length c.in_ok-route.route ≡ 16 = search rules in
    let sent : Sent g.P.Payload.silent c.args.given.now (take (g.C.Card.meaning c.args.self.now.card).lines c.in_ok-route.route) c.loop-output.out = sending g.P.Payload.silent c.args.given.now c.loop-output.out c.in_ok-route.route (g.C.Card.meaning c.args.self.now.card).lines sound.few_lines size (c.loop-output.auto.out ∙ filled) wide (λ o h. c.loop-output.invariant o (omega (arith, c.loop-output-test.false, c.lines-lines.ensures))) in
    record {
      route = take (g.C.Card.meaning c.args.self.now.card).lines c.in_ok-route.route;
      sent = sent;
      log = follow_carry m sound s (length c.args.given.now) (length c.args.out.now) _ (λ r. (record { given = size; filled = filled }, c.in_ok-route.ensures r, refl));
      arrived = λ rows log. arriving g.P.Payload.silent (g.C.Card.meaning c.args.self.now.card).lines _ _ c.args.given.now c.loop-output.out sound.few_lines (routed_pairs m sound rows s log _ (c.in_ok-route.ensures (ready m sound rows s log))) sent;
      same = λ rows log. same_outputs g.P.Payload.silent m sound s c.args.given.now c.loop-output.out _ (c.in_ok-route.ensures (ready m sound rows s log)) sent rows log;
    }
