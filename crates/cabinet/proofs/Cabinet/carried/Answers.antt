use Rattle.std.proofs.Common.{arith}
use Rattle.cabinet.specs.States.{standing}
use Rattle.cabinet.proofs.Tables.{tabled}
use Rattle.cabinet.proofs.Cabinet.carried.Goals as goal

pub returns : goal.returns
returns g c =
    let m = g.C.Card.meaning c.args.self.now.card in
    tabled g.P.Payload.silent c.silence-table.result m (standing m c.args.self.now.state) c.args.given.now c.carry.new.out c.lines-lines.result c.lines-lines.ensures
    (omega (arith, c.lines-lines.ensures, (g.met.C.Card.sound c.args.self.now.card).few_lines)) c.carry.auto.out c.silence-table.ensures c.in_ok-carry.ensures
