-- A position serves, or the hold, its own line or another line rules it out.
use Rattle.std.proofs.Common.{◌-◌, sym, ◌∙◌, ⊎_elim, arith}
use Rattle.column.proofs.Stepping.{cases_map, unsent, blocked, served}
use Rattle.column.proofs.settling.Columns.serve.Goals as goal
use Rattle.column.proofs.settling.Columns.serve.Goals.{else-wanted-via-then-wanted+else-turn-wanted, else-wanted-via-else-wanted}

pub returns-then-turn-wanted : goal.returns-then-turn-wanted
returns-then-turn-wanted g c =
    unsent g.F.Leaders.lead g.met.F.Leaders.leading c.args.self.now.last (c.args.self.now.last - 1) c.args.position c.args.hold c.args.outputs
    (omega arith) (omega arith) (omega arith) (omega arith) c.if-wanted.true (λ e. c.if-turn-wanted.true (c.turn.ensures ∙ e))

pub returns : goal.returns
returns g c =
    cases_map c.pull.result _ _ _ _
    (blocked g.F.Leaders.lead g.met.F.Leaders.leading c.args.self.now.last (c.args.self.now.last - 1) c.args.position c.args.hold c.args.outputs
    (omega arith) (omega arith) (omega arith) (omega arith))
    (λ rest.
    served g.F.Leaders.lead g.met.F.Leaders.leading c.args.self.now.last (c.args.self.now.last - 1) c.args.position c.args.hold c.args.outputs
    (omega arith) (omega arith) (omega arith) (omega arith) rest
    (λ b. ⊎_elim (λ t. t.1) (λ e. absurd (b e)) c.else-hold-ne-NONE.either)
    (λ b.
    elim c.else-wanted.branch [
      | else-wanted-via-then-wanted+else-turn-wanted w ↦ sym w.turn.ensures ∙ w.if-turn-wanted.false
      | else-wanted-via-else-wanted w ↦ absurd (b w.if-wanted.false)
    ]))
    c.pull.ensures
