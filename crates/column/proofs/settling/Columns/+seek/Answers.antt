-- The first setting of the columns, position by position.
use Rattle.std.proofs.Common.{Bool, subst, drop, ◌+◌, ◌-◌, length, sym, ◌∙◌, arith}
use Rattle.std.proofs.lemmas.Bool.{eqb-true, eqb-false, true≢false}
use Rattle.column.specs.Serving.{Sought}
use Rattle.column.proofs.Seeking.{seek_none, tried_all, seek_found, seek_unserved, seek_unfit}
use Rattle.column.proofs.settling.Columns.+seek.Goals as goal
use Rattle.column.proofs.settling.Columns.+seek.Goals.{in-Some, in-None}

pub returns-else-outputs : goal.returns-else-outputs
returns-else-outputs g t c =
    seek_none g.F.Leaders.lead c.args.self.now.last c.args.outputs _ _ c.if-self-eq0.true (omega arith) _
    (λ e b. eqb-true _ _ e)
    (λ e. (c.if-outputs.false, eqb-false _ _ e))

pub returns-then-fits : goal.returns-then-fits
returns-then-fits g t c =
    elim c.match-serve.branch [
      | in-Some w ↦
          simp w.setting-is
          (seek_found g.F.Leaders.lead c.args.self.now.last c.args.outputs c.args.holds.now (length c.args.setting.now - c.args.self.now.last) c.loop-position.position
          (omega arith) (omega arith) (omega arith) c.loop-position.invariant w.seek-fits.new.setting w.in-Some.rest (omega arith) w.in-Some.ensures
          (subst (λ (b : Bool). Sought g.F.Leaders.lead (c.args.self.now.last - 1) w.in-Some.rest (drop (length c.args.holds.now - (c.args.self.now.last - 1)) c.args.holds.now) (drop (length w.seek-fits.new.setting - (c.args.self.now.last - 1)) w.seek-fits.new.setting) b) (sym w.fits-is ∙ c.if-fits.true) w.seek-fits.ensures))
      | in-None w ↦ absurd (true≢false (sym c.if-fits.true ∙ w.fits-is))
    ]

pub loop-position-preserved : goal.loop-position-preserved
loop-position-preserved g t c = (elim c.match-serve.branch [
  | in-Some w ↦
      seek_unfit g.F.Leaders.lead c.args.self.now.last c.args.outputs c.args.holds.now (length c.args.setting.now - c.args.self.now.last) c.loop-position.position
      (omega arith) (omega arith) (omega arith) c.loop-position.invariant w.in-Some.rest w.in-Some.ensures
      (subst (λ (b : Bool). Sought g.F.Leaders.lead (c.args.self.now.last - 1) w.in-Some.rest (drop (length c.args.holds.now - (c.args.self.now.last - 1)) c.args.holds.now) (drop (length w.seek-fits.new.setting - (c.args.self.now.last - 1)) w.seek-fits.new.setting) b) (sym w.fits-is ∙ c.if-fits.false) w.seek-fits.ensures)
  | in-None w ↦
      seek_unserved g.F.Leaders.lead c.args.self.now.last c.args.outputs c.args.holds.now (length c.args.setting.now - c.args.self.now.last) c.loop-position.position
      (omega arith) (omega arith) (omega arith) c.loop-position.invariant w.in-None.ensures
])

pub returns-else-fits : goal.returns-else-fits
returns-else-fits g t c =
    tried_all g.F.Leaders.lead c.args.self.now.last (c.loop-position.position + 1) c.args.outputs _ (omega arith) (omega arith)
    (elim c.match-serve.branch [
      | in-Some w ↦
          seek_unfit g.F.Leaders.lead c.args.self.now.last c.args.outputs c.args.holds.now (length c.args.setting.now - c.args.self.now.last) c.loop-position.position
          (omega arith) (omega arith) (omega arith) c.loop-position.invariant w.in-Some.rest w.in-Some.ensures
          (subst (λ (b : Bool). Sought g.F.Leaders.lead (c.args.self.now.last - 1) w.in-Some.rest (drop (length c.args.holds.now - (c.args.self.now.last - 1)) c.args.holds.now) (drop (length w.seek-fits.new.setting - (c.args.self.now.last - 1)) w.seek-fits.new.setting) b) (sym w.fits-is ∙ c.if-fits.false) w.seek-fits.ensures)
      | in-None w ↦
          seek_unserved g.F.Leaders.lead c.args.self.now.last c.args.outputs c.args.holds.now (length c.args.setting.now - c.args.self.now.last) c.loop-position.position
          (omega arith) (omega arith) (omega arith) c.loop-position.invariant w.in-None.ensures
    ])
