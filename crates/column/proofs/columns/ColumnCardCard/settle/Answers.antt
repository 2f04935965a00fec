-- What the checks and the search found, as settling answers it.
use Rattle.std.proofs.Common.{◌≡◌, suc, ◌-◌, refl, arith}
use Rattle.std.proofs.lemmas.Result.{err_from_is_err_and}
use Rattle.card.specs.Settling.{Refusal}
use Rattle.card.proofs.Pairing.{law_size}
use Rattle.column.proofs.Tabled.{settled_in_table}
use Rattle.column.proofs.columns.ColumnCardCard.settle.Goals as goal

pub returns-in_err-check_settle : goal.returns-in_err-check_settle
returns-in_err-check_settle g c =
    let p = err_from_is_err_and c.from_residual.result c.from_residual.ensures.1 in
    rw (p.1, p.2) (Refusal.broken c.in_err-check_settle.ensures, refl {a = c.args.setting.now})

pub returns : goal.returns
returns g c =
    let ok = c.in_ok-check_settle.ensures in
    let all : c.args.plan.now.lines ≡ suc (c.args.self.now.lines - 1) = omega (arith, law_size c.args.plan.now.lawful, ok.sized.pairs_size) in
    settled_in_table g.F.Leaders.lead (c.args.self.now.lines - 1) c.args.plan.now.lines c.args.plan.now.outputs c.args.holds.now all
    c.cells-cells.result c.outputs.result c.args.setting.now c.settle.new.setting c.settle.result c.cells-cells.ensures c.outputs.ensures ok c.settle.ensures
