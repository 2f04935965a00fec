-- No patch is refused, and each turns one input over.
use Rattle.std.proofs.Common.{◌≡◌, ℕ, ◌+◌, ◌<◌, List, sym, ap, ◌∙◌, subst, arith}
use Rattle.card.specs.declared.plan.Plan.{Plan}
use Rattle.card.specs.PlanPairs.{pairs_of}
use Rattle.card.proofs.Pairing.{law_some, law_few, law_size, law_below, law_apart}
use Rattle.turned.proofs.Inverting.{Turning, turning_none, turning_idle, never_refused, turning_more, turning_all}
use Rattle.turned.proofs.Carrying.{carried_alike, plan_low}
use Rattle.turned.proofs.Refusals.{idled_ok, idled_is, patched_ok, patched_is}
use Rattle.turned.proofs.over.turned_over.Goals as goal
use Rattle.turned.proofs.over.turned_over.Goals.{in-Some, in_default}

pub unwrap-over-requires : goal.unwrap-over-requires
unwrap-over-requires c =
    let law = c.args.plan.now.lawful in
    idled_ok c.lines-lines.result c.idle.result (record { some = omega (arith, law_some law, c.lines-lines.ensures); few = omega (arith, law_few law, c.lines-lines.ensures) }) c.idle.ensures

pub loop-input-init : goal.loop-input-init
loop-input-init c =
    let idle = idled_is c.lines-lines.result c.idle.result c.unwrap-over.result c.unwrap-over.ensures c.idle.ensures in (
      idle.lines_are ∙ c.lines-lines.ensures,
      subst (λ (n : ℕ). Turning n 0 (pairs_of c.args.plan.now) (pairs_of c.unwrap-over.result)) c.lines-lines.ensures
          (turning_none c.lines-lines.result (pairs_of c.args.plan.now) (pairs_of c.unwrap-over.result) idle.pairs),
    )

pub unwrap-requires : goal.unwrap-requires
unwrap-requires c =
    let law = c.args.plan.now.lawful in
    let inside : c.loop-input.input < c.args.plan.now.lines = omega (arith, c.lines-lines.ensures) in
    patched_ok c.loop-input.over.lines (pairs_of c.loop-input.over) (pairs_of c.patch.new.self) c.in-Some.output c.loop-input.input c.patch.result
    (never_refused c.args.plan.now.lines c.loop-input.input (pairs_of c.args.plan.now) (pairs_of c.loop-input.over) (law_few law) inside
    (law_below law c.loop-input.input inside (λ z. c.in-Some.ensures.1 (sym c.in-Some.ensures.0 ∙ z))) (law_apart law) c.loop-input.invariant.1
    c.loop-input.over.lines c.in-Some.output c.loop-input.invariant.0 (sym c.in-Some.ensures.0))
    c.patch.ensures.pairs

pub loop-input-preserved : goal.loop-input-preserved
loop-input-preserved c =
    let law = c.args.plan.now.lawful in
    let inside : c.loop-input.input < c.args.plan.now.lines = omega (arith, c.lines-lines.ensures) in
    elim c.match-output.branch [
      | in-Some w ↦
          let put = patched_is c.loop-input.over.lines (pairs_of c.loop-input.over) (pairs_of w.patch.new.self) w.in-Some.output c.loop-input.input w.patch.result w.unwrap.result w.unwrap.ensures w.patch.ensures.pairs in (
            ap (λ (p : Plan). p.lines) w.over-is ∙ w.patch.ensures.lines ∙ c.loop-input.invariant.0,
            turning_more c.args.plan.now.lines c.loop-input.input (pairs_of c.args.plan.now) (pairs_of c.loop-input.over) (law_few law) inside
                (law_below law c.loop-input.input inside (λ z. w.in-Some.ensures.1 (sym w.in-Some.ensures.0 ∙ z))) (law_apart law) c.loop-input.invariant.1
                w.in-Some.output (pairs_of c.match-output.over) (sym w.in-Some.ensures.0) (ap pairs_of w.over-is ∙ put),
          )
      | in_default w ↦ (
        ap (λ (p : Plan). p.lines) w.over-is ∙ c.loop-input.invariant.0,
        subst (λ (l : List ℕ). Turning c.args.plan.now.lines (c.loop-input.input + 1) (pairs_of c.args.plan.now) l) (sym (ap pairs_of w.over-is))
            (turning_idle c.args.plan.now.lines c.loop-input.input (pairs_of c.args.plan.now) (pairs_of c.loop-input.over) (law_few law) w.in_default.ensures c.loop-input.invariant.1),
      )
    ]

pub returns : goal.returns
returns c =
    let law = c.args.plan.now.lawful in
    let end : c.loop-input.input ≡ c.args.plan.now.lines = omega (arith, c.lines-lines.ensures) in
    let over =
    turning_all c.args.plan.now.lines (pairs_of c.args.plan.now) (pairs_of c.loop-input.over) (law_few law) (law_size law)
    (subst (λ (k : ℕ). Turning c.args.plan.now.lines k (pairs_of c.args.plan.now) (pairs_of c.loop-input.over)) end c.loop-input.invariant.1) in
    record { inverse = over; carries = carried_alike (pairs_of c.args.plan.now) (pairs_of c.loop-input.over) over (plan_low law) (plan_low c.loop-input.over.lawful) }
