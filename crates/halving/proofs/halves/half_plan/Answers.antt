-- One more line of a half plan.
use Rattle.std.proofs.Common.{◌≡◌, ℕ, ◌+◌, ◌*◌, ◌<◌, List, get_or, set, length, sym, ap, ◌∙◌, subst, inl, inr, arith}
use native.Mathlib.Decide.{ℕ_discrete}
use Rattle.std.proofs.lemmas.List.{get_or_default, get_or-set_same, get_or-set_other}
use Rattle.card.specs.Settling.{none}
use Rattle.halving.specs.Counts.{lines_some}
use Rattle.halving.specs.Halving.{lines_at}
use Rattle.halving.specs.Outer.{entrant, inner, Halves, Halved, Pairable}
use Rattle.halving.proofs.Routing.{inner_below}
use Rattle.halving.proofs.halves.half_plan.Goals as goal
use Rattle.halving.proofs.halves.half_plan.Goals.{then-output, else-output}

module _ (w h : ℕ) (pairs l : List ℕ) (b : ℕ) where
  more : (c x : ℕ) (a : List ℕ) → c < length a → Halved w h c pairs l b a → Halves w h (get_or pairs (entrant l b c) none) x → Halved w h (c + 1) pairs l b (set a c x)
  more c x a lt u here d p = elim (ℕ_discrete d c) [
    | yes z ↦ subst (λ (y : ℕ). Halves w h (get_or pairs (entrant l b y) none) (get_or (set a c x) y none)) (sym z) (rw (get_or-set_same a c x none lt) here)
    | no z ↦ rw (get_or-set_other a c d x none z) (u d (omega arith))
  ]

  pairable : (a : List ℕ) → 0 < h → Pairable (2 * h) pairs → Halved w h h pairs l b a → Pairable h a
  pairable a p pp u c q =
      let o = get_or pairs (entrant l b c) none in
      elim (ℕ_discrete o none) [
        | yes z ↦ inl ((u c q).idle z)
        | no z ↦ inr (rw ((u c q).busy z) (inner_below w h o p (elim (pp (entrant l b c) (omega arith)) [ inl y ↦ absurd (z y) | inr y ↦ y ])))
      ]

pub loop-c-preserved : goal.loop-c-preserved
loop-c-preserved g c =
    let pairs = c.args.pairs.now in
    let l = c.args.first.now in
    let w = g.F.OuterColumns.OUTER in
    let h = lines_at c.args.half.depth in
    let i = entrant l c.args.b c.loop-c.c in
    let e : get_or pairs i 0 ≡ get_or pairs i none = get_or_default pairs i 0 none (omega arith) in
    more w h pairs l c.args.b c.loop-c.c c.if-output.line c.loop-c.plan (omega arith) c.loop-c.invariant
    (elim c.if-output.branch [
      | then-output u ↦ record { idle = λ z. u.line-is; busy = λ z. absurd (z (sym e ∙ u.if-output.true)) }
      | else-output u ↦ record { idle = λ z. absurd (u.if-output.false (e ∙ z)); busy = λ z. u.line-is ∙ u.inner.ensures ∙ ap (inner w h) e }
    ])

pub returns : goal.returns
returns g c =
    let w = g.F.OuterColumns.OUTER in
    let h = lines_at c.args.half.depth in
    let u : Halved w h h c.args.pairs.now c.args.first.now c.args.b c.loop-c.plan = λ d p. c.loop-c.invariant d (omega arith) in
    record { halved = u; pairable = pairable w h c.args.pairs.now c.args.first.now c.args.b c.loop-c.plan (omega (arith, lines_some c.args.half.depth)) c.requires.pairable u }
