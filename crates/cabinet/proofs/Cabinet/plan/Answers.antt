use Rattle.std.proofs.Common.{◌≡◌, ℕ, ◌<◌, List, length, take, sym, refl, ap, ◌∙◌, subst, arith}
use Rattle.std.proofs.lemmas.Result.{err_from_is_err_and}
use Rattle.card.specs.declared.fault.Fault.{Fault}
use Rattle.card.specs.Meaning.{Meaning, Sound}
use Rattle.card.specs.Plans.{Lines, Plannable, Unplannable, Fine}
use Rattle.cabinet.specs.Orders.{Order}
use Rattle.cabinet.proofs.Calls.{order_broken, order_adopted}
use Rattle.cabinet.proofs.Cabinet.plan.Goals as goal

-- with as many pairs as the card has lines, the plan's own rules are the order's
module _ (m : Meaning) (sound : Sound m) (ps : List ℕ) (size : length ps ≡ m.lines) where
  lines : Lines (length ps)
  lines = record { some = omega (arith, sound.some_lines); few = omega (arith, sound.few_lines) }

  wrong : (e : Fault) → Unplannable (Lines (length ps)) (length ps) ps e → Unplannable (length ps ≡ m.lines) m.lines ps e
  wrong e (Unplannable.wrong_length ne) = absurd (ne lines)
  wrong e (Unplannable.no_output s i h before busy high) =
      Unplannable.no_output size i (omega arith) (subst (λ (n : ℕ). (j : ℕ) → j < i → Fine n ps j) size before) busy (omega arith)
  wrong e (Unplannable.used_output s i h before busy low t) =
      Unplannable.used_output size i (omega arith) (subst (λ (n : ℕ). (j : ℕ) → j < i → Fine n ps j) size before) busy (omega arith) t

  right : Plannable (Lines (length ps)) (length ps) ps → Plannable (length ps ≡ m.lines) m.lines ps
  right p = record { sized = size; fine = subst (λ (n : ℕ). (i : ℕ) → i < n → Fine n ps i) size p.fine }

pub returns-then-pairs-lines : goal.returns-then-pairs-lines
returns-then-pairs-lines g c = order_broken g.C.Card.meaning g.met.C.Card.sound c.args.self.now (Order.plan c.args.pairs.now) _ (λ r. Unplannable.wrong_length (λ z. c.if-pairs-lines.true (z ∙ sym c.lines.ensures)))

pub returns-in_err-fill : goal.returns-in_err-fill
returns-in_err-fill g c =
    let p = err_from_is_err_and c.from_residual.result c.from_residual.ensures.1 in
    rw (p.1, p.2)
    (order_broken g.C.Card.meaning g.met.C.Card.sound c.args.self.now (Order.plan c.args.pairs.now) c.in_err-fill.field-0.0
    (λ r. wrong (g.C.Card.meaning c.args.self.now.card) (g.met.C.Card.sound c.args.self.now.card) c.args.pairs.now (c.if-pairs-lines.false ∙ c.lines.ensures) c.in_err-fill.field-0.0 c.in_err-fill.ensures.0))

pub returns : goal.returns
returns g c =
    order_adopted g.C.Card.meaning g.met.C.Card.sound c.args.self.now (Order.plan c.args.pairs.now) (record { plan = c.fill.new.self; holds = c.args.self.now.state.holds; setting = c.args.self.now.state.setting })
    (ap (λ (x : List ℕ). record { pairs = x; holds = take (g.C.Card.meaning c.args.self.now.card).cells c.args.self.now.state.holds }) c.in_ok-fill.ensures.1)
    (λ r. right (g.C.Card.meaning c.args.self.now.card) (g.met.C.Card.sound c.args.self.now.card) c.args.pairs.now (c.if-pairs-lines.false ∙ c.lines.ensures) c.in_ok-fill.ensures.0)
    refl _ _ (λ e. refl) c.adopt.ensures
