-- After a log each order and each carry has one answer, and leaves one standing setting.
use Rattle.std.proofs.Common.{◌≡◌, ℕ, List, ◌∷◌, Ok, Err, Result, sym, refl, ap, ◌∙◌, subst, arith}
use Rattle.card.specs.declared.fault.Fault.{Fault}
use Rattle.card.specs.Meaning.{Meaning, Sound}
use Rattle.card.specs.Plans.{Unpatchable, Undroppable}
use Rattle.card.proofs.Firsts.{first_same}
use Rattle.card.proofs.One.{same_self, plan_one}
use Rattle.cabinet.specs.Orders.{Order, Force, Row, wanted, in_force, Broken, UnholdableAt, Unreleasable}
use Rattle.cabinet.specs.Logs.{Standing, placed, Call, Done, Refused, Log, moved}
use Rattle.cabinet.proofs.Steady.{Steady, steady, modest, clash, answered_unfit, same_routes}

-- two standings with the same parts
same_standing : (s t : Standing) → t.force ≡ s.force → t.setting ≡ s.setting → t ≡ s
same_standing s t p q = λ i. record { force = p i; setting = q i }

-- one standing setting goes with a log
pub one_standing : (m : Meaning) → Sound m → (rows : List Row) (s t : Standing) → Log m rows s → Log m rows t → t ≡ s
one_standing m sound rows s t log other =
    let a : Steady m (in_force rows) s = steady m (modest m sound) rows s log in
    let b : Steady m (in_force rows) t = steady m (modest m sound) rows t other in
    same_standing s t (b.force ∙ sym a.force) (first_same m m (in_force rows).pairs (in_force rows).holds s.setting t.setting (same_self m) a.first b.first)

-- the first rule that an order breaks is one
patch_one : {n : ℕ} {ps : List ℕ} {i o : ℕ} {d e : Fault} → Unpatchable n ps i o d → Unpatchable n ps i o e → e ≡ d
patch_one (Unpatchable.no_input h) (Unpatchable.no_input h') = refl
patch_one (Unpatchable.no_input h) (Unpatchable.no_output k l) = absurd (omega (arith, h, k))
patch_one (Unpatchable.no_input h) (Unpatchable.busy_input k l ne) = absurd (omega (arith, h, k))
patch_one (Unpatchable.no_input h) (Unpatchable.busy_output k l e t) = absurd (omega (arith, h, k))
patch_one (Unpatchable.no_output k l) (Unpatchable.no_input h) = absurd (omega (arith, h, k))
patch_one (Unpatchable.no_output h k) (Unpatchable.no_output h' k') = refl
patch_one (Unpatchable.no_output h k) (Unpatchable.busy_input h' l ne) = absurd (omega (arith, k, l))
patch_one (Unpatchable.no_output h k) (Unpatchable.busy_output h' l e t) = absurd (omega (arith, k, l))
patch_one (Unpatchable.busy_input k l ne) (Unpatchable.no_input h) = absurd (omega (arith, h, k))
patch_one (Unpatchable.busy_input h' l ne) (Unpatchable.no_output h k) = absurd (omega (arith, k, l))
patch_one (Unpatchable.busy_input h k ne) (Unpatchable.busy_input h' k' ne') = refl
patch_one (Unpatchable.busy_input h k ne) (Unpatchable.busy_output h' k' e t) = absurd (ne e)
patch_one (Unpatchable.busy_output k l e t) (Unpatchable.no_input h) = absurd (omega (arith, h, k))
patch_one (Unpatchable.busy_output h' l e t) (Unpatchable.no_output h k) = absurd (omega (arith, k, l))
patch_one (Unpatchable.busy_output h k e t) (Unpatchable.busy_input h' k' ne) = absurd (ne e)
patch_one (Unpatchable.busy_output h k e t) (Unpatchable.busy_output h' k' e' t') = refl

drop_one : {n : ℕ} {ps : List ℕ} {i : ℕ} {d e : Fault} → Undroppable n ps i d → Undroppable n ps i e → e ≡ d
drop_one (Undroppable.no_input h) (Undroppable.no_input h') = refl
drop_one (Undroppable.no_input h) (Undroppable.idle_input k e) = absurd (omega (arith, h, k))
drop_one (Undroppable.idle_input k e) (Undroppable.no_input h) = absurd (omega (arith, h, k))
drop_one (Undroppable.idle_input h e) (Undroppable.idle_input h' e') = refl

hold_one : {m : Meaning} {holds : List ℕ} {c p : ℕ} {d e : Fault} → UnholdableAt m holds c p d → UnholdableAt m holds c p e → e ≡ d
hold_one (UnholdableAt.no_cell h) (UnholdableAt.no_cell h') = refl
hold_one (UnholdableAt.no_cell h) (UnholdableAt.no_position k l) = absurd (omega (arith, h, k))
hold_one (UnholdableAt.no_cell h) (UnholdableAt.held k l ne) = absurd (omega (arith, h, k))
hold_one (UnholdableAt.no_position k l) (UnholdableAt.no_cell h) = absurd (omega (arith, h, k))
hold_one (UnholdableAt.no_position h k) (UnholdableAt.no_position h' k') = refl
hold_one (UnholdableAt.no_position h k) (UnholdableAt.held h' l ne) = absurd (omega (arith, k, l))
hold_one (UnholdableAt.held k l ne) (UnholdableAt.no_cell h) = absurd (omega (arith, h, k))
hold_one (UnholdableAt.held h' l ne) (UnholdableAt.no_position h k) = absurd (omega (arith, k, l))
hold_one (UnholdableAt.held h k ne) (UnholdableAt.held h' k' ne') = refl

release_one : {m : Meaning} {holds : List ℕ} {c : ℕ} {d e : Fault} → Unreleasable m holds c d → Unreleasable m holds c e → e ≡ d
release_one (Unreleasable.no_cell h) (Unreleasable.no_cell h') = refl
release_one (Unreleasable.no_cell h) (Unreleasable.not_held k e) = absurd (omega (arith, h, k))
release_one (Unreleasable.not_held k e) (Unreleasable.no_cell h) = absurd (omega (arith, h, k))
release_one (Unreleasable.not_held h e) (Unreleasable.not_held h' e') = refl

broken_one : (m : Meaning) (f : Force) (o : Order) (d e : Fault) → Broken m f o d → Broken m f o e → e ≡ d
broken_one m f (Order.plan ps) d e p q = plan_one p q
broken_one m f (Order.patch i o) d e p q = patch_one p q
broken_one m f (Order.drop i) d e p q = drop_one p q
broken_one m f (Order.hold c p) d e q r = hold_one q r
broken_one m f (Order.release c) d e p q = release_one p q

module _ (m : Meaning) (s : Standing) (f : Force) (st : Steady m f s) (o : Order) where
  refused_one : (d e : Fault) → Refused m s o d → Refused m s o e → e ≡ d
  refused_one d e (Refused.broken b) (Refused.broken b') = broken_one m s.force o d e b b'
  refused_one d e (Refused.broken b) (Refused.unsettled k x h q) = absurd (clash m s.force o d k b)
  refused_one d e (Refused.unsettled k x h q) (Refused.broken b) = absurd (clash m s.force o e k b)
  refused_one d e (Refused.unsettled k x h q) (Refused.unsettled k' x' h' q') =
      q' ∙ ap (placed o) ((answered_unfit m o s f st k' x' s.setting h').1 ∙ sym (answered_unfit m o s f st k x s.setting h).1) ∙ sym q

  not_both : (n : ℕ) (t : Standing) (e : Fault) → Done m s o n t → Refused m s o e → ⊥
  not_both n t e d (Refused.broken b) = clash m s.force o e d.clear b
  not_both n t e d (Refused.unsettled k x h q) = (answered_unfit m o s f st k x s.setting h).0 t.setting d.settled.1.fits

  -- what an order answers and leaves
  call_one : (a b : Result ℕ Fault) (t u : Standing) → Call m s o a t → Call m s o b u → (b ≡ a) × (u ≡ t)
  call_one (Ok n) (Ok k) t u d d' =
      let same : u.setting ≡ t.setting = first_same m m (wanted o s.force).pairs (wanted o s.force).holds t.setting u.setting (same_self m) d.settled.1 d'.settled.1 in
      let count : k ≡ n = d'.count ∙ ap (λ (l : List ℕ). moved m.cells s.setting l) same ∙ sym d.count in
      (ap (λ (x : ℕ). Ok x) count, same_standing t u (d'.force ∙ sym d.force) same)
  call_one (Ok n) (Err e) t u d r = absurd (not_both n t e d r.0)
  call_one (Err e) (Ok n) t u r d = absurd (not_both n u e d r.0)
  call_one (Err d) (Err e) t u r q = (ap (λ (x : Fault). Err x) (refused_one d e r.0 q.0), q.1 ∙ sym r.1)

-- after a log, an order has one answer and leaves one standing
pub ordered_one : (m : Meaning) → Sound m → (rows : List Row) (o : Order) (a b : Result ℕ Fault) (t u : Standing) → Log m (Row.ordered o a ∷ rows) t → Log m (Row.ordered o b ∷ rows) u → (b ≡ a) × (u ≡ t)
ordered_one m sound rows o a b t u log other =
    let s : Standing = log.0 in
    call_one m log.0 (in_force rows) (steady m (modest m sound) rows log.0 log.1) o a b t u log.2
    (subst (λ (x : Standing). Call m x o b u) (one_standing m sound rows log.0 other.0 log.1 other.1) other.2)

-- and a carry of as many payloads and outputs as there are lines goes one way
pub carried_one : (m : Meaning) → Sound m → (rows : List Row) (q r : Result (List ℕ) Fault) (t u : Standing) → Log m (Row.carried m.lines m.lines q ∷ rows) t → Log m (Row.carried m.lines m.lines r ∷ rows) u → (r ≡ q) × (u ≡ t)
carried_one m sound rows (Ok here) (Ok there) t u log other = (
  ap (λ (x : List ℕ). Ok x) (same_routes m sound rows log.0 log.1 m (same_self m) rows other.0 other.1 refl there here other.2.1 log.2.1),
  other.2.2 ∙ one_standing m sound rows log.0 other.0 log.1 other.1 ∙ sym log.2.2,
)
carried_one m sound rows (Ok here) (Err e) t u log other = absurd (other.2.0 log.2.0)
carried_one m sound rows (Err e) (Ok there) t u log other = absurd (log.2.0 other.2.0)
carried_one m sound rows (Err d) (Err e) t u log other = absurd (log.2.0 (record { given = refl; filled = refl }))
