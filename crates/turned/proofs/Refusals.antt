-- Calls that cannot be refused.
use Rattle.std.proofs.Common.{◌≡◌, ℕ, true, List, set, is_ok, Ok, Err, Result, refl, subst, arith}
use Rattle.card.specs.declared.fault.Fault.{Fault}
use Rattle.card.specs.declared.plan.Plan.{Plan}
use Rattle.card.specs.Meaning.{Meaning}
use Rattle.card.specs.Placing.{Placeable, Unplaceable, Placed}
use Rattle.card.specs.Plans.{Lines, Idle, NotIdle, Patched, Unpatchable}

-- the column sheet, where it may be asked
module _ (m : Meaning) (l : List ℕ) (i s : ℕ) where
  pub unrefused : (e : Fault) → Placeable m l i s → Unplaceable m l i s e → ⊥
  unrefused e ok (Unplaceable.wrong_length ne) = ne ok.lawful.size
  unrefused e ok (Unplaceable.wrong_position size c mis) = omega (arith, mis.outside, ok.lawful.below c mis.inside)
  unrefused e ok (Unplaceable.no_input w h) = omega (arith, ok.input)
  unrefused e ok (Unplaceable.too_far w h k) = omega (arith, ok.reached)

  pub placed_ok : (r : Result ℕ Fault) → Placeable m l i s → Placed m l i s r → is_ok r ≡ true
  placed_ok (Ok p) ok h = refl
  placed_ok (Err e) ok h = absurd (unrefused e ok h)

  pub placed_is : (r : Result ℕ Fault) (p : ℕ) → r ≡ Ok p → Placed m l i s r → p ≡ m.place l i s
  placed_is r p e h = (subst (λ (x : Result ℕ Fault). Placed m l i s x) e h).1

-- an idle plan of as many lines as a plan can have
abbrev pub Idled : ℕ → Result Plan Fault → Type 0
Idled n r = elim r [ Ok p ↦ Idle n p.lines p.outputs | Err e ↦ NotIdle n e ]

pub idled_ok : (n : ℕ) (r : Result Plan Fault) → Lines n → Idled n r → is_ok r ≡ true
idled_ok n (Ok p) ok h = refl
idled_ok n (Err e) ok h = absurd (h.count ok)

pub idled_is : (n : ℕ) (r : Result Plan Fault) (p : Plan) → r ≡ Ok p → Idled n r → Idle n p.lines p.outputs
idled_is n r p e h = subst (λ (x : Result Plan Fault). Idled n x) e h

-- a patch that breaks no rule
module _ (n : ℕ) (before after : List ℕ) (i o : ℕ) where
  pub patched_ok : (r : Result (Unit {0}) Fault) → ((e : Fault) → Unpatchable n before i o e → ⊥) → Patched n before after i o r → is_ok r ≡ true
  patched_ok (Ok x) ok h = refl
  patched_ok (Err e) ok h = absurd (ok e h.0)

  pub patched_is : (r : Result (Unit {0}) Fault) (u : Unit {0}) → r ≡ Ok u → Patched n before after i o r → after ≡ set before i o
  patched_is r u e h = (subst (λ (x : Result (Unit {0}) Fault). Patched n before after i o x) e h).1
