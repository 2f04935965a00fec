-- What the calls of a cabinet have in common.
use Rattle.std.proofs.Common.{◌≡◌, ℕ, ◌+◌, ◌<◌, List, length, get_or, take, set, Ok, Err, Result, MatchResult, IsErrAnd, sym, refl, ap, ◌∙◌, subst, ⊎_elim, arith}
use Rattle.std.proofs.lemmas.List.{get_or-set_same, get_or-set_other, get_or-take, get_or_default}
use Rattle.std.proofs.lemmas.Bool.{cases_eq}
use Rattle.card.specs.declared.fault.Fault.{Fault}
use Rattle.card.specs.Meaning.{Meaning, Sound}
use Rattle.card.specs.Settling.{none}
use Rattle.cabinet.specs.declared.State.{State}
use Rattle.cabinet.specs.declared.Cabinet.{Cabinet}
use Rattle.cabinet.specs.Orders.{Order, wanted, Clear, Broken}
use Rattle.cabinet.specs.Logs.{Standing, placed}
use Rattle.cabinet.specs.States.{standing, Adopted, Ordered, Ready}
use Rattle.cabinet.proofs.Steady.{broken, done, unsettled}

-- what holds of each element below an index still does with one more written
pub written : {P : Type 0} (xs : List P) (i : ℕ) (v d : P) (Q : ℕ → P → Type 0) → i < length xs → ((o : ℕ) → o < i → Q o (get_or xs o d)) → Q i v → (o : ℕ) → o < i + 1 → Q o (get_or (set xs i v) o d)
written xs i v d Q inside old new o h =
    ⊎_elim
    (λ e. subst (λ (k : ℕ). Q k (get_or (set xs i v) k d)) (sym e) (rw (get_or-set_same xs i v d inside) new))
    (λ ne. rw (get_or-set_other xs i o v d ne) (old o (omega arith)))
    (cases_eq o i)

-- a cell's hold, as the code reads it
pub held_at : (xs : List ℕ) (c n : ℕ) → length (take n xs) ≡ n → c < n → get_or xs c 0 ≡ get_or (take n xs) c none
held_at xs c n size h = sym (get_or-take n xs c 0 h) ∙ get_or_default (take n xs) c 0 none (omega arith)

module _ {C : Type 0} (meaning : C → Meaning) (sound : (c : C) → Sound (meaning c)) (b : Cabinet C) (o : Order) where
  -- the card's meaning, and what stands, before the call
  abbrev pub means : Meaning
  means = meaning b.card

  abbrev pub stood : Standing
  stood = standing means b.state

  pub order_broken : (e : Fault) → (Ready means stood → Broken means stood.force o e) → Ordered meaning b o (Err e) b
  order_broken e why = record { card = refl; unchanged = refl; log = broken means (sound b.card) stood o e why }

  module _ (next : State) (force : (standing means next).force ≡ wanted o stood.force) (clear : Ready means stood → Clear means stood.force o) (setting : next.setting ≡ b.state.setting) where
    same_setting : (standing means next).setting ≡ stood.setting
    same_setting = ap (λ (l : List ℕ). take means.cells l) setting

    -- the state taken over, with the card's refusal as it is
    pub order_adopted : (r : Result ℕ Fault) (a : Cabinet C) → ((e : Fault) → e ≡ placed o e) → Adopted meaning b next r a → Ordered meaning b o r a
    order_adopted (Ok n) a plain w = record { card = w.0; unchanged = tt; log = done means (sound b.card) stood (standing means next) o force clear same_setting (standing means a.state) n w.1 }
    order_adopted (Err e) a plain w = record { card = ap (λ (x : Cabinet C). x.card) w.0; unchanged = w.0; log = rw w.0 (unsettled means (sound b.card) stood (standing means next) o force clear same_setting e e (plain e) w.1) }

    -- the same, with the place in the card's refusal replaced
    pub order_placed : (r t : Result ℕ Fault) (a : Cabinet C) (Says : Fault → Fault → Type 0) → ((e d : Fault) → Says e d → d ≡ placed o e) → Adopted meaning b next r a → MatchResult r (λ n. t ≡ Ok n) (λ e. IsErrAnd t (Says e)) → Ordered meaning b o t a
    order_placed (Ok n) t a Says says w e = rw e (record { card = w.0; unchanged = tt; log = done means (sound b.card) stood (standing means next) o force clear same_setting (standing means a.state) n w.1 })
    order_placed (Err e) (Ok n) a Says says w h = absurd h
    order_placed (Err e) (Err d) a Says says w h = record { card = ap (λ (x : Cabinet C). x.card) w.0; unchanged = w.0; log = rw w.0 (unsettled means (sound b.card) stood (standing means next) o force clear same_setting d e (says e d h) w.1) }
