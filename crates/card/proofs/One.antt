-- Of the rules that can be broken one is the first, so that there is one refusal.
use Rattle.std.proofs.Common.{◌≡◌, ℕ, ◌<◌, ◌≤◌, List, get_or, refl, ap, subst, ⊎_elim, arith}
use Rattle.std.proofs.lemmas.Bool.{cases_order}
use Rattle.card.specs.declared.fault.Cause.TheVariants.{NoOutput, OutputBusy}
use Rattle.card.specs.declared.fault.Layer.TheVariants.{Cabinet}
use Rattle.card.specs.declared.fault.Fault.{Fault}
use Rattle.card.specs.Faults.{fault}
use Rattle.card.specs.Meaning.{Meaning, Same}
use Rattle.card.specs.Plans.{Plannable, Unplannable, Fine, Taken}
use Rattle.card.specs.Settling.{none}

-- a card means the same as itself
pub same_self : (m : Meaning) → Same m m
same_self m = record { lines = refl; cells = refl; columns = refl; positions = λ c h. refl; places = λ l h i s j k. refl }

-- the lowest number that fails is one
pub lowest_one : (P : ℕ → Type 0) (i j : ℕ) → ((k : ℕ) → k < i → P k) → (P i → ⊥) → ((k : ℕ) → k < j → P k) → (P j → ⊥) → i ≡ j
lowest_one P i j below-i fails-i below-j fails-j = ⊎_elim (λ e. e) (⊎_elim (λ h. absurd (fails-i (below-j i h))) (λ h. absurd (fails-j (below-i j h)))) (cases_order i j)

module _ (n : ℕ) (ps : List ℕ) where
  high : (i : ℕ) → (get_or ps i none ≡ none → ⊥) → n ≤ get_or ps i none → Fine n ps i → ⊥
  high i busy h fine = ⊎_elim busy (λ p. omega (arith, p.0)) fine

  used : (i : ℕ) → (get_or ps i none ≡ none → ⊥) → Taken i ps (get_or ps i none) → Fine n ps i → ⊥
  used i busy t fine = ⊎_elim busy (λ p. p.1 t.by t.inside t.there) fine

module _ {S : Type 0} {n : ℕ} {ps : List ℕ} where
  -- pairs do not both keep and break the rules of plans
  pub plan_clash : {e : Fault} → Plannable S n ps → Unplannable S n ps e → ⊥
  plan_clash ok (Unplannable.wrong_length a) = a ok.sized
  plan_clash ok (Unplannable.no_output s i h below busy top) = high n ps i busy top (ok.fine i h)
  plan_clash ok (Unplannable.used_output s i h below busy low t) = used n ps i busy t (ok.fine i h)

  -- the first rule that they break is one
  pub plan_one : {e f : Fault} → Unplannable S n ps e → Unplannable S n ps f → f ≡ e
  plan_one (Unplannable.wrong_length a) (Unplannable.wrong_length b) = refl
  plan_one (Unplannable.wrong_length a) (Unplannable.no_output s i h below busy top) = absurd (a s)
  plan_one (Unplannable.wrong_length a) (Unplannable.used_output s i h below busy low t) = absurd (a s)
  plan_one (Unplannable.no_output s i h below busy top) (Unplannable.wrong_length b) = absurd (b s)
  plan_one (Unplannable.no_output s i h below busy top) (Unplannable.no_output s' j h' below' busy' top') = ap (λ (x : ℕ). fault NoOutput Cabinet x) (lowest_one (Fine n ps) j i below' (high n ps j busy' top') below (high n ps i busy top))
  plan_one (Unplannable.no_output s i h below busy top) (Unplannable.used_output s' j h' below' busy' low' t') =
      let z : i ≡ j = lowest_one (Fine n ps) i j below (high n ps i busy top) below' (used n ps j busy' t') in
      absurd (omega (arith, subst (λ (x : ℕ). n ≤ get_or ps x none) z top, low'))
  plan_one (Unplannable.used_output s i h below busy low t) (Unplannable.wrong_length b) = absurd (b s)
  plan_one (Unplannable.used_output s i h below busy low t) (Unplannable.no_output s' j h' below' busy' top') =
      let z : j ≡ i = lowest_one (Fine n ps) j i below' (high n ps j busy' top') below (used n ps i busy t) in
      absurd (omega (arith, subst (λ (x : ℕ). n ≤ get_or ps x none) z top', low))
  plan_one (Unplannable.used_output s i h below busy low t) (Unplannable.used_output s' j h' below' busy' low' t') = ap (λ (x : ℕ). fault OutputBusy Cabinet x) (lowest_one (Fine n ps) j i below' (used n ps j busy' t') below (used n ps i busy t))
