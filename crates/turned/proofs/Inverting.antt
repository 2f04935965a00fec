-- A plan turned over, input by input.
use Rattle.std.proofs.Common.{◌≡◌, ℕ, ◌+◌, ◌<◌, ◌≤◌, ◌⊎◌, List, length, get_or, set, replicate, sym, ap, ◌∙◌, subst, subst₂, inl, inr, ⊎_elim, arith, length-set}
use Rattle.std.proofs.lemmas.List.{get_or-set_same, get_or-set_other, length-replicate}
use Rattle.std.proofs.lemmas.Bool.{cases_lt, cases_eq}
use Rattle.card.specs.declared.fault.Fault.{Fault}
use Rattle.card.specs.Settling.{none}
use Rattle.card.specs.Plans.{Unpatchable}
use Rattle.card.proofs.Pairing.{blank}
use Rattle.turned.specs.TurnedOver.{TurnedOver}

-- the first k inputs of n are turned over, and no other
pub record Turning (n k : ℕ) (ps qs : List ℕ) : Type 0 where
  pub size : length qs ≡ n
  pub done : (i o : ℕ) → i < k → o < n → get_or ps i none ≡ o → get_or qs o none ≡ i
  pub made : (o : ℕ) → o < n → (get_or qs o none ≡ none) ⊎ ((get_or qs o none < k) × (get_or ps (get_or qs o none) none ≡ o))

pub turning_none : (n : ℕ) (ps qs : List ℕ) → qs ≡ replicate n none → Turning n 0 ps qs
turning_none n ps qs e = record { size = ap length e ∙ length-replicate n none; done = λ i o h. absurd (omega arith); made = λ o h. inl (ap (λ (l : List ℕ). get_or l o none) e ∙ blank n o) }

-- an idle input
pub turning_idle : (n k : ℕ) (ps qs : List ℕ) → n ≤ 16 → get_or ps k none ≡ none → Turning n k ps qs → Turning n (k + 1) ps qs
turning_idle n k ps qs few idle t =
    record {
      size = t.size;
      done = λ i o h l e.
          ⊎_elim
          (λ a. t.done i o a l e)
          (λ b. let z : k ≡ i = omega arith in absurd (omega (arith, ap (λ (x : ℕ). get_or ps x none) z)))
          (cases_lt i k);
      made = λ o h. ⊎_elim (λ e. inl e) (λ p. inr (omega (arith, p.0), p.1)) (t.made o h);
    }

-- a busy input k, whose output no other input has
module _ (n k : ℕ) (ps qs : List ℕ) (few : n ≤ 16) (inside : k < n) (low : get_or ps k none < n) (apart : (i j : ℕ) → i < n → j < n → (get_or ps i none ≡ none → ⊥) → get_or ps i none ≡ get_or ps j none → i ≡ j) (t : Turning n k ps qs) where
  -- no input before it has its output
  new : (i : ℕ) → i < k → get_or ps i none ≡ get_or ps k none → ⊥
  new i h e = omega (arith, apart k i inside (omega arith) (λ z. omega arith) (sym e))

  free : get_or qs (get_or ps k none) none ≡ none
  free = ⊎_elim (λ e. e) (λ p. absurd (new (get_or qs (get_or ps k none) none) p.0 p.1)) (t.made (get_or ps k none) low)

  patchable : (e : Fault) → Unpatchable n qs (get_or ps k none) k e → ⊥
  patchable e (Unpatchable.no_input h) = omega arith
  patchable e (Unpatchable.no_output h g) = omega arith
  patchable e (Unpatchable.busy_input h g busy) = busy free
  patchable e (Unpatchable.busy_output h g i u) = ⊎_elim (λ z. omega (arith, u.there)) (λ p. omega (arith, p.0, u.there)) (t.made u.by u.inside)

  turning_busy : Turning n (k + 1) ps (set qs (get_or ps k none) k)
  turning_busy = record { size = simp length-set t.size; done = done; made = made }
    where
      here : get_or (set qs (get_or ps k none) k) (get_or ps k none) none ≡ k
      here = get_or-set_same qs (get_or ps k none) k none (omega (arith, t.size))

      done : (i o : ℕ) → i < k + 1 → o < n → get_or ps i none ≡ o → get_or (set qs (get_or ps k none) k) o none ≡ i
      done i o h l e =
          ⊎_elim
          (λ a. get_or-set_other qs (get_or ps k none) o k none (λ z. new i a (e ∙ z)) ∙ t.done i o a l e)
          (λ b.
          let z : i ≡ k = omega arith in
          let y : o ≡ get_or ps k none = sym e ∙ ap (λ (x : ℕ). get_or ps x none) z in
          ap (λ (x : ℕ). get_or (set qs (get_or ps k none) k) x none) y ∙ here ∙ sym z)
          (cases_lt i k)

      made : (o : ℕ) → o < n → (get_or (set qs (get_or ps k none) k) o none ≡ none) ⊎ ((get_or (set qs (get_or ps k none) k) o none < k + 1) × (get_or ps (get_or (set qs (get_or ps k none) k) o none) none ≡ o))
      made o h =
          ⊎_elim
          (λ z.
          let y : get_or (set qs (get_or ps k none) k) o none ≡ k = ap (λ (x : ℕ). get_or (set qs (get_or ps k none) k) x none) z ∙ here in
          inr (omega arith, ap (λ (x : ℕ). get_or ps x none) y ∙ sym z))
          (λ ne.
          let y : get_or (set qs (get_or ps k none) k) o none ≡ get_or qs o none = get_or-set_other qs (get_or ps k none) o k none ne in
          ⊎_elim (λ e. inl (y ∙ e)) (λ p. inr (omega (arith, p.0), ap (λ (x : ℕ). get_or ps x none) y ∙ p.1)) (t.made o h))
          (cases_eq o (get_or ps k none))

  -- the same of an output, a count of lines and pairs that are known by equations
  pub never_refused : (lines output : ℕ) → lines ≡ n → output ≡ get_or ps k none → (e : Fault) → Unpatchable lines qs output k e → ⊥
  never_refused lines output same is e u = patchable e (subst₂ (λ (x y : ℕ). Unpatchable x qs y k e) same is u)

  pub turning_more : (output : ℕ) (after : List ℕ) → output ≡ get_or ps k none → after ≡ set qs output k → Turning n (k + 1) ps after
  turning_more output after is put = subst (λ (l : List ℕ). Turning n (k + 1) ps l) (sym (put ∙ ap (λ (x : ℕ). set qs x k) is)) turning_busy

-- all inputs turned over
pub turning_all : (n : ℕ) (ps qs : List ℕ) → n ≤ 16 → length ps ≡ n → Turning n n ps qs → TurnedOver ps qs
turning_all n ps qs few size t =
    record {
      size = t.size ∙ sym size;
      back = λ i o h l e. t.done i o (omega arith) (omega arith) e;
      forth = λ i o h l e.
          ⊎_elim
          (λ z. absurd (omega arith))
          (λ p. ap (λ (x : ℕ). get_or ps x none) (sym e) ∙ p.1)
          (t.made o (omega arith));
      idle = λ o h f. ⊎_elim (λ e. e) (λ p. absurd (f (get_or qs o none) (omega (arith, p.0)) p.1)) (t.made o (omega arith));
    }
