-- Settling on a turned card is settling the plan turned over on the card beneath.
use Rattle.std.proofs.Common.{◌≡◌, ℕ, ◌<◌, List, length, get_or, Ok, Err, Result, sym, refl, ap, ◌∙◌, arith}
use Rattle.card.specs.declared.fault.Fault.{Fault}
use Rattle.card.specs.Meaning.{Meaning, Lawful, Sound}
use Rattle.card.specs.Settling.{none, Carries, Fits, First, Unfit, Sized, Settleable, Unsettleable, Refusal, Settled}
use Rattle.card.specs.Plans.{PlanLaw, paired}
use Rattle.card.proofs.Pairing.{law_size, law_below}
use Rattle.turned.specs.Turning.{source, turned_meaning}
use Rattle.turned.specs.TurnedOver.{TurnedOver, CarriedAlike}
use Rattle.turned.specs.Sources.{sourced}
use Rattle.turned.specs.Soundness.{lawful_beneath, lawful_turned, place_end}

-- every busy input has an output that there is
abbrev pub Low : List ℕ → Type 0
Low ps = (i : ℕ) → i < length ps → (get_or ps i none ≡ none → ⊥) → get_or ps i none < length ps

pub plan_low : {n : ℕ} {xs : List ℕ} → ∥ PlanLaw n xs ∥₁ → Low (paired n xs)
plan_low {n = n} {xs = xs} law i h busy = let size : length (paired n xs) ≡ n = law_size law in omega (arith, law_below law i (omega arith) busy)

module _ (m : Meaning) (ok : Sound m) (ps qs : List ℕ) (over : TurnedOver ps qs) (low : Low ps) (low-over : Low qs) (size : length ps ≡ m.lines) where
  pub carries_beneath : (l : List ℕ) → Lawful m l → Carries (turned_meaning m) ps l → Carries m qs l
  carries_beneath l w f o h busy =
      let k : get_or qs o none < length ps = omega (arith, over.size, low-over o (omega (arith, over.size)) busy) in
      let e : get_or ps (get_or qs o none) none ≡ o = over.forth (get_or qs o none) o k (omega arith) refl in
      let t = sourced m ok l w (get_or qs o none) (omega arith) in
      let z : source m l (get_or qs o none) ≡ o = sym (place_end m ok l w (get_or qs o none) (omega arith)) ∙ f (get_or qs o none) (omega arith) (λ y. omega (arith, ok.few_lines)) ∙ e in
      ap (λ (x : ℕ). m.place l x m.columns) (sym z) ∙ t.there

  pub carries_turned : (l : List ℕ) → Lawful m l → Carries m qs l → Carries (turned_meaning m) ps l
  carries_turned l w f i h busy =
      let k : get_or ps i none < length ps = low i (omega arith) busy in
      let e : get_or qs (get_or ps i none) none ≡ i = over.back i (get_or ps i none) (omega arith) k refl in
      let t = sourced m ok l w i h in
      let z : m.place l (get_or ps i none) m.columns ≡ i = f (get_or ps i none) (omega arith) (λ y. omega (arith, ok.few_lines)) ∙ e in
      place_end m ok l w i h ∙ sym (t.only (get_or ps i none) (omega arith) z)

  pub fits_beneath : (holds l : List ℕ) → Fits (turned_meaning m) ps holds l → Fits m qs holds l
  fits_beneath holds l f = record { lawful = lawful_beneath m l f.lawful; carries = carries_beneath l (lawful_beneath m l f.lawful) f.carries; keeps = f.keeps }

  pub fits_turned : (holds l : List ℕ) → Fits m qs holds l → Fits (turned_meaning m) ps holds l
  fits_turned holds l f = record { lawful = lawful_turned m l f.lawful; carries = carries_turned l f.lawful f.carries; keeps = f.keeps }

  pub first_turned : (holds l : List ℕ) → First m qs holds l → First (turned_meaning m) ps holds l
  first_turned holds l f = record { fits = fits_turned holds l f.fits; first = λ k g. f.first k (fits_beneath holds k g) }

  pub unfit_turned : (holds : List ℕ) → Unfit m qs holds → Unfit (turned_meaning m) ps holds
  unfit_turned holds u l f = u l (fits_beneath holds l f)

pub carried_alike : (ps qs : List ℕ) → TurnedOver ps qs → Low ps → Low qs → CarriedAlike ps qs
carried_alike ps qs over low low-over m ok size l w =
    (carries_beneath m ok ps qs over low low-over (sym size) l w, carries_turned m ok ps qs over low low-over (sym size) l w)

-- what is asked before, and why it is refused
module _ (m : Meaning) (ps qs holds buffer : List ℕ) (over : TurnedOver ps qs) where
  pub sized_turned : Sized m qs holds buffer → Sized (turned_meaning m) ps holds buffer
  sized_turned s = record { pairs_size = sym over.size ∙ s.pairs_size; holds_size = s.holds_size; buffer_size = s.buffer_size }

  pub sized_beneath : Sized (turned_meaning m) ps holds buffer → Sized m qs holds buffer
  sized_beneath s = record { pairs_size = over.size ∙ s.pairs_size; holds_size = s.holds_size; buffer_size = s.buffer_size }

  pub settleable_turned : Settleable m qs holds buffer → Settleable (turned_meaning m) ps holds buffer
  settleable_turned a = record { sized = sized_turned a.sized; holdable = a.holdable }

  pub unsettleable_turned : (e : Fault) → Unsettleable m qs holds buffer e → Unsettleable (turned_meaning m) ps holds buffer e
  unsettleable_turned e (Unsettleable.wrong_length ne) = Unsettleable.wrong_length (λ s. ne (sized_beneath s))
  unsettleable_turned e (Unsettleable.wrong_hold s c mis) = Unsettleable.wrong_hold (sized_turned s) c (record { inside = mis.inside; outside = mis.outside; lowest = mis.lowest })

module _ (m : Meaning) (ok : Sound m) (ps qs holds before after : List ℕ) (over : TurnedOver ps qs) (low : Low ps) (low-over : Low qs) where
  pub refusal_turned : (e : Fault) → Refusal m qs holds before e → Refusal (turned_meaning m) ps holds before e
  refusal_turned e (Refusal.broken u) = Refusal.broken (unsettleable_turned m ps qs holds before over e u)
  refusal_turned e (Refusal.no_setting a u) = Refusal.no_setting (settleable_turned m ps qs holds before over a) (unfit_turned m ok ps qs over low low-over (sym over.size ∙ a.sized.pairs_size) holds u)

  pub settled_turned : (r : Result (Unit {0}) Fault) → Settled m qs holds before after r → Settled (turned_meaning m) ps holds before after r
  settled_turned (Ok x) s = (settleable_turned m ps qs holds before over s.0, first_turned m ok ps qs over low low-over (sym over.size ∙ s.0.sized.pairs_size) holds after s.1)
  settled_turned (Err e) s = (refusal_turned e s.0, s.1)
