-- A card back to front keeps the rules of every card, and turned once more it means what it meant.
use Rattle.std.specs.Prelude.{◌≡◌, ℕ, ◌-◌, ◌<◌, ◌≤◌, List, refl}
use Rattle.std.proofs.Common.{sym, ◌∙◌, ap, arith}
use Rattle.card.specs.Meaning.{Meaning, Lawful, Sound, Same}
use Rattle.turned.specs.Turning.{source, turned_meaning, BackToFront}
use Rattle.turned.specs.Sources.{sourced}

-- the settings are the same
pub lawful_beneath : (m : Meaning) (l : List ℕ) → Lawful (turned_meaning m) l → Lawful m l
lawful_beneath m l w = record { size = w.size; below = w.below }

pub lawful_turned : (m : Meaning) (l : List ℕ) → Lawful m l → Lawful (turned_meaning m) l
lawful_turned m l w = record { size = w.size; below = w.below }

module _ (m : Meaning) (ok : Sound m) (l : List ℕ) (w : Lawful m l) where
  pub place_start : (p : ℕ) → p < m.lines → (turned_meaning m).place l p 0 ≡ p
  place_start p h = let z : m.columns - 0 ≡ m.columns = omega arith in ap (λ s. m.place l (source m l p) s) z ∙ (sourced m ok l w p h).there

  -- a line that enters at p ends at its source
  pub place_end : (p : ℕ) → p < m.lines → (turned_meaning m).place l p m.columns ≡ source m l p
  place_end p h =
      let z : m.columns - m.columns ≡ 0 = omega arith in
      ap (λ s. m.place l (source m l p) s) z ∙ ok.start l w (source m l p) (sourced m ok l w p h).inside

  pub place_within : (p s : ℕ) → p < m.lines → s ≤ m.columns → (turned_meaning m).place l p s < m.lines
  place_within p s h k = ok.within l w (source m l p) (m.columns - s) (sourced m ok l w p h).inside (omega arith)

  pub place_apart : (p q s : ℕ) → p < m.lines → q < m.lines → s ≤ m.columns → (turned_meaning m).place l p s ≡ (turned_meaning m).place l q s → p ≡ q
  place_apart p q s h k t e =
      let a = sourced m ok l w p h in
      let b = sourced m ok l w q k in
      let z : source m l p ≡ source m l q = ok.apart l w (source m l p) (source m l q) (m.columns - s) a.inside b.inside (omega arith) e in
      sym a.there ∙ ap (λ i. m.place l i m.columns) z ∙ b.there

pub turned_sound : (m : Meaning) → Sound m → Sound (turned_meaning m)
turned_sound m ok =
    record {
      some_lines = ok.some_lines;
      few_lines = ok.few_lines;
      some_cells = ok.some_cells;
      few_cells = ok.few_cells;
      some_columns = ok.some_columns;
      few_columns = ok.few_columns;
      some_positions = ok.some_positions;
      few_positions = ok.few_positions;
      start = λ l w i h. place_start m ok l (lawful_beneath m l w) i h;
      within = λ l w i s h t. place_within m ok l (lawful_beneath m l w) i s h t;
      apart = λ l w i j s h k t e. place_apart m ok l (lawful_beneath m l w) i j s h k t e;
    }

-- the definition in the words of the rule
pub back_to_front : (m : Meaning) → Sound m → BackToFront m (turned_meaning m)
back_to_front m ok =
    record {
      lines = refl;
      cells = refl;
      columns = refl;
      positions = λ c h. refl;
      places = λ l w p s i h t k e. ap (λ j. m.place l j (m.columns - s)) (sym ((sourced m ok l w p h).only i k e));
    }

pub turned_twice : (m : Meaning) → Sound m → Same m (turned_meaning (turned_meaning m))
turned_twice m ok = record { lines = refl; cells = refl; columns = refl; positions = λ c h. refl; places = places }
  where
    places : (l : List ℕ) → Lawful m l → (i s : ℕ) → i < m.lines → s ≤ m.columns → m.place l i s ≡ (turned_meaning (turned_meaning m)).place l i s
    places l w i s h t =
        let over = sourced (turned_meaning m) (turned_sound m ok) l (lawful_turned m l w) i h in
        let e : source m l (source (turned_meaning m) l i) ≡ i = sym (place_end m ok l w (source (turned_meaning m) l i) over.inside) ∙ over.there in
        let z : m.columns - (m.columns - s) ≡ s = omega arith in
        sym (ap (λ (x : ℕ). m.place l x (m.columns - (m.columns - s))) e ∙ ap (λ (x : ℕ). m.place l i x) z)
