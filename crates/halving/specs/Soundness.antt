-- A halving card keeps the rules of every card.
use Rattle.std.specs.Prelude.{◌≡◌, ℕ, zero, suc, ◌+◌, ◌*◌, ◌/◌, ◌%◌, ◌<◌, ◌≤◌, List, slice_index}
use Rattle.std.proofs.Math.Path.{sym}
use Rattle.std.proofs.Common.{◌∙◌, ap, subst, inl, inr}
use native.Mathlib.Omega.{arith}
use Rattle.std.proofs.Math.Decide.{dec_le}
use Rattle.std.proofs.Math.Arith.{digits_div, digits_mod}
use Rattle.card.specs.Meaning.{Lawful, Sound}
use Rattle.halving.specs.Halving.{lines_at, columns_at, half, side, leave, place, halving, benes, baseline, OneOrTwo}
use Rattle.halving.specs.Counts.{lines_some, cells_some, columns_some, lines_few, cells_few, columns_few, bit_cases, half_lawful, side_below}
use Rattle.halving.specs.Steps.{place_start, place_inside, place_past}

-- a place is a half and a line of it
split_place : (h b x c y : ℕ) → x < h → y < h → b * h + x ≡ c * h + y → (b ≡ c) × (x ≡ y)
split_place h b x c y p q e =
    (sym (digits_div b p) ∙ ap (λ n. n / h) e ∙ digits_div c q, sym (digits_mod b p) ∙ ap (λ n. n % h) e ∙ digits_mod c q)

place_below : (h b x : ℕ) → b < 2 → x < h → b * h + x < 2 * h
place_below h b x p q = elim (bit_cases b p) [ inl e ↦ rw e (omega arith) | inr e ↦ rw e (omega arith) ]

-- inputs that enter one line of one half are one
same_input : (l : List ℕ) (i j : ℕ) → i / 2 ≡ j / 2 → side l i ≡ side l j → i ≡ j
same_input l i j e f = let g : (slice_index l (j / 2) + i % 2) % 2 ≡ (slice_index l (j / 2) + j % 2) % 2 = rw e at f in omega arith

-- lines of one number that leave at one output come from one half
same_side : (k : ℕ) (l : List ℕ) (b c x y : ℕ) → x ≡ y → b < 2 → c < 2 → leave k l b x ≡ leave k l c y → b ≡ c
same_side k l b c x y e p q f = let g : leave k l b y ≡ leave k l c y = rw e at f in omega arith

module _ (w : ℕ) where
  pub within : (k : ℕ) (l : List ℕ) → Lawful (halving w k) l → (i s : ℕ) → i < lines_at k → s ≤ columns_at w k → place w k l i s < lines_at k
  unfolding place
  within zero l u i zero p q = p
  within zero l u i (suc s) p q = omega arith
  within (suc k) l u i zero p q = p
  within (suc k) l u i (suc s) p q =
      let b = side l i in
      let lt : i / 2 < lines_at k = omega arith in
      let v = half_lawful w k b l (side_below l i) u in
      elim (dec_le s (columns_at w k)) [
        | yes le ↦ rw (place_inside w k l i s le) (place_below (lines_at k) b _ (side_below l i) (within k (half w k b l) v (i / 2) s lt le))
        | no gt ↦
            rw (place_past w k l i s (omega arith))
            (let x : place w k (half w k b l) (i / 2) (columns_at w k) < lines_at k = within k (half w k b l) v (i / 2) (columns_at w k) lt (omega arith) in omega arith)
      ]

  -- two inputs that stand at one line of one half
  same_inside : (k : ℕ) (l : List ℕ) → Lawful (halving w (suc k)) l
      → ((v : List ℕ) → Lawful (halving w k) v → (i j s : ℕ) → i < lines_at k → j < lines_at k → s ≤ columns_at w k → place w k v i s ≡ place w k v j s → i ≡ j)
      → (i j s : ℕ) → i < lines_at (suc k) → j < lines_at (suc k) → s ≤ columns_at w k → side l i ≡ side l j
      → place w k (half w k (side l i) l) (i / 2) s ≡ place w k (half w k (side l j) l) (j / 2) s → i ≡ j
  same_inside k l u ih i j s p q r e f =
      let g : place w k (half w k (side l i) l) (i / 2) s ≡ place w k (half w k (side l i) l) (j / 2) s = subst (λ (b : ℕ). place w k (half w k (side l i) l) (i / 2) s ≡ place w k (half w k b l) (j / 2) s) (sym e) f in
      same_input l i j (ih (half w k (side l i) l) (half_lawful w k (side l i) l (side_below l i) u) (i / 2) (j / 2) s (omega arith) (omega arith) r g) e

  pub apart : (k : ℕ) (l : List ℕ) → Lawful (halving w k) l → (i j s : ℕ) → i < lines_at k → j < lines_at k → s ≤ columns_at w k → place w k l i s ≡ place w k l j s → i ≡ j
  unfolding place
  apart zero l u i j zero p q r e = e
  apart zero l u i j (suc s) p q r e = omega arith
  apart (suc k) l u i j zero p q r e = e
  apart (suc k) l u i j (suc s) p q r e =
      let vi = half_lawful w k (side l i) l (side_below l i) u in
      let vj = half_lawful w k (side l j) l (side_below l j) u in
      elim (dec_le s (columns_at w k)) [
        | yes le ↦
            let f = split_place (lines_at k) (side l i) (place w k (half w k (side l i) l) (i / 2) s) (side l j) (place w k (half w k (side l j) l) (j / 2) s)
            (within k _ vi (i / 2) s (omega arith) le) (within k _ vj (j / 2) s (omega arith) le)
            (sym (place_inside w k l i s le) ∙ e ∙ place_inside w k l j s le) in
            same_inside k l u (apart k) i j s p q le f.0 f.1
        | no gt ↦
            let f : leave k l (side l i) (place w k (half w k (side l i) l) (i / 2) (columns_at w k)) ≡ leave k l (side l j) (place w k (half w k (side l j) l) (j / 2) (columns_at w k)) = sym (place_past w k l i s (omega arith)) ∙ e ∙ place_past w k l j s (omega arith) in
            let x : place w k (half w k (side l i) l) (i / 2) (columns_at w k) ≡ place w k (half w k (side l j) l) (j / 2) (columns_at w k) = omega arith in
            same_inside k l u (apart k) i j (columns_at w k) p q (omega arith) (same_side k l (side l i) (side l j) _ _ x (side_below l i) (side_below l j) f) x
      ]

  pub halving_sound : (k : ℕ) → w ≤ 2 → k < 4 → Sound (halving w k)
  halving_sound k n h =
      record {
        some_lines = lines_some k;
        few_lines = lines_few k h;
        some_cells = cells_some w k;
        few_cells = omega (arith, cells_few w k n h);
        some_columns = columns_some w k;
        few_columns = omega (arith, columns_few w k n h);
        some_positions = λ c lt. omega arith;
        few_positions = λ c lt. omega arith;
        start = λ l u i p. place_start w k l i;
        within = within k;
        apart = apart k;
      }

pub benes_sound : (level : ℕ) → level < 4 → Sound (benes level)
benes_sound level small = halving_sound 2 level (omega arith) small

pub baseline_sound : (level : ℕ) → level < 4 → Sound (baseline level)
baseline_sound level small = halving_sound 1 level (omega arith) small

-- the card of a family
pub family_sound : (w : ℕ) → OneOrTwo w → (level : ℕ) → level < 4 → Sound (halving w level)
family_sound w (inl e) level small = halving_sound w level (omega arith) small
family_sound w (inr e) level small = halving_sound w level (omega arith) small
