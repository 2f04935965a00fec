-- The place rule as the code has it: f for the cells of the outer columns, h, m and s for the lines, the cells and the columns of a half.
use Rattle.std.proofs.Common.{◌≡◌, ℕ, zero, suc, ◌+◌, ◌-◌, ◌*◌, ◌/◌, ◌%◌, ◌<◌, ◌≤◌, List, get_or, take, drop, sym, refl, arith}
use Rattle.halving.specs.Halving.{lines_at, cells_at, columns_at, half, side, place}
use Rattle.halving.specs.Steps.{place_inside, place_past}

-- half b as the code cuts it
abbrev pub cut : ℕ → ℕ → ℕ → List ℕ → List ℕ
cut f m b l = take (f + b * m + m - (f + b * m)) (drop (f + b * m) l)

module _ (w k : ℕ) (l : List ℕ) (i x : ℕ) where
  cut_is : (f : ℕ) → f ≡ w * lines_at k → (b : ℕ) → cut f (cells_at w k) b l ≡ half w k b l
  cut_is f e b =
      let d : f + b * cells_at w k + cells_at w k - (f + b * cells_at w k) ≡ cells_at w k = omega arith in
      rw (d, e)

  pub placed_inside : (level h m f p : ℕ) → level ≡ suc k → h ≡ lines_at k → m ≡ cells_at w k → f ≡ w * h → (p ≡ 0 → ⊥) → p ≤ columns_at w k + 1 → x ≡ place w k (cut f m (side l i) l) (i / 2) (p - 1) → side l i * h + x ≡ place w level l i p
  placed_inside level h m f zero e a b z n q r = absurd (n refl)
  placed_inside level h m f (suc p) e a b z n q r =
      let z' : f ≡ w * lines_at k = rw a at z in
      let e' : suc p - 1 ≡ p = omega arith in
      let c : cut f m (side l i) l ≡ half w k (side l i) l = rw b (cut_is f z' (side l i)) in
      let g : x ≡ place w k (half w k (side l i) l) (i / 2) p = rw (c, e') at r in
      rw (e, a, g) (sym (place_inside w k l i p (omega arith)))

  pub placed_past : (level h m f s p : ℕ) → level ≡ suc k → h ≡ lines_at k → m ≡ cells_at w k → f ≡ w * h → s ≡ columns_at w k → s + 1 < p → x ≡ place w k (cut f m (side l i) l) (i / 2) s → 2 * x + (get_or l (h + x) 0 + side l i) % 2 ≡ place w level l i p
  placed_past level h m f s zero e a b z d q r = absurd (omega arith)
  placed_past level h m f s (suc p) e a b z d q r =
      let z' : f ≡ w * lines_at k = rw a at z in
      let c : cut f m (side l i) l ≡ half w k (side l i) l = rw b (cut_is f z' (side l i)) in
      let g : x ≡ place w k (half w k (side l i) l) (i / 2) (columns_at w k) = rw (c, d) at r in
      rw (e, a, g) (sym (place_past w k l i p (omega arith)))
