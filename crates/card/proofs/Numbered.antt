-- A loop over the cells and the positions of a setting, side by side.
use Rattle.std.proofs.Common.{◌≡◌, ℕ, ◌<◌, ◌∙◌, ap, length, List, get_or, take, Bor, Option, Some, None, arith}
use Rattle.std.specs.Iterator.{Yields}
use Rattle.std.specs.Iterator.Adapters.{zip_first, zip_second}
use Rattle.std.specs.List.{zip, range_with_len}
use Rattle.std.specs.Slice.Iter.{iter_rest}
use Rattle.std.specs.declared.iter.Zip.{Zip}
use Rattle.std.specs.declared.slice.Iter.{Iter}
use Rattle.std.specs.declared.ops.Range.{Range}
use Rattle.std.proofs.iter.Yields.{fronts, nat_range_steps}
use Rattle.std.proofs.lemmas.Iterator.{zips, YieldsList, YieldsList-from_slice, YieldsList-from_range, YieldsList-from_zip}
use Rattle.std.proofs.lemmas.Iterator.Consumers.{YieldsList-turn, YieldsList-end}
use Rattle.std.proofs.lemmas.List.{get_or_default, take_all}
use Rattle.std.proofs.lemmas.List.FromFn.{length-range_with_len, get_or-range_with_len}
use Rattle.std.proofs.lemmas.Slice.Zip.{length-zip, get_or-zip}

-- of n cells and as many positions, so many pairs have come
module _ (n : ℕ) (ks : List ℕ) (size : length ks ≡ n) (xs : List (ℕ × Bor ℕ)) (s t u : Zip (Range ℕ) (Iter ℕ)) (r : Option (ℕ × Bor ℕ)) (first : zip_first s ≡ record { start = 0; end = n }) (second : iter_rest (zip_second s) ≡ take n ks) (y : Yields (zips nat_range_steps fronts) s xs t) where
  road : YieldsList (zips nat_range_steps fronts) (λ p. (p.0, p.1.now)) s (zip (range_with_len 0 n) ks)
  road = YieldsList-from_zip (YieldsList-from_range 0 n n first (omega arith)) (YieldsList-from_slice ks (second ∙ take_all n ks (omega (arith, size))))

  count : length (zip (range_with_len 0 n) ks) ≡ n
  count = omega (arith, length-zip (range_with_len 0 n) ks, length-range_with_len 0 n, size)

  -- the next pair has the next cell and what stands there
  pub numbered_turn : (p : ℕ × Bor ℕ) → r ≡ Some p → zips nat_range_steps fronts t r u → (length xs < n) × (p.0 ≡ length xs) × (p.1.now ≡ get_or ks (length xs) 0)
  numbered_turn p is h =
      let k = YieldsList-turn road xs t y r u p is h in
      let i : length xs < n = omega (arith, k.0, count) in
      let a : length xs < length (range_with_len 0 n) = omega (arith, i, length-range_with_len 0 n) in
      let b : length xs < length ks = omega (arith, i, size) in
      let q = k.1 ∙ get_or-zip (range_with_len 0 n) ks (length xs) (p.0, p.1.now) a b in
      let f = ap (λ z. z.0) q ∙ get_or-range_with_len 0 n (length xs) p.0 i in
      (i, omega (arith, f), ap (λ z. z.1) q ∙ get_or_default ks (length xs) p.1.now 0 b)

  -- where no pair comes, all have come
  pub numbered_end : r ≡ None → zips nat_range_steps fronts t r u → length xs ≡ n
  numbered_end is h = omega (arith, (YieldsList-end road xs t y r u is h).1, count)
