-- Digits read one by one.
use Rattle.std.proofs.Common.{◌≡◌, ℕ, ◌+◌, ◌-◌, ◌*◌, ◌<◌, ◌≤◌, List, [], ◌∷◌, length, get_or, drop, sym, ap, ◌∙◌, add-one, arith, drop-cons}
use Rattle.words.specs.Numbers.{decimal, Number}

at_least : (n : ℕ) (ds : List ℕ) → n ≤ decimal n ds
at_least n [] = omega arith
at_least n (d ∷ ds) = omega (arith, at_least (10 * n + (d - 48)) ds)

module _ (n : ℕ) (word : List ℕ) (i : ℕ) (inside : i < length word) where
  pub decimal_more : decimal n (drop i word) ≡ decimal (10 * n + (get_or word i 0 - 48)) (drop (i + 1) word)
  decimal_more = ap (decimal n) (drop-cons word i 0 inside) ∙ ap (λ (k : ℕ). decimal (10 * n + (get_or word i 0 - 48)) (drop k word)) (sym (add-one i))

  -- digits that write a number past a byte so far write no byte
  pub too_large : decimal n (drop i word) ≡ decimal 0 word → 256 ≤ 10 * n + (get_or word i 0 - 48) → (v : ℕ) → Number word v → ⊥
  too_large read large v w = omega (arith, read, decimal_more, at_least (10 * n + (get_or word i 0 - 48)) (drop (i + 1) word), w.value, w.small)
