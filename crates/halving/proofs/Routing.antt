-- What the outer columns do with a line, whatever the family.
use Rattle.std.proofs.Common.{ℕ, ◌+◌, ◌*◌, ◌/◌, ◌%◌, ◌<◌, Bool, true, false, cond, eqb, List, mod-lt, arith}
use Rattle.halving.specs.Halving.{side}
use Rattle.halving.specs.Outer.{inner, out_cell, out_position}

pub inner_below : (w h o : ℕ) → 0 < h → o < 2 * h → inner w h o < h
inner_below w h o p q = go (eqb w 2)
  where
    go : (b : Bool) → cond b (o / 2) (o % h) < h
    go true = omega arith
    go false = mod-lt o p

pub cell_below : (w h j o : ℕ) → j < 2 * h → o < 2 * h → out_cell w j o < h
cell_below w h j o p q = go (eqb w 2)
  where
    go : (b : Bool) → cond b (o / 2) (j / 2) < h
    go true = omega arith
    go false = omega arith

pub position_bit : (w h : ℕ) (l : List ℕ) (j o : ℕ) → out_position w h l j o < 2
position_bit w h l j o = go (eqb w 2)
  where
    go : (b : Bool) → cond b ((o % 2 + side l j) % 2) ((o / h + j % 2) % 2) < 2
    go true = omega arith
    go false = omega arith
