-- The column sheet of a turned card is read off that of the card beneath.
use Rattle.std.proofs.Common.{◌≡◌, ℕ, ◌-◌, ◌<◌, List, Ok, Err, Result, ap, ◌∙◌, arith}
use Rattle.card.specs.declared.fault.Fault.{Fault}
use Rattle.card.specs.Meaning.{Meaning}
use Rattle.card.specs.Placing.{Placeable, Placed}
use Rattle.turned.specs.Turning.{source, turned_meaning}
use Rattle.turned.specs.Soundness.{lawful_beneath}
use Rattle.turned.proofs.Refusals.{unrefused}

module _ (m : Meaning) (l : List ℕ) (p s i t : ℕ) (ok : Placeable (turned_meaning m) l p s) (inside : i < m.lines) (is : i ≡ source m l p) (left : t ≡ m.columns - s) where
  pub placed_turned : (r : Result ℕ Fault) → Placed m l i t r → Placed (turned_meaning m) l p s r
  placed_turned (Ok x) h = (ok, h.1 ∙ ap (λ (y : ℕ). m.place l y t) is ∙ ap (λ (y : ℕ). m.place l (source m l p) y) left)
  placed_turned (Err e) h = absurd (unrefused m l i t e (record { lawful = lawful_beneath m l ok.lawful; input = inside; reached = omega arith }) h)
