-- Under a lawful setting of a sound card, each place has one input that ends there, and it is the one that the search answers.
use Rattle.std.specs.Prelude.{◌≡◌, ℕ, ◌<◌, List}
use Rattle.std.proofs.Common.{sym, ◌∙◌, arith}
use Rattle.card.specs.Meaning.{Meaning, Lawful, Sound}
use Rattle.turned.specs.Turning.{source, EndsAt, Sourced}
use Rattle.turned.specs.Reaching.{reached, sent_to_there}

pub sourced : (m : Meaning) → Sound m → Sourced m
sourced m ok l w p h = record { inside = found.0; there = found.1; only = λ j k e. ok.apart l w j (source m l p) m.columns k found.0 (omega arith) (e ∙ sym found.1) }
  where
    found : (source m l p < m.lines) × (m.place l (source m l p) m.columns ≡ p)
    found =
        sent_to_there m.lines (λ i. m.place l i m.columns) p
        (reached m.lines (λ i. m.place l i m.columns) (λ i k. ok.within l w i m.columns k (omega arith)) (λ i j a b e. ok.apart l w i j m.columns a b (omega arith) e) p h)

-- an input that ends at p is that one
module _ (m : Meaning) (ok : Sound m) (l : List ℕ) (w : Lawful m l) (p i : ℕ) (h : p < m.lines) (k : i < m.lines) (e : m.place l i m.columns ≡ p) where
  pub is_source : i ≡ source m l p
  is_source = (sourced m ok l w p h).only i k e

  pub ends_at : EndsAt m l p i
  ends_at = record { inside = k; there = e; only = λ j b t. ok.apart l w j i m.columns b k (omega arith) (t ∙ sym e) }
