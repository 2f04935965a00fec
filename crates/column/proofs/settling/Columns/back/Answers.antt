-- The first line that goes to the output, as the search over the lines answers it.
use Rattle.std.proofs.Common.{rules, ◌≡◌, ◌≢◌, ℕ, ◌<◌, ◌≤◌, Option, MatchOption, arith}
use Rattle.std.proofs.lemmas.Iterator.{first_from_Range}
use Rattle.column.specs.Passing.{turned}
use Rattle.column.proofs.Stepping.{cases_map}
use Rattle.column.proofs.settling.Columns.back.Goals as goal

found : (at : ℕ → ℕ) (n o : ℕ) (r : Option ℕ) → MatchOption r ((k : ℕ) → 0 ≤ k → k < n → at k ≢ o) (λ i. (0 ≤ i) × (i < n) × (at i ≡ o) × ((k : ℕ) → 0 ≤ k → k < i → at k ≢ o)) → MatchOption r ((p : ℕ) → p < n → at p ≢ o) (λ p. (p < n) × (at p ≡ o))
found at n o r = cases_map r _ _ _ _ (λ none p h. none p (omega arith) h) (λ p h. (h.1, h.2))

pub returns : goal.returns
returns g c =
    let at = turned g.F.Leaders.lead c.args.position c.args.self.now.last in
    found at c.args.self.now.last c.args.output _
    (first_from_Range _ _ _ _ (λ p. at p ≡ c.args.output) (λ p. at p ≢ c.args.output) c.find.ensures.ran (λ p q h. search rules) (λ p q h. search rules))
