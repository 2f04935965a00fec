-- A rule that keeps n lines below n and apart sends one of them to each place below n, and the search finds it.
use Rattle.std.specs.Prelude.{◌≡◌, ℕ, zero, suc, ◌<◌, cond, ◌⊎◌, ◌==◌, ◌≢◌}
use Rattle.std.proofs.Common.{sym, ap, subst, ◌∙◌, inl, inr, ⊎_elim, arith}
use Rattle.std.proofs.lemmas.Bool.{cases_eq, cases_lt, eq-eqb, ne_eqb, cond-true, cond-false}
use Rattle.turned.specs.Turning.{sent_to}

-- a line below n that the rule sends to p
pub record Sent (rule : ℕ → ℕ) (n p : ℕ) : Type 0 where
  pub from : ℕ
  pub inside : from < n
  pub there : rule from ≡ p

abbrev pub Within : (ℕ → ℕ) → ℕ → Type 0
Within rule n = (i : ℕ) → i < n → rule i < n

abbrev pub Apart : (ℕ → ℕ) → ℕ → Type 0
Apart rule n = (i j : ℕ) → i < n → j < n → rule i ≡ rule j → i ≡ j

-- the rule without line n: the line that it sends to n goes where n goes
module _ (rule : ℕ → ℕ) (n : ℕ) (low : Within rule (suc n)) (apart : Apart rule (suc n)) where
  abbrev less : ℕ → ℕ
  less i = cond (rule i == n) (rule n) (rule i)

  at : (i : ℕ) → ((rule i ≡ n) × (less i ≡ rule n)) ⊎ ((rule i ≢ n) × (less i ≡ rule i))
  at i = ⊎_elim (λ e. inl (e, cond-true (rule i == n) (rule n) (rule i) (eq-eqb (rule i) n e))) (λ ne. inr (ne, cond-false (rule i == n) (rule n) (rule i) (ne_eqb (rule i) n ne))) (cases_eq (rule i) n)

  ends : (i : ℕ) → i < n → rule i ≡ n → rule n ≢ n
  ends i h e z = omega (arith, apart i n (omega arith) (omega arith) (e ∙ sym z))

  less_low : Within less n
  less_low i h =
      ⊎_elim
      (λ p. omega (arith, p.1, low n (omega arith), ends i h p.0))
      (λ p. omega (arith, p.0, p.1, low i (omega arith)))
      (at i)

  less_apart : Apart less n
  less_apart i j h k e = both (at i) (at j)
    where
      both : ((rule i ≡ n) × (less i ≡ rule n)) ⊎ ((rule i ≢ n) × (less i ≡ rule i)) → ((rule j ≡ n) × (less j ≡ rule n)) ⊎ ((rule j ≢ n) × (less j ≡ rule j)) → i ≡ j
      both (inl p) (inl q) = apart i j (omega arith) (omega arith) (p.0 ∙ sym q.0)
      both (inl p) (inr q) = absurd (omega (arith, apart n j (omega arith) (omega arith) (sym p.1 ∙ e ∙ q.1)))
      both (inr p) (inl q) = absurd (omega (arith, apart i n (omega arith) (omega arith) (sym p.1 ∙ e ∙ q.1)))
      both (inr p) (inr q) = apart i j (omega arith) (omega arith) (sym p.1 ∙ e ∙ q.1)

  -- a place below n
  under : (p : ℕ) → Sent less n p → Sent rule (suc n) p
  under p s =
      ⊎_elim
      (λ q. record { from = n; inside = omega arith; there = sym q.1 ∙ s.there })
      (λ q. record { from = s.from; inside = omega (arith, s.inside); there = sym q.1 ∙ s.there })
      (at s.from)

  -- place n
  top : ((p : ℕ) → p < n → Sent less n p) → Sent rule (suc n) n
  top reach =
      ⊎_elim
      (λ e. record { from = n; inside = omega arith; there = e })
      (λ ne. around (reach (rule n) (omega (arith, ne, low n (omega arith)))))
      (cases_eq (rule n) n)
    where
      around : Sent less n (rule n) → Sent rule (suc n) n
      around s =
          ⊎_elim
          (λ q. record { from = s.from; inside = omega (arith, s.inside); there = q.0 })
          (λ q. absurd (omega (arith, s.inside, apart s.from n (omega (arith, s.inside)) (omega arith) (sym q.1 ∙ s.there))))
          (at s.from)

-- one line more
step : (n : ℕ) (rule : ℕ → ℕ) (low : Within rule (suc n)) (apart : Apart rule (suc n)) → ((q : ℕ) → q < n → Sent (less rule n low apart) n q) → (p : ℕ) → p < suc n → Sent rule (suc n) p
step n rule low apart reach p h =
    ⊎_elim
    (λ l. under rule n low apart p (reach p l))
    (λ e. let z : n ≡ p = omega arith in subst (λ (x : ℕ). Sent rule (suc n) x) z (top rule n low apart reach))
    (cases_lt p n)

pub reached : (n : ℕ) (rule : ℕ → ℕ) → Within rule n → Apart rule n → (p : ℕ) → p < n → Sent rule n p
reached zero rule low apart p h = absurd (omega arith)
reached (suc n) rule low apart p h =
    step n rule low apart (reached n (less rule n low apart) (less_low rule n low apart) (less_apart rule n low apart)) p h

-- what the search answers where there is a line that the rule sends to p
abbrev Found : (ℕ → ℕ) → ℕ → ℕ → Type 0
Found rule p n = (sent_to rule p n < n) × (rule (sent_to rule p n) ≡ p)

found_here : (n : ℕ) (rule : ℕ → ℕ) (p : ℕ) → rule n ≡ p → Found rule p (suc n)
found_here n rule p e = rw (cond-true (rule n == p) n (sent_to rule p n) (eq-eqb (rule n) p e)) (omega arith, e)

found_before : (n : ℕ) (rule : ℕ → ℕ) (p : ℕ) → (rule n ≢ p) → Found rule p n → Found rule p (suc n)
found_before n rule p ne t = rw (cond-false (rule n == p) n (sent_to rule p n) (ne_eqb (rule n) p ne)) (omega (arith, t.0), t.1)

earlier : (n : ℕ) (rule : ℕ → ℕ) (p : ℕ) → (rule n ≢ p) → Sent rule (suc n) p → Sent rule n p
earlier n rule p ne s =
    record {
      from = s.from;
      inside = ⊎_elim (λ l. l) (λ g. let y : n ≡ s.from = omega (arith, s.inside) in absurd (ne (ap rule y ∙ s.there))) (cases_lt s.from n);
      there = s.there;
    }

pub sent_to_there : (n : ℕ) (rule : ℕ → ℕ) (p : ℕ) → Sent rule n p → (sent_to rule p n < n) × (rule (sent_to rule p n) ≡ p)
sent_to_there zero rule p s = absurd (omega (arith, s.inside))
sent_to_there (suc n) rule p s =
    ⊎_elim
    (found_here n rule p)
    (λ ne. found_before n rule p ne (sent_to_there n rule p (earlier n rule p ne s)))
    (cases_eq (rule n) p)
