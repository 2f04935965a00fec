-- A route found input by input, and the outputs by it.
use Rattle.std.proofs.Common.{◌≡◌, ℕ, ◌+◌, ◌<◌, ◌≤◌, List, length, get_or, take, set, replicate, sym, refl, ap, ◌∙◌, subst, ⊎_elim, arith, length-set}
use Rattle.std.proofs.lemmas.List.{get_or-set_same, get_or-set_other, get_or-take, length-take-le, ext_get_or, get_or_default, get_or_past}
use Rattle.std.proofs.lemmas.Bool.{cases_eq}
use Rattle.card.specs.Meaning.{Meaning, Sound, Same}
use Rattle.card.specs.Settling.{none}
use Rattle.card.specs.Placing.{Placeable, Unplaceable}
use Rattle.card.specs.declared.fault.Fault.{Fault}
use Rattle.card.proofs.Pairing.{blank}
use Rattle.cabinet.specs.Orders.{Row, in_force}
use Rattle.cabinet.specs.Logs.{Standing, Log, Ends, Routed}
use Rattle.cabinet.specs.Telling.{Inverted}
use Rattle.cabinet.specs.Carrying.{Sent, Arrived}
use Rattle.cabinet.proofs.Steady.{same_routes}

-- the inputs below n are in the table where they end
pub record SoFar (m : Meaning) (s : Standing) (n : ℕ) (table : List ℕ) : Type 0 where
  pub long : length table ≡ 16
  pub from : (i o : ℕ) → i < n → Ends m s i o → get_or table o none ≡ i
  pub quiet : (o : ℕ) → ((i : ℕ) → i < n → Ends m s i o → ⊥) → get_or table o none ≡ none

pub none_yet : (m : Meaning) (s : Standing) → SoFar m s 0 (replicate 16 255)
none_yet m s = record { long = refl; from = λ i o h e. absurd (omega arith); quiet = λ o h. blank 16 o }

module _ (m : Meaning) (sound : Sound m) (s : Standing) (n : ℕ) (table : List ℕ) (old : SoFar m s n table) where
  pub idle_next : get_or s.force.pairs n none ≡ none → SoFar m s (n + 1) table
  idle_next idle =
      record {
        long = old.long;
        from = λ i o h e. ⊎_elim (λ z. absurd (e.busy (subst (λ (x : ℕ). get_or s.force.pairs x none ≡ none) (sym z) idle))) (λ z. old.from i o (omega arith) e) (cases_eq i n);
        quiet = λ o h. old.quiet o (λ i j e. h i (omega arith) e);
      }

  pub busy_next : (get_or s.force.pairs n none ≡ none → ⊥) → (p : ℕ) → Placeable m s.setting n m.columns → p ≡ m.place s.setting n m.columns → SoFar m s (n + 1) (set table p n)
  busy_next busy p ok is =
      record {
        long = length-set table p n ∙ old.long;
        from = λ i o h e. ⊎_elim (here i o e) (other i o h e) (cases_eq i n);
        quiet = λ o h. ⊎_elim (λ q. absurd (h n (omega arith) (subst (λ (x : ℕ). Ends m s n x) (sym q) now))) (λ q. get_or-set_other table p o n none q ∙ old.quiet o (λ i j e. h i (omega arith) e)) (cases_eq o p);
      }
    where
      small : p < length table
      small = omega (arith, old.long, is, sound.within s.setting ok.lawful n m.columns ok.input ok.reached, sound.few_lines)

      now : Ends m s n p
      now = record { input = ok.input; busy = busy; there = sym is }

      here : (i o : ℕ) → Ends m s i o → i ≡ n → get_or (set table p n) o none ≡ i
      here i o e z =
          let op : o ≡ p = sym e.there ∙ ap (λ (x : ℕ). m.place s.setting x m.columns) z ∙ sym is in
          ap (λ (x : ℕ). get_or (set table p n) x none) op ∙ get_or-set_same table p n none small ∙ sym z

      other : (i o : ℕ) → i < n + 1 → Ends m s i o → (i ≡ n → ⊥) → get_or (set table p n) o none ≡ i
      other i o h e z =
          let apart : o ≡ p → ⊥ = (λ q. z (sound.apart s.setting ok.lawful i n m.columns e.input ok.input ok.reached (e.there ∙ q ∙ is))) in
          get_or-set_other table p o n none apart ∙ old.from i o (omega arith) e

pub all_found : (m : Meaning) → Sound m → (s : Standing) (table : List ℕ) → SoFar m s m.lines table → Routed m s (take m.lines table)
all_found m sound s table all =
    record {
      size = length-take-le m.lines table (omega (arith, all.long, sound.few_lines));
      from = λ i o h e. get_or-take m.lines table o none h ∙ all.from i o e.input e;
      quiet = λ o h free. get_or-take m.lines table o none h ∙ all.quiet o (λ i j e. free i e);
    }

-- the outputs by a route are the outputs by its pairs
pub arriving : {P : Type 0} (silent : P) (n : ℕ) (pairs route : List ℕ) (given out : List P) → n ≤ 16 → Inverted n pairs route → Sent silent given route out → Arrived silent n pairs given out
arriving silent n pairs route given out few inv sent =
    record {
      paired = λ i o hi ho e.
          let r : get_or route o none ≡ i = inv.paired i o hi ho e in
          sent.got o (omega (arith, inv.size)) (λ z. omega (arith, r, z)) ∙ ap (λ (x : ℕ). get_or given x silent) r;
      others = λ o ho free. sent.quiet o (omega (arith, inv.size)) (inv.silent o ho free);
    }

-- a route leaves one set of outputs
pub same_sent : {P : Type 0} (silent : P) (given : List P) (route : List ℕ) (out left : List P) → Sent silent given route out → Sent silent given route left → left ≡ out
same_sent silent given route out left p q =
    ext_get_or silent left out (q.size ∙ sym p.size)
    (λ o h.
    let k : o < length route = omega (arith, q.size) in
    ⊎_elim (λ e. q.quiet o k e ∙ sym (p.quiet o k e)) (λ ne. q.got o k ne ∙ sym (p.got o k ne)) (cases_eq (get_or route o none) none))

pub same_outputs : {P : Type 0} (silent : P) (m : Meaning) → Sound m → (s : Standing) (given out : List P) (route : List ℕ) → Routed m s route → Sent silent given route out → (rows : List Row) → Log m rows s → (n : Meaning) → Same m n → (others : List Row) (u : Standing) → Log n others u → in_force rows ≡ in_force others → (there : List ℕ) (left : List P) → Routed n u there → Sent silent given there left → left ≡ out
same_outputs silent m sound s given out route here sent rows log n e others u other alike there left r q =
    same_sent silent given route out left sent (subst (λ (x : List ℕ). Sent silent given x left) (same_routes m sound rows s log n e others u other alike there route r here) q)

-- what may be asked of the column sheet is not refused
pub never_refused : (m : Meaning) (l : List ℕ) (i s : ℕ) (e : Fault) → Placeable m l i s → Unplaceable m l i s e → ⊥
never_refused m l i s e ok (Unplaceable.wrong_length ne) = ne ok.lawful.size
never_refused m l i s e ok (Unplaceable.wrong_position size c bad) = omega (arith, ok.lawful.below c bad.inside, bad.outside)
never_refused m l i s e ok (Unplaceable.no_input lawful h) = omega (arith, ok.input)
never_refused m l i s e ok (Unplaceable.too_far lawful h k) = omega (arith, ok.reached)

-- what is written output by output
pub sending : {P : Type 0} (silent : P) (given out : List P) (table : List ℕ) (n : ℕ) → n ≤ 16 → length given ≡ n → length out ≡ n → length table ≡ 16 → ((o : ℕ) → o < n → get_or out o silent ≡ get_or given (get_or table o 0) silent) → Sent silent given (take n table) out
sending silent given out table n few gl ol tl all =
    let tk : length (take n table) ≡ n = length-take-le n table (omega arith) in
    record {
      size = ol ∙ sym tk;
      got = λ o h ne. let k : o < n = omega arith in all o k ∙ ap (λ (x : ℕ). get_or given x silent) (get_or_default table o 0 none (omega arith) ∙ sym (get_or-take n table o none k));
      quiet = λ o h e. let k : o < n = omega arith in all o k ∙ ap (λ (x : ℕ). get_or given x silent) (get_or_default table o 0 none (omega arith) ∙ sym (get_or-take n table o none k) ∙ e) ∙ get_or_past given none silent (omega arith);
    }
