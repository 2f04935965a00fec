-- What holds at the end of every log, and so what every log tells.
use Rattle.std.proofs.Common.{◌≡◌, ℕ, zero, suc, ◌<◌, ◌≤◌, ◌⊎◌, List, [], ◌∷◌, length, get_or, set, replicate, Ok, Err, Result, sym, refl, ap, ◌∙◌, subst, inl, inr, ⊎_elim, arith, length-set}
use lib.ListN.{length-replicate, get_or-replicate}
use Rattle.std.proofs.lemmas.List.{get_or-set_same, get_or-set_other, ext_get_or}
use Rattle.std.proofs.lemmas.Bool.{cases_eq, cases_lt}
use Rattle.card.specs.declared.fault.Cause.TheVariants.{NoSetting}
use Rattle.card.specs.declared.fault.Layer.TheVariants.{Card}
use Rattle.card.specs.declared.fault.Fault.{Fault}
use Rattle.card.specs.Faults.{fault}
use Rattle.card.specs.Meaning.{Meaning, Sound, Same}
use Rattle.card.specs.Settling.{none, Fits, First, Holdable, Settleable, Settled}
use Rattle.card.specs.Plans.{Taken, Free, Patchable, Unpatchable, Droppable, Undroppable}
use Rattle.card.proofs.Pairing.{blank}
use Rattle.card.proofs.Firsts.{first_same, zeros_first, refused_unfit}
use Rattle.card.proofs.One.{plan_clash}
use Rattle.cabinet.specs.Orders.{Order, Force, Row, wanted, after, in_force, idle, Clear, Broken, stuck, Carriable, HoldableAt, UnholdableAt, Releasable, Unreleasable}
use Rattle.cabinet.specs.Logs.{Standing, Answered, placed, Call, Refused, Routed, Carry, Log, moved}
use Rattle.cabinet.specs.Telling.{NothingFits, Judged, Inverted, Delivered, Told, Agree, Matched, ToldAt, Throughout, Follows, FollowsCarry}
use Rattle.cabinet.specs.States.{Settles, Settling, Ready}

-- what logs ask of a card's counts
pub record Modest (m : Meaning) : Type 0 where
  pub few_lines : m.lines ≤ 16
  pub some_positions : (c : ℕ) → c < m.cells → 2 ≤ m.positions c

pub modest : (m : Meaning) → Sound m → Modest m
modest m sound = record { few_lines = sound.few_lines; some_positions = sound.some_positions }

modest_same : (m n : Meaning) → Modest m → Same m n → Modest n
modest_same m n h e =
    record {
      few_lines = omega (arith, h.few_lines, e.lines);
      some_positions = λ c k. let j : c < m.cells = omega (arith, e.cells) in rw (← e.positions c j) (h.some_positions c j);
    }

-- what holds after a log, with what is in force read from the log
pub record Steady (m : Meaning) (f : Force) (t : Standing) : Type 0 where
  pub force : t.force ≡ f
  pub first : First m f.pairs f.holds t.setting
  pub lines : length f.pairs ≡ m.lines
  pub cells : length f.holds ≡ m.cells
  pub holdable : (c : ℕ) → c < m.cells → Holdable m f.holds c

commissioned_first : (m : Meaning) → Modest m → First m (replicate m.lines none) (replicate m.cells none) (replicate m.cells 0)
commissioned_first m sound =
    record {
      fits =
          record {
            lawful =
                record {
                  size = length-replicate m.cells 0;
                  below = λ c h. rw (get_or-replicate {A = ℕ} m.cells c 0 0 h) (omega (arith, sound.some_positions c h));
                };
            carries = λ i h ne. absurd (ne (blank m.lines i));
            keeps = λ c h ne. absurd (ne (blank m.cells c));
          };
      first = λ k h. zeros_first m.cells k h.lawful.size;
    }

-- holds stay in range with one hold more or less
held_more : (m : Meaning) (holds : List ℕ) (c p : ℕ) → ((d : ℕ) → d < m.cells → Holdable m holds d) → c < length holds → (p ≡ none) ⊎ (p < m.positions c) → (d : ℕ) → d < m.cells → Holdable m (set holds c p) d
held_more m holds c p old inside small d h =
    ⊎_elim
    (λ e. subst (λ (x : ℕ). Holdable m (set holds c p) x) (sym e) (rw (get_or-set_same holds c p none inside) small))
    (λ ne. rw (get_or-set_other holds c d p none ne) (old d h))
    (cases_eq d c)

held_on : (m : Meaning) (o : Order) (f : Force) → Clear m f o → length f.holds ≡ m.cells → ((d : ℕ) → d < m.cells → Holdable m f.holds d) → (d : ℕ) → d < m.cells → Holdable m (wanted o f).holds d
held_on m (Order.plan ps) f clear size old = old
held_on m (Order.patch i o) f clear size old = old
held_on m (Order.drop i) f clear size old = old
held_on m (Order.hold c p) f clear size old = held_more m f.holds c p old (omega (arith, clear.cell)) (inr clear.position)
held_on m (Order.release c) f clear size old = held_more m f.holds c none old (omega (arith, clear.cell)) (inl refl)

cells_on : (o : Order) (f : Force) → length (wanted o f).holds ≡ length f.holds
cells_on (Order.plan ps) f = refl
cells_on (Order.patch i o) f = refl
cells_on (Order.drop i) f = refl
cells_on (Order.hold c p) f = length-set f.holds c p
cells_on (Order.release c) f = length-set f.holds c none

lines_on : (m : Meaning) (o : Order) (f : Force) → Clear m f o → length f.pairs ≡ m.lines → length (wanted o f).pairs ≡ m.lines
lines_on m (Order.plan ps) f clear e = clear.sized
lines_on m (Order.patch i o) f clear e = length-set f.pairs i o ∙ e
lines_on m (Order.drop i) f clear e = length-set f.pairs i none ∙ e
lines_on m (Order.hold c p) f clear e = e
lines_on m (Order.release c) f clear e = e

-- settling has nothing against what an order wants that broke no earlier rule
settleable : (m : Meaning) (o : Order) (s : Standing) (f : Force) → Steady m f s → Clear m s.force o → Settleable m (wanted o s.force).pairs (wanted o s.force).holds s.setting
settleable m o s f st clear =
    let lines : length s.force.pairs ≡ m.lines = ap (λ (g : Force). length g.pairs) st.force ∙ st.lines in
    let cells : length s.force.holds ≡ m.cells = ap (λ (g : Force). length g.holds) st.force ∙ st.cells in
    record {
      sized = record { pairs_size = lines_on m o s.force clear lines; holds_size = cells_on o s.force ∙ cells; buffer_size = st.first.fits.lawful.size };
      holdable = held_on m o s.force clear cells (subst (λ (g : Force). (c : ℕ) → c < m.cells → Holdable m g.holds c) (sym st.force) st.holdable);
    }

pub answered_unfit : (m : Meaning) (o : Order) (s : Standing) (f : Force) → Steady m f s → Clear m s.force o → (d : Fault) (l : List ℕ) → Answered m s o (Err d) l → NothingFits m (wanted o s.force) × (d ≡ fault NoSetting Card 0)
answered_unfit m o s f st clear d l h = refused_unfit m (wanted o s.force).pairs (wanted o s.force).holds s.setting d (settleable m o s f st clear) h.0

step : (m : Meaning) (o : Order) (a : Result ℕ Fault) (s t : Standing) (f : Force) → Steady m f s → Call m s o a t → Steady m (after o a f) t
step m o (Ok n) s t f st d =
    record {
      force = d.force ∙ same;
      first = subst (λ (g : Force). First m g.pairs g.holds t.setting) same d.settled.1;
      lines = lines_on m o f clear st.lines;
      cells = cells_on o f ∙ st.cells;
      holdable = held_on m o f clear st.cells st.holdable;
    }
  where
    same : wanted o s.force ≡ wanted o f
    same = ap (wanted o) st.force

    clear : Clear m f o
    clear = subst (λ (g : Force). Clear m g o) st.force d.clear
step m o (Err e) s t f st d = subst (λ (u : Standing). Steady m f u) (sym d.1) st

carry_same : (m : Meaning) (s t : Standing) (a b : ℕ) (r : Result (List ℕ) Fault) → Carry m s a b r t → t ≡ s
carry_same m s t a b (Ok route) c = c.2
carry_same m s t a b (Err e) c = c.2

started : (m : Meaning) → Modest m → (lines cells : ℕ) (t : Standing) → lines ≡ m.lines → cells ≡ m.cells → t.force ≡ idle lines cells → t.setting ≡ replicate cells 0 → Steady m (idle lines cells) t
started m sound lines cells t le ce force setting =
    record {
      force = force;
      first = rw (setting, le, ce) (commissioned_first m sound);
      lines = length-replicate lines none ∙ le;
      cells = length-replicate cells none ∙ ce;
      holdable = λ c h. inl (blank cells c);
    }

pub steady : (m : Meaning) → Modest m → (rows : List Row) (t : Standing) → Log m rows t → Steady m (in_force rows) t
steady m sound [] t log = absurd log
steady m sound (Row.commissioned lines cells ∷ rows) t log = started m sound lines cells t log.0.lines_are log.0.cells_are log.0.force log.0.setting
steady m sound (Row.ordered o a ∷ rows) t log = step m o a log.0 t (in_force rows) (steady m sound rows log.0 log.1) log.2
steady m sound (Row.carried a b r ∷ rows) t log = subst (λ (u : Standing). Steady m (in_force rows) u) (sym (carry_same m log.0 t a b r log.2)) (steady m sound rows log.0 log.1)

-- no order both keeps and breaks the rules
unpatchable : {n : ℕ} {xs : List ℕ} {i o : ℕ} {e : Fault} → Patchable n xs i o → Unpatchable n xs i o e → ⊥
unpatchable p (Unpatchable.no_input h) = omega (arith, p.input)
unpatchable p (Unpatchable.no_output h k) = omega (arith, p.output)
unpatchable p (Unpatchable.busy_input h k ne) = ne p.idle
unpatchable p (Unpatchable.busy_output h k e t) = p.free t.by t.inside t.there

undroppable : {n : ℕ} {xs : List ℕ} {i : ℕ} {e : Fault} → Droppable n xs i → Undroppable n xs i e → ⊥
undroppable p (Undroppable.no_input h) = omega (arith, p.input)
undroppable p (Undroppable.idle_input h e) = p.busy e

unholdable : {m : Meaning} {xs : List ℕ} {c q : ℕ} {e : Fault} → HoldableAt m xs c q → UnholdableAt m xs c q e → ⊥
unholdable p (UnholdableAt.no_cell h) = omega (arith, p.cell)
unholdable p (UnholdableAt.no_position h k) = omega (arith, p.position)
unholdable p (UnholdableAt.held h k ne) = ne p.free

unreleasable : {m : Meaning} {xs : List ℕ} {c : ℕ} {e : Fault} → Releasable m xs c → Unreleasable m xs c e → ⊥
unreleasable p (Unreleasable.no_cell h) = omega (arith, p.cell)
unreleasable p (Unreleasable.not_held h e) = p.held e

pub clash : (m : Meaning) (f : Force) (o : Order) (e : Fault) → Clear m f o → Broken m f o e → ⊥
clash m f (Order.plan ps) e c b = plan_clash c b
clash m f (Order.patch i o) e c b = unpatchable c b
clash m f (Order.drop i) e c b = undroppable c b
clash m f (Order.hold c p) e k b = unholdable k b
clash m f (Order.release c) e k b = unreleasable k b

placed_stuck : (o : Order) (d : Fault) → d ≡ fault NoSetting Card 0 → placed o d ≡ fault NoSetting Card (stuck o)
placed_stuck (Order.plan ps) d e = e
placed_stuck (Order.patch i o) d e = ap (λ (x : Fault). fault x.cause x.layer i) e
placed_stuck (Order.drop i) d e = e
placed_stuck (Order.hold c p) d e = ap (λ (x : Fault). fault x.cause x.layer c) e
placed_stuck (Order.release c) d e = e

-- an order is refused exactly when nothing fits
refusing : (m : Meaning) (o : Order) (e : Fault) (s : Standing) (f : Force) → Steady m f s → Refused m s o e → Clear m s.force o → Judged m s.force o (Err e)
refusing m o e s f st (Refused.broken b) clear = absurd (clash m s.force o e clear b)
refusing m o e s f st (Refused.unsettled k d h q) clear = let u = answered_unfit m o s f st clear d s.setting h in (u.0, q ∙ placed_stuck o d u.1)

judging : (m : Meaning) (o : Order) (a : Result ℕ Fault) (s t : Standing) (f : Force) → Steady m f s → Call m s o a t → Clear m s.force o → Judged m s.force o a
judging m o (Ok n) s t f st d clear = λ un. un t.setting d.settled.1.fits
judging m o (Err e) s t f st d clear = refusing m o e s f st d.0 clear

-- where the setting carries the pairs, the card's places are the pairs
inverted : (m : Meaning) → Modest m → (s : Standing) (f : Force) → Steady m f s → (route : List ℕ) → Routed m s route → Inverted m.lines s.force.pairs route
inverted m sound s f st route h =
    record {
      size = h.size;
      paired = λ i o hi ho e. let busy : get_or s.force.pairs i none ≡ none → ⊥ = (λ z. omega (arith, sound.few_lines, e, z, ho)) in h.from i o ho (record { input = hi; busy = busy; there = fits.carries i hi busy ∙ e });
      silent = λ o ho free. h.quiet o ho (λ i en. free i en.input (sym (fits.carries i en.input en.busy) ∙ en.there));
    }
  where
    fits : Fits m s.force.pairs s.force.holds s.setting
    fits = subst (λ (g : Force). Fits m g.pairs g.holds s.setting) (sym st.force) st.first.fits

delivering : (m : Meaning) → Modest m → (a b : ℕ) (r : Result (List ℕ) Fault) (s t : Standing) (f : Force) → Steady m f s → Carry m s a b r t → Carriable m a b → Delivered m s.force r
delivering m sound a b (Ok route) s t f st c ok = inverted m sound s f st route c.1
delivering m sound a b (Err e) s t f st c ok = c.0 ok

telling : (m : Meaning) → Modest m → (rows : List Row) (t : Standing) → Log m rows t → Told m rows
telling m sound [] t log = tt
telling m sound (Row.commissioned lines cells ∷ rows) t log = tt
telling m sound (Row.ordered o a ∷ rows) t log = let st : Steady m (in_force rows) log.0 = steady m sound rows log.0 log.1 in subst (λ (g : Force). Clear m g o → Judged m g o a) st.force (judging m o a log.0 t (in_force rows) st log.2)
telling m sound (Row.carried a b r ∷ rows) t log = let st : Steady m (in_force rows) log.0 = steady m sound rows log.0 log.1 in subst (λ (g : Force). Carriable m a b → Delivered m g r) st.force (delivering m sound a b r log.0 t (in_force rows) st log.2)

-- an output has an input, or none
pub found : (n : ℕ) (pairs : List ℕ) (o : ℕ) → Taken n pairs o ⊎ Free n pairs o
found zero pairs o = inr (λ j h e. omega arith)
found (suc n) pairs o = ⊎_elim (λ e. inl (record { by = n; inside = omega arith; there = e })) (λ ne. ⊎_elim earlier (later ne) (found n pairs o)) (cases_eq (get_or pairs n none) o)
  where
    earlier : Taken n pairs o → Taken (suc n) pairs o ⊎ Free (suc n) pairs o
    earlier t = inl (record { by = t.by; inside = omega (arith, t.inside); there = t.there })

    later : (get_or pairs n none ≡ o → ⊥) → Free n pairs o → Taken (suc n) pairs o ⊎ Free (suc n) pairs o
    later ne free = inr (λ j h e. ⊎_elim (λ low. free j low e) (λ high. let z : j ≡ n = omega arith in ne (subst (λ (x : ℕ). get_or pairs x none ≡ o) z e)) (cases_lt j n))

-- pairs have one inversion
one_inversion : (n k : ℕ) (f here there : List ℕ) → n ≡ k → Inverted n f here → Inverted k f there → there ≡ here
one_inversion n k f here there nk p q = ext_get_or none there here (q.size ∙ sym nk ∙ sym p.size) (λ o h. go o (omega (arith, q.size, nk)) (found n f o))
  where
    go : (o : ℕ) → o < n → Taken n f o ⊎ Free n f o → get_or there o none ≡ get_or here o none
    go o h (inl t) = q.paired t.by o (omega (arith, t.inside, nk)) (omega (arith, nk)) t.there ∙ sym (p.paired t.by o t.inside h t.there)
    go o h (inr free) = q.silent o (omega (arith, nk)) (λ j i e. free j (omega (arith, i, nk)) e) ∙ sym (p.silent o h free)

agreeing : (m n : Meaning) → Modest m → Same m n → (f g : Force) (t u : Standing) → Steady m f t → Steady n g u → f ≡ g → Agree m t n u
agreeing m n sound e f g t u st su alike =
    record {
      setting = first_same m n f.pairs f.holds t.setting u.setting e st.first (subst (λ (x : Force). First n x.pairs x.holds u.setting) (sym alike) su.first);
      route = λ there here p q. one_inversion m.lines n.lines f.pairs here there e.lines
          (subst (λ (x : Force). Inverted m.lines x.pairs here) st.force (inverted m sound t f st here q))
          (subst (λ (x : Force). Inverted n.lines x.pairs there) (su.force ∙ sym alike) (inverted n (modest_same m n sound e) u g su there p));
    }

matching : (m n : Meaning) (sound : Modest m) (e : Same m n) (rows : List Row) (t : Standing) → Steady m (in_force rows) t → (others : List Row) (u : Standing) (other : Log n others u) → Matched m rows t n others u other
matching m n sound e rows t st [] u other = tt
matching m n sound e rows t st (Row.commissioned lines cells ∷ others) u other = agreeing m n sound e (in_force rows) (idle lines cells) t u st (steady n (modest_same m n sound e) (Row.commissioned lines cells ∷ others) u other)
matching m n sound e rows t st (Row.ordered o a ∷ others) u other = (agreeing m n sound e (in_force rows) (in_force (Row.ordered o a ∷ others)) t u st (steady n (modest_same m n sound e) (Row.ordered o a ∷ others) u other), matching m n sound e rows t st others other.0 other.1)
matching m n sound e rows t st (Row.carried a b r ∷ others) u other = (agreeing m n sound e (in_force rows) (in_force others) t u st (steady n (modest_same m n sound e) (Row.carried a b r ∷ others) u other), matching m n sound e rows t st others other.0 other.1)

-- the theorem on logs
told_at : (m : Meaning) → Sound m → (rows : List Row) (t : Standing) → Log m rows t → ToldAt m rows t
told_at m sound rows t log =
    record {
      first = (steady m (modest m sound) rows t log).first;
      row = telling m (modest m sound) rows t log;
      alone = λ n e others u other. matching m n (modest m sound) e rows t (steady m (modest m sound) rows t log) others u other;
    }

pub throughout : (m : Meaning) → Sound m → (rows : List Row) (t : Standing) (log : Log m rows t) → Throughout m rows t log
throughout m sound [] t log = tt
throughout m sound (Row.commissioned lines cells ∷ rows) t log = told_at m sound (Row.commissioned lines cells ∷ rows) t log
throughout m sound (Row.ordered o a ∷ rows) t log = (told_at m sound (Row.ordered o a ∷ rows) t log, throughout m sound rows log.0 log.1)
throughout m sound (Row.carried a b r ∷ rows) t log = (told_at m sound (Row.carried a b r ∷ rows) t log, throughout m sound rows log.0 log.1)

pub ready : (m : Meaning) → Sound m → (rows : List Row) (t : Standing) → Log m rows t → Ready m t
ready m sound rows t log =
    let st : Steady m (in_force rows) t = steady m (modest m sound) rows t log in
    record {
      lines = ap (λ (g : Force). length g.pairs) st.force ∙ st.lines;
      cells = ap (λ (g : Force). length g.holds) st.force ∙ st.cells;
      holdable = subst (λ (g : Force). (c : ℕ) → c < m.cells → Holdable m g.holds c) (sym st.force) st.holdable;
      first = subst (λ (g : Force). First m g.pairs g.holds t.setting) (sym st.force) st.first;
    }

-- a call that meets its rule where logs lead extends every log
follow : (m : Meaning) → Sound m → (s : Standing) (o : Order) (a : Result ℕ Fault) (t : Standing) → (Ready m s → Call m s o a t) → Follows m s o a t
follow m sound s o a t call =
    record {
      call = λ rows log. call (ready m sound rows s log);
      tells = λ rows log. throughout m sound (Row.ordered o a ∷ rows) t (s, log, call (ready m sound rows s log));
    }

pub follow_carry : (m : Meaning) → Sound m → (s : Standing) (a b : ℕ) (r : Result (List ℕ) Fault) → (Ready m s → Carry m s a b r s) → FollowsCarry m s a b r
follow_carry m sound s a b r call =
    record {
      call = λ rows log. call (ready m sound rows s log);
      tells = λ rows log. throughout m sound (Row.carried a b r ∷ rows) s (s, log, call (ready m sound rows s log));
    }

-- the three ways that an order's call goes, from what it finds in the cabinet
pub broken : (m : Meaning) → Sound m → (s : Standing) (o : Order) (e : Fault) → (Ready m s → Broken m s.force o e) → Follows m s o (Err e) s
broken m sound s o e why = follow m sound s o (Err e) s (λ r. (Refused.broken (why r), refl))

module _ (m : Meaning) (sound : Sound m) (s u : Standing) (o : Order) (force : u.force ≡ wanted o s.force) (clear : Ready m s → Clear m s.force o) (setting : u.setting ≡ s.setting) where
  answered : (r : Result (Unit {0}) Fault) (l : List ℕ) → Settling m u r l → Answered m s o r l
  answered r l h =
      subst (λ (g : Force). Settled m g.pairs g.holds s.setting l r) force
      (subst (λ (x : List ℕ). Settled m u.force.pairs u.force.holds x l r) setting h)

  pub done : (t : Standing) (n : ℕ) → Settles m u t n → Follows m s o (Ok n) t
  done t n h = follow m sound s o (Ok n) t (λ r.
      record {
        clear = clear r;
        settled = answered (Ok tt) t.setting h.settled;
        force = h.force ∙ force;
        count = h.count ∙ ap (λ (l : List ℕ). moved m.cells l t.setting) setting;
      })

  pub unsettled : (e d : Fault) → e ≡ placed o d → Settling m u (Err d) u.setting → Follows m s o (Err e) s
  unsettled e d told h = follow m sound s o (Err e) s (λ r. (Refused.unsettled (clear r) d (answered (Err d) s.setting (subst (λ (x : List ℕ). Settling m u (Err d) x) setting h)) told, refl))

-- what the carries of cabinets with the same pairs and holds in force have in common
pub same_routes : (m : Meaning) → Sound m → (rows : List Row) (t : Standing) → Log m rows t → (n : Meaning) → Same m n → (others : List Row) (u : Standing) → Log n others u → in_force rows ≡ in_force others → (there here : List ℕ) → Routed n u there → Routed m t here → there ≡ here
same_routes m sound rows t log n e others u other alike = (agreeing m n (modest m sound) e (in_force rows) (in_force others) t u (steady m (modest m sound) rows t log) (steady n (modest_same m n (modest m sound) e) others u other) alike).route

pub routed_pairs : (m : Meaning) → Sound m → (rows : List Row) (t : Standing) → Log m rows t → (route : List ℕ) → Routed m t route → Inverted m.lines (in_force rows).pairs route
routed_pairs m sound rows t log route h = let st : Steady m (in_force rows) t = steady m (modest m sound) rows t log in subst (λ (x : Force). Inverted m.lines x.pairs route) st.force (inverted m (modest m sound) t (in_force rows) st route h)

-- what stands in force is what the log leaves in force
pub forced : (m : Meaning) → Sound m → (rows : List Row) (t : Standing) → Log m rows t → t.force ≡ in_force rows
forced m sound rows t log = (steady m (modest m sound) rows t log).force
