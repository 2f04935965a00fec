-- The rows of commands, one after another.
use Rattle.std.proofs.Common.{◌≡◌, ℕ, ◌+◌, ◌<◌, List, [], ◌∷◌, ◌++◌, length, get_or, take, Ok, Err, Result, sym, refl, ap, ◌∙◌, subst, arith, Bor}
use Rattle.std.proofs.lemmas.List.{length-take-le, take_more}
use Rattle.card.specs.declared.fault.Fault.{Fault}
use Rattle.card.specs.Meaning.{Meaning, Sound}
use Rattle.payload.specs.declared.Frame.{Frame}
use Rattle.payload.specs.Silence.{quiet_number, quiet_frame}
use Rattle.cabinet.specs.declared.Cabinet.{Cabinet}
use Rattle.cabinet.specs.declared.command.Command.{Command}
use Rattle.cabinet.specs.declared.command.Command.TheVariants.{RingOut, Voice}
use Rattle.cabinet.specs.declared.command.Reply.{Reply}
use Rattle.cabinet.specs.declared.command.Reply.TheVariants.{Moved, Numbers, Frames}
use Rattle.cabinet.specs.Orders.{Order, Row}
use Rattle.cabinet.specs.Logs.{Standing, Log}
use Rattle.cabinet.specs.Telling.{FollowsCarry}
use Rattle.cabinet.specs.Carrying.{CarriedOut}
use Rattle.cabinet.specs.States.{standing, Ordered}
use Rattle.cabinet.specs.Serving.{numbers, Ordering, Entry, Obeyed, Entered, Served}
use Rattle.cabinet.proofs.Steady.{throughout}

module _ {C : Type 0} (meaning : C → Meaning) (sound : (c : C) → Sound (meaning c)) (b : Cabinet C) where
  -- the card's meaning, and what stands, before the call
  abbrev pub means : Meaning
  means = meaning b.card

  abbrev pub stood : Standing
  stood = standing means b.state

  pub did : (c : Command) (o : Order) (n : ℕ) (after : Cabinet C) → Ordering c o → Ordered meaning b o (Ok n) after → Obeyed meaning b c (Ok (Moved n)) after
  did c o n after is h =
      record { card = h.card; kept = tt; row = Row.ordered o (Ok n); entry = Entry.done c o n is; log = λ rows l. (stood, l, h.log.call rows l); tells = h.log.tells }

  pub did_not : (c : Command) (o : Order) (e : Fault) (after : Cabinet C) → Ordering c o → Ordered meaning b o (Err e) after → Obeyed meaning b c (Err e) after
  did_not c o e after is h =
      record { card = h.card; kept = h.unchanged; row = Row.ordered o (Err e); entry = Entry.refused c o e is; log = λ rows l. (stood, l, h.log.call rows l); tells = h.log.tells }

  given : length (numbers means.lines) ≡ means.lines
  given = length-take-le means.lines (0 ∷ 1 ∷ 2 ∷ 3 ∷ 4 ∷ 5 ∷ 6 ∷ 7 ∷ 8 ∷ 9 ∷ 10 ∷ 11 ∷ 12 ∷ 13 ∷ 14 ∷ 15 ∷ []) (omega (arith, (sound b.card).few_lines))

  pub rang : (table : List ℕ) → CarriedOut quiet_number means stood (numbers means.lines) (Ok table) → Obeyed meaning b RingOut (Ok (Numbers table)) b
  rang table h =
      let f : FollowsCarry means stood means.lines means.lines (Ok h.0.route) = subst (λ (n : ℕ). FollowsCarry means stood n means.lines (Ok h.0.route)) given h.0.log in
      record {
        card = refl;
        kept = tt;
        row = Row.carried means.lines means.lines (Ok h.0.route);
        entry = Entry.rung h.0.route table (record { sent = h.0.sent; past = h.1 });
        log = λ rows l. (stood, l, f.call rows l);
        tells = f.tells;
      }

  pub rang_not : (e : Fault) → CarriedOut quiet_number means stood (numbers means.lines) (Err e) → Obeyed meaning b RingOut (Err e) b
  rang_not e h =
      let f : FollowsCarry means stood means.lines means.lines (Err e) = subst (λ (n : ℕ). FollowsCarry means stood n means.lines (Err e)) given h in
      record { card = refl; kept = refl; row = Row.carried means.lines means.lines (Err e); entry = Entry.not_rung e; log = λ rows l. (stood, l, f.call rows l); tells = f.tells }

  pub spoke : (frames : Bor (List Frame)) (table : List Frame) → CarriedOut quiet_frame means stood frames.now (Ok table) → Obeyed meaning b (Voice frames) (Ok (Frames table)) b
  spoke frames table h =
      record {
        card = refl;
        kept = tt;
        row = Row.carried (length frames.now) means.lines (Ok h.0.route);
        entry = Entry.voiced frames h.0.route table (record { sent = h.0.sent; past = h.1 });
        log = λ rows l. (stood, l, h.0.log.call rows l);
        tells = h.0.log.tells;
      }

  pub spoke_not : (frames : Bor (List Frame)) (e : Fault) → CarriedOut quiet_frame means stood frames.now (Err e) → Obeyed meaning b (Voice frames) (Err e) b
  spoke_not frames e h =
      record { card = refl; kept = refl; row = Row.carried (length frames.now) means.lines (Err e); entry = Entry.not_voiced frames e; log = λ rows l. (stood, l, h.call rows l); tells = h.tells }

-- one row more
entered_more : (n : ℕ) (cs : List Command) (rs : List (Result Reply Fault)) (c : Command) (r : Result Reply Fault) (old rows : List Row) (row : Row) → Entered n cs rs old rows → Entry n c r row → Entered n (cs ++ c ∷ []) (rs ++ r ∷ []) old (row ∷ rows)
entered_more n [] [] c r old rows row h e = (row, e, ap (λ (x : List Row). row ∷ x) h)
entered_more n [] (x ∷ rs) c r old rows row h e = absurd h
entered_more n (x ∷ cs) [] c r old rows row h e = absurd h
entered_more n (x ∷ cs) (y ∷ rs) c r old rows row h e = (h.0, h.1, entered_more n cs rs c r (h.0 ∷ old) rows row h.2 e)

-- the rows so far
pub record SoFar {C : Type 0} (meaning : C → Meaning) (card : C) (commands : List Command) (replies : List (Result Reply Fault)) (b : Cabinet C) : Type 0 where
  pub card_kept : b.card ≡ card
  pub rows : List Row
  pub entered : Entered (meaning card).lines commands replies (Row.commissioned (meaning card).lines (meaning card).cells ∷ []) rows
  pub log : Log (meaning card) rows (standing (meaning card) b.state)

module _ {C : Type 0} (meaning : C → Meaning) (card : C) where
  pub begun : (b : Cabinet C) → b.card ≡ card → Log (meaning card) (Row.commissioned (meaning card).lines (meaning card).cells ∷ []) (standing (meaning card) b.state) → SoFar meaning card [] [] b
  begun b e log = record { card_kept = e; rows = Row.commissioned (meaning card).lines (meaning card).cells ∷ []; entered = refl; log = log }

  gone_on : (cs : List Command) (rs : List (Result Reply Fault)) (c : Command) (r : Result Reply Fault) (b d : Cabinet C) → SoFar meaning card cs rs b → Obeyed meaning b c r d → SoFar meaning card (cs ++ c ∷ []) (rs ++ r ∷ []) d
  gone_on cs rs c r b d old new =
      record {
        card_kept = new.card ∙ old.card_kept;
        rows = new.row ∷ old.rows;
        entered = entered_more (meaning card).lines cs rs c r (Row.commissioned (meaning card).lines (meaning card).cells ∷ []) old.rows new.row old.entered (subst (λ (x : C). Entry (meaning x).lines c r new.row) old.card_kept new.entry);
        log =
            subst (λ (x : C). Log (meaning x) (new.row ∷ old.rows) (standing (meaning x) d.state)) old.card_kept
            (new.log old.rows (subst (λ (x : C). Log (meaning x) old.rows (standing (meaning x) b.state)) (sym old.card_kept) old.log));
      }

  pub gone_on_at : (default : Command) (cs : List Command) (i : ℕ) → i < length cs → (rs ss : List (Result Reply Fault)) (r : Result Reply Fault) → ss ≡ rs ++ r ∷ [] → (b d : Cabinet C) → SoFar meaning card (take i cs) rs b → Obeyed meaning b (get_or cs i default) r d → SoFar meaning card (take (i + 1) cs) ss d
  gone_on_at default cs i h rs ss r pushed b d old new =
      rw (take_more cs i default h, pushed) (gone_on (take i cs) rs (get_or cs i default) r b d old new)

  pub served : ((c : C) → Sound (meaning c)) → (cs : List Command) (rs : List (Result Reply Fault)) (b : Cabinet C) → SoFar meaning card cs rs b → Served (meaning card) cs rs
  served sound cs rs b h =
      record { rows = h.rows; entered = h.entered; stands = standing (meaning card) b.state; log = h.log; tells = throughout (meaning card) (sound card) h.rows (standing (meaning card) b.state) h.log }
