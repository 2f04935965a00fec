-- From an order that was answered to the conversation that goes on.
use Rattle.std.proofs.Common.{◌≡◌, ℕ, List, [], ◌∷◌, ◌++◌, sym, refl, ap, ◌∙◌, subst, append_assoc}
use Rattle.card.specs.declared.fault.Cause.TheVariants.{UnknownCard}
use Rattle.card.specs.declared.fault.Layer.TheVariants.{Card}
use Rattle.card.specs.Faults.{fault}
use Rattle.card.specs.Meaning.{Meaning}
use Rattle.cabinet.specs.declared.Cabinet.{Cabinet}
use Rattle.cabinet.specs.Orders.{Row}
use Rattle.cabinet.specs.Logs.{Standing, Log}
use Rattle.cabinet.specs.States.{standing}
use Rattle.cabinet.proofs.Steady.{throughout}
use Rattle.kinds.specs.declared.built.Built.{Built}
use Rattle.kinds.specs.Kinds.{built_meaning}
use Rattle.kinds.specs.Soundness.{built_sound}
use Rattle.records.specs.Format.{Image, Proper, record_of}
use Rattle.records.specs.Answering.{done_bytes, refusal_bytes}
use Rattle.conversation.specs.declared.talk.Phase.{Phase}
use Rattle.conversation.specs.declared.talk.Phase.TheVariants.{Waiting, Serving, Over}
use Rattle.conversation.specs.Talking.{Stage, Conversed, At}
use Rattle.conversation.specs.Answering.{means, stands, Commissioned, Answers, Exchanged, CarriesOn, Responded}

-- while no card is commissioned, nothing has been read or said
nothing_yet : {seen said : List ℕ} → Conversed seen said Stage.waiting → (seen ≡ []) × (said ≡ [])
nothing_yet Conversed.begun = (refl, refl)

-- what is said next to nothing
said_first : (drained before after bytes : List ℕ) → drained ++ before ≡ [] → after ≡ before ++ bytes → bytes ≡ drained ++ after
said_first drained before after bytes e f =
    sym (ap (λ (x : List ℕ). drained ++ x) f ∙ sym (append_assoc drained before bytes) ∙ ap (λ (x : List ℕ). x ++ bytes) e)

module _ (k n : ℕ) (before after : List ℕ) where
  first : (seen drained bytes : List ℕ) (stage : Stage) (next : Phase) → Conversed seen (drained ++ before) Stage.waiting → after ≡ before ++ bytes → Conversed (record_of (Image.commission k n)) bytes stage → At next stage → CarriesOn (seen ++ record_of (Image.commission k n)) (drained ++ after) next
  first seen drained bytes stage next c f d at =
      let e = nothing_yet c in
      record {
        stage = stage;
        conversed =
            subst (λ (x : List ℕ). Conversed (seen ++ record_of (Image.commission k n)) x stage) (said_first drained before after bytes e.1 f)
            (subst (λ (x : List ℕ). Conversed (x ++ record_of (Image.commission k n)) bytes stage) (sym e.0) d);
        at = at;
      }

  started : (c : Cabinet Built) → Commissioned k n before after (Serving c) → Responded Waiting (Image.commission k n) before after (Serving c)
  started c h seen drained Stage.waiting at conv p =
      first seen drained (done_bytes 0 (stands c).setting) (Stage.serving (means c) (Row.commissioned (means c).lines (means c).cells ∷ []) (stands c)) (Serving c) conv h.2
      (Conversed.commissioned k n (means c) (stands c) h.0 h.1)
      (refl, refl, (h.1, throughout (means c) (built_sound c.card) (Row.commissioned (means c).lines (means c).cells ∷ []) (stands c) h.1))
  started c h seen drained (Stage.serving m rows s) at conv p = absurd at
  started c h seen drained Stage.over at conv p = absurd at

  unknown : Commissioned k n before after Over → Responded Waiting (Image.commission k n) before after Over
  unknown h seen drained Stage.waiting at conv p =
      first seen drained (refusal_bytes (fault UnknownCard Card n)) Stage.over Over conv h.1 (Conversed.unknown k n h.0) tt
  unknown h seen drained (Stage.serving m rows s) at conv p = absurd at
  unknown h seen drained Stage.over at conv p = absurd at

  pub commissions : (next : Phase) → Commissioned k n before after next → Responded Waiting (Image.commission k n) before after next
  commissions Waiting h = absurd h
  commissions (Serving c) h = started c h
  commissions Over h = unknown h

module _ (c d : Cabinet Built) (i : Image) (before after : List ℕ) (h : Exchanged c i before after d) (seen drained : List ℕ) (p : Proper (means c).lines i) where
  -- from what stands in the cabinet
  here : (rows : List Row) → Log (means c) rows (stands c) → Conversed seen (drained ++ before) (Stage.serving (means c) rows (stands c)) → CarriesOn (seen ++ record_of i) (drained ++ after) (Serving d)
  here rows log conv =
      let a : Answers c i before after d = h p in
      let t : Standing = standing (means c) d.state in
      let grown : Log (means c) (a.row ∷ rows) (standing (means c) d.state) = a.log rows log in
      record {
        stage = Stage.serving (means c) (a.row ∷ rows) (standing (means c) d.state);
        conversed =
            subst (λ (x : List ℕ). Conversed (seen ++ record_of i) x (Stage.serving (means c) (a.row ∷ rows) (standing (means c) d.state))) (append_assoc drained before a.bytes ∙ ap (λ (x : List ℕ). drained ++ x) (sym a.said))
            (Conversed.exchanged (means c) rows (stands c) (standing (means c) d.state) i a.bytes a.row conv p a.exchange grown);
        at = (ap built_meaning (sym a.card), refl, (grown, throughout (means c) (built_sound c.card) (a.row ∷ rows) (standing (means c) d.state) grown));
      }

  -- from any stage that the cabinet is at
  there : (m : Meaning) → means c ≡ m → (s : Standing) → standing m c.state ≡ s → (rows : List Row) → Log m rows s → Conversed seen (drained ++ before) (Stage.serving m rows s) → CarriesOn (seen ++ record_of i) (drained ++ after) (Serving d)
  there m e =
      subst (λ (x : Meaning). (s : Standing) → standing x c.state ≡ s → (rows : List Row) → Log x rows s → Conversed seen (drained ++ before) (Stage.serving x rows s) → CarriesOn (seen ++ record_of i) (drained ++ after) (Serving d)) e
      (λ s f. subst (λ (y : Standing). (rows : List Row) → Log (means c) rows y → Conversed seen (drained ++ before) (Stage.serving (means c) rows y) → CarriesOn (seen ++ record_of i) (drained ++ after) (Serving d)) f here)

pub exchanges : (c d : Cabinet Built) (i : Image) (before after : List ℕ) → Exchanged c i before after d → Responded (Serving c) i before after (Serving d)
exchanges c d i before after h seen drained Stage.waiting at conv p = absurd at
exchanges c d i before after h seen drained (Stage.serving m rows s) at conv p = there c d i before after h seen drained p m (sym at.0) s (sym at.1) rows at.2.0 conv
exchanges c d i before after h seen drained Stage.over at conv p = absurd at

pub silence : (i : Image) (before : List ℕ) → Responded Over i before before Over
silence i before seen drained Stage.waiting at conv p = absurd at
silence i before seen drained (Stage.serving m rows s) at conv p = absurd at
silence i before seen drained Stage.over at conv p = record { stage = Stage.over; conversed = Conversed.silent (record_of i) conv; at = tt }
