-- One byte more of a conversation.
use Rattle.std.proofs.Common.{true, false, ◌≡◌, ℕ, ◌+◌, ◌<◌, ◌≤◌, cond, List, [], ◌∷◌, ◌++◌, length, take, drop, is_ok, IfOk, Ok, Err, Result, sym, refl, ap, ◌∙◌, subst, ⊎_elim, append_assoc, arith, length-append}
use Rattle.std.proofs.lemmas.List.{append-nil, take-append-le, take_at, take-append-drop}
use Rattle.std.proofs.lemmas.Bool.{both_ways}
use Rattle.card.specs.declared.fault.Cause.TheVariants.{CutShort}
use Rattle.card.specs.declared.fault.Layer.TheVariants.{Record}
use Rattle.card.specs.declared.fault.Fault.{Fault}
use Rattle.card.specs.Faults.{fault, cause_number}
use Rattle.card.specs.Meaning.{Meaning}
use Rattle.records.specs.Format.{Image, Proper, Lines, record_of}
use Rattle.records.specs.Reading.{Reading, Reads, found, end, refused}
use Rattle.records.specs.Answering.{refusal_bytes}
use Rattle.records.proofs.Laws.{most_size}
use Rattle.records.proofs.One.{one_reading}
use Rattle.conversation.specs.declared.talk.Phase.{Phase}
use Rattle.conversation.specs.declared.talk.Phase.TheVariants.{Waiting, Serving, Over}
use Rattle.conversation.specs.Talking.{Stage, Conversed, At, Going, Unfinished, Waits, Listening, Ended, lines_at}
use Rattle.conversation.specs.Answering.{CarriesOn, phase_lines, over_phase}

-- whether a phase is the last
pub is_over : (p : Phase) → true ≡ over_phase p → p ≡ Over
is_over Waiting e = absurd (both_ways false refl (sym e))
is_over (Serving c) e = absurd (both_ways false refl (sym e))
is_over Over e = refl

pub not_over : (p : Phase) → false ≡ over_phase p → p ≡ Over → ⊥
not_over p e z = both_ways (over_phase p) (sym e) (ap over_phase z)

-- a phase and the stage that it is at
same_lines : (p : Phase) (stage : Stage) → At p stage → phase_lines p ≡ lines_at stage
same_lines Waiting Stage.waiting at = refl
same_lines Waiting (Stage.serving m rows s) at = absurd at
same_lines Waiting Stage.over at = absurd at
same_lines (Serving c) Stage.waiting at = absurd at
same_lines (Serving c) (Stage.serving m rows s) at = ap (λ (x : Meaning). x.lines) (sym at.0)
same_lines (Serving c) Stage.over at = absurd at
same_lines Over Stage.waiting at = absurd at
same_lines Over (Stage.serving m rows s) at = absurd at
same_lines Over Stage.over at = refl

going : (p : Phase) (stage : Stage) → (p ≡ Over → ⊥) → At p stage → Going stage
going Waiting Stage.waiting on at = tt
going Waiting (Stage.serving m rows s) on at = tt
going Waiting Stage.over on at = absurd at
going (Serving c) Stage.waiting on at = tt
going (Serving c) (Stage.serving m rows s) on at = tt
going (Serving c) Stage.over on at = absurd at
going Over stage on at = absurd (on refl)

unfinished : (stage : Stage) (back : List ℕ) → Going stage → Waits stage back → Unfinished (lines_at stage) back
unfinished Stage.waiting back g w = w
unfinished (Stage.serving m rows s) back g w = w
unfinished Stage.over back g w = absurd g

nothing_held : (stage : Stage) → Waits stage []
nothing_held Stage.waiting = Unfinished.nothing refl
nothing_held (Stage.serving m rows s) = Unfinished.nothing refl
nothing_held Stage.over = refl

front_held : (stage : Stage) (back : List ℕ) → Going stage → Unfinished (lines_at stage) back → Waits stage back
front_held Stage.waiting back g w = w
front_held (Stage.serving m rows s) back g w = w
front_held Stage.over back g w = absurd g

-- what a reading says
found_parts : {n : ℕ} {bs : List ℕ} {i : Image} {rest : List ℕ} → Reads n bs (found i rest) → Lines n × Proper n i × (bs ≡ record_of i ++ rest)
found_parts (Reads.whole i rest l p e) = (l, p, e)

end_empty : {n : ℕ} {bs : List ℕ} → Reads n bs end → bs ≡ []
end_empty (Reads.at_end l e) = e

apart : (n : ℕ) (bs : List ℕ) (i : Image) (rest : List ℕ) (e : Fault) → Reads n bs (found i rest) → Reads n bs (refused e) → ⊥
apart n bs i rest e a b = let z : ◌≡◌ {A = Reading} (refused e) (found i rest) = one_reading (found i rest) (refused e) a b in let y : ◌≡◌ {A = ℕ} 0 1 = cc in omega arith

-- a record that ends with the byte leaves nothing over, since what was held back was no whole record
prefix : (back : List ℕ) (b : ℕ) (record-bytes rest : List ℕ) → back ++ b ∷ [] ≡ record-bytes ++ rest → 1 ≤ length rest → back ≡ record-bytes ++ drop (length record-bytes) back
prefix back b bytes rest e some =
    let l : length back + 1 ≡ length bytes + length rest = sym (length-append back (b ∷ [])) ∙ ap length e ∙ length-append bytes rest in
    let t : take (length bytes) back ≡ bytes = sym (take-append-le (length bytes) back (b ∷ []) (omega arith)) ∙ ap (λ (x : List ℕ). take (length bytes) x) e ∙ take_at bytes rest (length bytes) refl in
    sym (take-append-drop (length bytes) back) ∙ ap (λ (x : List ℕ). x ++ drop (length bytes) back) t

nothing_over : (n : ℕ) (back : List ℕ) (b : ℕ) (i : Image) (rest : List ℕ) → Unfinished n back → Lines n → Proper n i → back ++ b ∷ [] ≡ record_of i ++ rest → rest ≡ []
nothing_over n back b i [] u l p e = refl
nothing_over n back b i (r ∷ rest) (Unfinished.front q short) l p e =
    absurd (apart n back i (drop (length (record_of i)) back) (fault CutShort Record q) (Reads.whole i (drop (length (record_of i)) back) l p (prefix back b (record_of i) (r ∷ rest) e (omega arith))) short)
nothing_over n back b i (r ∷ rest) (Unfinished.nothing none) l p e =
    let k : length (back ++ b ∷ []) ≡ length (record_of i) + length (r ∷ rest) = ap length e ∙ length-append (record_of i) (r ∷ rest) in
    let h : length (back ++ b ∷ []) ≡ length back + 1 = length-append back (b ∷ []) in
    let z : length back ≡ 0 = ap length none in
    absurd (omega (arith, Rattle.records.proofs.Laws.length_record i))

-- a refusal by its cause
pub cut_short : {n : ℕ} {bs : List ℕ} {e : Fault} → Reads n bs (refused e) → e.cause ≡ CutShort → Unfinished n bs × (length bs < 178)
cut_short (Reads.bad_lines l) c = absurd (omega (arith, ap cause_number c))
cut_short (Reads.lone l h) c = (Unfinished.front 0 (Reads.lone l h), omega (arith, h))
cut_short (Reads.unmarked l h m) c = absurd (omega (arith, ap cause_number c))
cut_short {n = n} (Reads.cut m p l b h k) c = (Unfinished.front p (Reads.cut m p l b h k), omega (arith, most_size n m (⊎_elim (λ z. omega (arith, z)) (λ z. omega (arith, z.1)) l), h, k))

-- what was heard, with one byte more
more : (heard seen back : List ℕ) (b : ℕ) → heard ≡ seen ++ back → heard ++ b ∷ [] ≡ seen ++ (back ++ b ∷ [])
more heard seen back b e = ap (λ (x : List ℕ). x ++ b ∷ []) e ∙ append_assoc seen back (b ∷ [])

module _ (heard said : List ℕ) (p : Phase) (back : List ℕ) (b : ℕ) (old : Listening heard said p back) where
  -- nothing is heard once it is over
  pub over_on : p ≡ Over → Listening (heard ++ b ∷ []) said p back
  over_on e = go old.stage old.conversed (subst (λ (x : Phase). At x old.stage) e old.stands) old.stands old.waits
    where
      go : (stage : Stage) → Conversed old.seen said stage → At Over stage → At p stage → Waits stage back → Listening (heard ++ b ∷ []) said p back
      go Stage.waiting c at now w = absurd at
      go (Stage.serving m rows s) c at now w = absurd at
      go Stage.over c at now w =
          record {
            seen = old.seen ++ b ∷ [];
            stage = Stage.over;
            parts = more heard old.seen back b old.parts ∙ ap (λ (x : List ℕ). old.seen ++ (x ++ b ∷ [])) w ∙ sym (append-nil (old.seen ++ b ∷ [])) ∙ ap (λ (x : List ℕ). (old.seen ++ b ∷ []) ++ x) (sym w);
            conversed = Conversed.silent (b ∷ []) c;
            stands = now;
            waits = w;
          }

  module _ (on : p ≡ Over → ⊥) (n : ℕ) (lines : n ≡ phase_lines p) where
    at_stage : n ≡ lines_at old.stage
    at_stage = lines ∙ same_lines p old.stage old.stands

    goes : Going old.stage
    goes = going p old.stage on old.stands

    waited : Unfinished n back
    waited = subst (λ (k : ℕ). Unfinished k back) (sym at_stage) (unfinished old.stage back goes old.waits)

    pub none_found : Reads n (back ++ b ∷ []) end → ⊥
    none_found r = let z : length back + 1 ≡ 0 = sym (length-append back (b ∷ [])) ∙ ap length (end_empty r) in omega arith

    pub cut_on : (e : Fault) → Reads n (back ++ b ∷ []) (refused e) → e.cause ≡ CutShort → Listening (heard ++ b ∷ []) said p (back ++ b ∷ [])
    cut_on e r c =
        record {
          seen = old.seen;
          stage = old.stage;
          parts = more heard old.seen back b old.parts;
          conversed = old.conversed;
          stands = old.stands;
          waits = front_held old.stage (back ++ b ∷ []) goes (subst (λ (k : ℕ). Unfinished k (back ++ b ∷ [])) at_stage (cut_short r c).0);
        }

    pub broken_on : (e : Fault) → Reads n (back ++ b ∷ []) (refused e) → Listening (heard ++ b ∷ []) (said ++ refusal_bytes e) Over []
    broken_on e r =
        record {
          seen = old.seen ++ (back ++ b ∷ []);
          stage = Stage.over;
          parts = more heard old.seen back b old.parts ∙ sym (append-nil (old.seen ++ (back ++ b ∷ [])));
          conversed = Conversed.broken old.stage (back ++ b ∷ []) e old.conversed goes (subst (λ (k : ℕ). Reads k (back ++ b ∷ []) (refused e)) at_stage r);
          stands = tt;
          waits = refl;
        }

    pub found_on : (i : Image) (rest next-said : List ℕ) (next : Phase) → Reads n (back ++ b ∷ []) (found i rest) → ((stage : Stage) → At p stage → Conversed old.seen said stage → Proper (phase_lines p) i → CarriesOn (old.seen ++ record_of i) next-said next) → Listening (heard ++ b ∷ []) next-said next []
    found_on i rest next-said next r on-with =
        let f = found_parts r in
        let nil : rest ≡ [] = nothing_over n back b i rest waited f.0 f.1 f.2 in
        let whole : back ++ b ∷ [] ≡ record_of i = f.2 ∙ ap (λ (x : List ℕ). record_of i ++ x) nil ∙ append-nil (record_of i) in
        let g : CarriesOn (old.seen ++ record_of i) next-said next = on-with old.stage old.stands old.conversed (subst (λ (k : ℕ). Proper k i) lines f.1) in
        record {
          seen = old.seen ++ record_of i;
          stage = g.stage;
          parts = more heard old.seen back b old.parts ∙ ap (λ (x : List ℕ). old.seen ++ x) whole ∙ sym (append-nil (old.seen ++ record_of i));
          conversed = g.conversed;
          stands = g.at;
          waits = nothing_held g.stage;
        }

-- the end of input
module _ (heard said : List ℕ) (p : Phase) (back : List ℕ) (old : Listening heard said p back) where
  pub ended_cut : (1 ≤ length back) → (n : ℕ) → n ≡ phase_lines p → (e : Fault) → Reads n back (refused e) → Ended heard (said ++ refusal_bytes e)
  ended_cut some n lines e r = go old.stage old.conversed old.stands old.waits (lines ∙ same_lines p old.stage old.stands)
    where
      go : (stage : Stage) → Conversed old.seen said stage → At p stage → Waits stage back → n ≡ lines_at stage → Ended heard (said ++ refusal_bytes e)
      go Stage.over c at w k = absurd (omega (arith, ap length w))
      go Stage.waiting c at w k = record { stage = Stage.over; conversed = subst (λ (x : List ℕ). Conversed x (said ++ refusal_bytes e) Stage.over) (sym old.parts) (Conversed.broken Stage.waiting back e c tt (subst (λ (j : ℕ). Reads j back (refused e)) k r)) }
      go (Stage.serving m rows s) c at w k = record { stage = Stage.over; conversed = subst (λ (x : List ℕ). Conversed x (said ++ refusal_bytes e) Stage.over) (sym old.parts) (Conversed.broken (Stage.serving m rows s) back e c tt (subst (λ (j : ℕ). Reads j back (refused e)) k r)) }

-- one piece after another
pub both : (heard : List ℕ) (piece : List ℕ) (i : ℕ) (b : ℕ) → take (i + 1) piece ≡ take i piece ++ b ∷ [] → heard ++ take (i + 1) piece ≡ (heard ++ take i piece) ++ b ∷ []
both heard piece i b e = ap (λ (x : List ℕ). heard ++ x) e ∙ sym (append_assoc heard (take i piece) (b ∷ []))

-- what was appended, where it was
pub appended : {E : Type 0} {P : Type 0} (r : Result (Unit {0}) E) (before bytes after : List ℕ) → after ≡ cond (is_ok r) (before ++ bytes) before → (after ≡ before ++ bytes → P) → IfOk r (λ _. P)
appended (Ok x) before bytes after e f = f e
appended (Err x) before bytes after e f = tt
