-- The frames of a body, one after another.
use Rattle.std.proofs.Common.{◌≡◌, ℕ, zero, suc, ◌+◌, ◌*◌, ◌<◌, ◌≤◌, List, [], ◌++◌, length, get_or, take, drop, set, replicate, sym, refl, ap, ◌∙◌, inl, inr, ◌⊎◌, length-drop, subst, ⊎_elim, arith, length-set, take-add}
use lib.ListN.{get_or-replicate}
use Rattle.std.proofs.lemmas.List.{drop-drop, get_or-set_same, get_or-set_other, take_more, take_all, flat_map_more}
use Rattle.std.proofs.lemmas.Bool.{cases_lt}
use Rattle.payload.specs.declared.Frame.{Frame}
use Rattle.payload.specs.Silence.{quiet_frame}
use Rattle.records.specs.Frames.{Typed, Framed, frame_bytes, frames_bytes}

-- what has been read of a body when n frames have been tried
pub record SoFar (body : List ℕ) (n : ℕ) (frames : List Frame) : Type 0 where
  pub size : length frames ≡ 16
  pub typed : (i : ℕ) → i < n → 11 * i + 11 ≤ length body → Typed (get_or frames i quiet_frame)
  pub whole : (i : ℕ) → i < n → 11 * i + 11 ≤ length body → frame_bytes (get_or frames i quiet_frame) ≡ take 11 (drop (11 * i) body)
  pub others : (i : ℕ) → i < n → length body < 11 * i + 11 → get_or frames i quiet_frame ≡ quiet_frame
  pub rest : (i : ℕ) → n ≤ i → i < 16 → get_or frames i quiet_frame ≡ quiet_frame

-- what is left of a body when n frames have been tried: the bytes past them, or too few for one more
abbrev pub Left : List ℕ → ℕ → List ℕ → Type 0
Left body n rest = (rest ≡ drop (11 * n) body) ⊎ ((length rest < 11) × (length body < 11 * n + 11))

pub left_short : (body : List ℕ) (n : ℕ) (rest : List ℕ) → Left body n rest → length rest < 11 → length body < 11 * n + 11
left_short body n rest (inl e) h = omega (arith, ap length e ∙ length-drop (11 * n) body)
left_short body n rest (inr p) h = p.1

pub left_more : (body : List ℕ) (n : ℕ) (rest : List ℕ) → Left body n rest → 11 ≤ length rest → (rest ≡ drop (11 * n) body) × (drop 11 rest ≡ drop (11 * (n + 1)) body) × (11 * n + 11 ≤ length body)
left_more body n rest (inl e) h = (e, ap (λ (l : List ℕ). drop 11 l) e ∙ drop-drop 11 (11 * n) body ∙ ap (λ (k : ℕ). drop k body) (omega arith), omega (arith, ap length e ∙ length-drop (11 * n) body))
left_more body n rest (inr p) h = absurd (omega (arith, p.0))

pub none_yet : (body : List ℕ) (q : Frame) → q ≡ quiet_frame → SoFar body 0 (replicate 16 q)
none_yet body q e =
    record {
      size = refl;
      typed = λ i h. absurd (omega arith);
      whole = λ i h. absurd (omega arith);
      others = λ i h. absurd (omega arith);
      rest = λ i h k. get_or-replicate 16 i q quiet_frame k ∙ e;
    }

module _ (body : List ℕ) (n : ℕ) (frames : List Frame) (small : n < 16) (old : SoFar body n frames) where
  pub one_more : (f : Frame) → 11 * n + 11 ≤ length body → Typed f → frame_bytes f ≡ take 11 (drop (11 * n) body) → SoFar body (n + 1) (set frames n f)
  one_more f fits typed value =
      record {
        size = length-set frames n f ∙ old.size;
        typed = λ i h k. ⊎_elim (λ low. rw (other i (omega arith)) (old.typed i low k)) (λ high. rw (same i (omega arith)) typed) (cases_lt i n);
        whole = λ i h k. ⊎_elim (λ low. rw (other i (omega arith)) (old.whole i low k)) (λ high. let e : i ≡ n = omega arith in rw (same i e) (value ∙ ap (λ (x : ℕ). take 11 (drop (11 * x) body)) (sym e))) (cases_lt i n);
        others = λ i h k. ⊎_elim (λ low. other i (omega arith) ∙ old.others i low k) (λ high. let e : i ≡ n = omega arith in absurd (omega (arith, subst (λ (x : ℕ). length body < 11 * x + 11) e k))) (cases_lt i n);
        rest = λ i h k. other i (omega arith) ∙ old.rest i (omega arith) k;
      }
    where
      same : (i : ℕ) → i ≡ n → get_or (set frames n f) i quiet_frame ≡ f
      same i e = ap (λ (x : ℕ). get_or (set frames n f) x quiet_frame) e ∙ get_or-set_same frames n f quiet_frame (omega (arith, old.size))

      other : (i : ℕ) → (i ≡ n → ⊥) → get_or (set frames n f) i quiet_frame ≡ get_or frames i quiet_frame
      other i ne = get_or-set_other frames n i f quiet_frame ne

  pub none_more : length body < 11 * n + 11 → SoFar body (n + 1) frames
  none_more short =
      record {
        size = old.size;
        typed = λ i h k. ⊎_elim (λ low. old.typed i low k) (λ high. let e : i ≡ n = omega arith in absurd (omega (arith, subst (λ (x : ℕ). 11 * x + 11 ≤ length body) e k))) (cases_lt i n);
        whole = λ i h k. ⊎_elim (λ low. old.whole i low k) (λ high. let e : i ≡ n = omega arith in absurd (omega (arith, subst (λ (x : ℕ). 11 * x + 11 ≤ length body) e k))) (cases_lt i n);
        others = λ i h k. ⊎_elim (λ low. old.others i low k) (λ high. old.rest i high (omega arith)) (cases_lt i n);
        rest = λ i h k. old.rest i (omega arith) k;
      }

module _ (body : List ℕ) (frames : List Frame) (done : SoFar body 16 frames) where
  front : (k : ℕ) → k ≤ 16 → 11 * k ≤ length body → frames_bytes (take k frames) ≡ take (11 * k) body
  front zero h l = refl
  front (suc k) h l =
      let e : suc k ≡ k + 1 = omega arith in
      let g : 11 * suc k ≡ 11 * k + 11 = omega arith in
      ap (λ (n : ℕ). frames_bytes (take n frames)) e
      ∙ ap frames_bytes (take_more frames k quiet_frame (omega (arith, done.size)))
      ∙ sym (flat_map_more frame_bytes [] (take k frames) (get_or frames k quiet_frame))
      ∙ ap (λ (x : List ℕ). x ++ frame_bytes (get_or frames k quiet_frame)) (front k (omega arith) (omega arith))
      ∙ ap (λ (x : List ℕ). take (11 * k) body ++ x) (done.whole k (omega arith) (omega arith))
      ∙ sym (take-add (11 * k) 11 body)
      ∙ ap (λ (n : ℕ). take n body) (sym g)

  pub framed : Framed body frames
  framed =
      record {
        size = done.size;
        typed = done.typed;
        whole = done.whole;
        others = done.others;
        all = λ n h l. front n h (omega arith) ∙ take_all (11 * n) body (omega arith);
      }
