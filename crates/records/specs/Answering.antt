-- The bytes of an answer.
use Rattle.std.specs.Prelude.{ℕ, List, [], ◌∷◌, ◌++◌, codes}
use Rattle.card.specs.declared.fault.Fault.{Fault}
use Rattle.card.specs.Faults.{cause_number, layer_number}
use Rattle.payload.specs.declared.Frame.{Frame}
use Rattle.records.specs.Frames.{frames_bytes}
use Rattle.records.specs.declared.answer.Answer.{Answer}
use Rattle.records.specs.declared.answer.Answer.TheVariants.{Done, RungOut, Refused}

-- each answer is two letters, and then what it holds: how many cells moved, and the position of each cell;
abbrev pub done_bytes : ℕ → List ℕ → List ℕ
done_bytes moved setting = codes "OK" ++ (moved ∷ setting)

-- what each output got in a ring-out;
abbrev pub ring_bytes : List ℕ → List ℕ
ring_bytes numbers = codes "RA" ++ numbers

-- the frame that each output got;
abbrev pub voice_bytes : List Frame → List ℕ
voice_bytes frames = codes "VA" ++ frames_bytes frames

-- or a refusal's number, layer and place
abbrev pub refusal_bytes : Fault → List ℕ
refusal_bytes f = codes "NO" ++ (cause_number f.cause ∷ layer_number f.layer ∷ f.place ∷ [])

abbrev pub answer_bytes : Answer → List ℕ
answer_bytes (Done moved setting) = done_bytes moved setting.now
answer_bytes (RungOut numbers) = ring_bytes numbers.now
answer_bytes (Refused f) = refusal_bytes f
