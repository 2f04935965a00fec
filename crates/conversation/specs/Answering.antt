-- What the answer to one order says and leaves.
use Rattle.std.specs.Prelude.{◌≡◌, ℕ, Bool, true, false, List, [], ◌∷◌, ◌++◌, take, Some, None, Ok, Err, Option, Result}
use Rattle.card.specs.declared.fault.Cause.TheVariants.{UnknownCard}
use Rattle.card.specs.declared.fault.Layer.TheVariants.{Card}
use Rattle.card.specs.declared.fault.Fault.{Fault}
use Rattle.card.specs.Faults.{fault}
use Rattle.card.specs.Meaning.{Meaning}
use Rattle.cabinet.specs.declared.Cabinet.{Cabinet}
use Rattle.cabinet.specs.declared.command.Command.{Command}
use Rattle.cabinet.specs.declared.command.Command.TheVariants.{RingOut}
use Rattle.cabinet.specs.declared.command.Reply.{Reply}
use Rattle.cabinet.specs.declared.command.Reply.TheVariants.{Moved, Numbers, Frames}
use Rattle.cabinet.specs.Orders.{Order, Row}
use Rattle.cabinet.specs.Logs.{Standing, Log}
use Rattle.cabinet.specs.States.{standing}
use Rattle.cabinet.specs.Serving.{Entry, Ordering}
use Rattle.kinds.specs.declared.built.Built.{Built}
use Rattle.kinds.specs.Kinds.{Kind, built_meaning}
use Rattle.records.specs.Format.{Image, Proper, record_of}
use Rattle.records.specs.Answering.{done_bytes, ring_bytes, voice_bytes, refusal_bytes}
use Rattle.conversation.specs.declared.talk.Phase.{Phase}
use Rattle.conversation.specs.declared.talk.Phase.TheVariants.{Waiting, Serving, Over}
use Rattle.conversation.specs.Talking.{Exchange, Gives, Stage, Conversed, At}

-- what a cabinet's card means, and what stands in it
abbrev pub means : Cabinet Built → Meaning
means c = built_meaning c.card

abbrev pub stands : Cabinet Built → Standing
stands c = standing (means c) c.state

-- the first answer: a cabinet on a card of the kind, or a refusal
abbrev pub Commissioned : ℕ → ℕ → List ℕ → List ℕ → Phase → Type 0
Commissioned k n before after Waiting = ⊥
Commissioned k n before after (Serving c) = Kind k n (means c) × Log (means c) (Row.commissioned (means c).lines (means c).cells ∷ []) (stands c) × (after ≡ before ++ done_bytes 0 (stands c).setting)
Commissioned k n before after Over = ((m : Meaning) → Kind k n m → ⊥) × (after ≡ before ++ refusal_bytes (fault UnknownCard Card n))

-- the bytes of a reply, on a card of n lines where this setting stands
abbrev pub reply_bytes : ℕ → List ℕ → Result Reply Fault → List ℕ
reply_bytes n setting (Ok (Moved k)) = done_bytes k setting
reply_bytes n setting (Ok (Numbers table)) = ring_bytes (take n table)
reply_bytes n setting (Ok (Frames table)) = voice_bytes (take n table)
reply_bytes n setting (Err e) = refusal_bytes e

-- a command is obeyed and its reply said
pub record Acted (b : Cabinet Built) (c : Command) (before after : List ℕ) (d : Cabinet Built) : Type 0 where
  pub card : d.card ≡ b.card
  pub reply : Result Reply Fault
  pub row : Row
  pub entry : Entry (means b).lines c reply row
  pub said : after ≡ before ++ reply_bytes (means b).lines (standing (means b) d.state).setting reply
  pub log : (rows : List Row) → Log (means b) rows (stands b) → Log (means b) (row ∷ rows) (standing (means b) d.state)

-- the command that an order gives
pub data GivesCommand : Image → Command → Type 0 where
  ordered : {i : Image} {o : Order} {c : Command} → Gives i o → Ordering c o → GivesCommand i c
  ring_out : GivesCommand Image.ring_out RingOut

-- an order that gives none: a commission, or a voice order
pub data GivesNone : Image → Type 0 where
  commission : (k n : ℕ) → GivesNone (Image.commission k n)
  voice : (body : List ℕ) → GivesNone (Image.voice body)

abbrev pub Commanded : Image → Option Command → Type 0
Commanded i None = GivesNone i
Commanded i (Some c) = GivesCommand i c

-- an order that may stand is obeyed and answered
pub record Answers (b : Cabinet Built) (i : Image) (before after : List ℕ) (d : Cabinet Built) : Type 0 where
  pub card : d.card ≡ b.card
  pub bytes : List ℕ
  pub row : Row
  pub exchange : Exchange (means b).lines (standing (means b) d.state).setting i bytes row
  pub said : after ≡ before ++ bytes
  pub log : (rows : List Row) → Log (means b) rows (stands b) → Log (means b) (row ∷ rows) (standing (means b) d.state)

abbrev pub Exchanged : Cabinet Built → Image → List ℕ → List ℕ → Cabinet Built → Type 0
Exchanged b i before after d = Proper (means b).lines i → Answers b i before after d

-- the line count that records are read at in a phase
abbrev pub phase_lines : Phase → ℕ
phase_lines Waiting = 0
phase_lines (Serving c) = (means c).lines
phase_lines Over = 0

-- whether a phase is the last
abbrev pub over_phase : Phase → Bool
over_phase Waiting = false
over_phase (Serving c) = false
over_phase Over = true

-- an order answered in a phase carries every conversation on that stands so
pub record CarriesOn (seen said : List ℕ) (next : Phase) : Type 0 where
  pub stage : Stage
  pub conversed : Conversed seen said stage
  pub at : At next stage

abbrev pub Responded : Phase → Image → List ℕ → List ℕ → Phase → Type 0
Responded p i before after next = (seen drained : List ℕ) (stage : Stage) → At p stage → Conversed seen (drained ++ before) stage → Proper (phase_lines p) i → CarriesOn (seen ++ record_of i) (drained ++ after) next
