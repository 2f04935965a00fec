-- What a conversation in records is: which records have been read, and what has been said to them.
use Rattle.std.specs.Prelude.{◌≡◌, ℕ, List, [], ◌∷◌, ◌++◌, length, Ok, Err}
use Rattle.card.specs.declared.fault.Cause.TheVariants.{UnknownCard, CutShort}
use Rattle.card.specs.declared.fault.Layer.TheVariants.{Card, Record}
use Rattle.card.specs.declared.fault.Fault.{Fault}
use Rattle.card.specs.Faults.{fault}
use Rattle.card.specs.Meaning.{Meaning}
use Rattle.payload.specs.declared.Frame.{Frame}
use Rattle.payload.specs.Silence.{quiet_number, quiet_frame}
use Rattle.cabinet.specs.Orders.{Order, Row}
use Rattle.cabinet.specs.Logs.{Standing, Log}
use Rattle.cabinet.specs.Telling.{Throughout}
use Rattle.cabinet.specs.Carrying.{Sent}
use Rattle.cabinet.specs.States.{standing}
use Rattle.cabinet.specs.Serving.{numbers}
use Rattle.kinds.specs.Kinds.{Kind, built_meaning}
use Rattle.records.specs.Format.{Image, record_of, Proper}
use Rattle.records.specs.Reading.{Reads, refused}
use Rattle.records.specs.Frames.{frames_bytes}
use Rattle.records.specs.Answering.{done_bytes, ring_bytes, voice_bytes, refusal_bytes}
use Rattle.conversation.specs.declared.talk.Phase.{Phase}
use Rattle.conversation.specs.declared.talk.Phase.TheVariants.{Waiting, Serving, Over}
use Rattle.conversation.specs.declared.talk.Talk.{Talk}

-- the order that a record gives to the cabinet
pub data Gives : Image → Order → Type 0 where
  plan : (ps : List ℕ) → Gives (Image.plan ps) (Order.plan ps)
  patch : (i o : ℕ) → Gives (Image.patch i o) (Order.patch i o)
  drop_input : (i : ℕ) → Gives (Image.unpatch i) (Order.drop i)
  hold : (c p : ℕ) → Gives (Image.hold c p) (Order.hold c p)
  release : (c : ℕ) → Gives (Image.release c) (Order.release c)

-- a record, the bytes that answer it and the row that it leaves in the log, on a card of n lines; the setting is the one that stands after it
pub data Exchange (n : ℕ) (setting : List ℕ) : Image → List ℕ → Row → Type 0 where
  done : {i : Image} {o : Order} → Gives i o → (k : ℕ) → Exchange n setting i (done_bytes k setting) (Row.ordered o (Ok k))
  refused_order : {i : Image} {o : Order} → Gives i o → (e : Fault) → Exchange n setting i (refusal_bytes e) (Row.ordered o (Err e))
  rung : (route out : List ℕ) → Sent quiet_number (numbers n) route out → Exchange n setting Image.ring_out (ring_bytes out) (Row.carried n n (Ok route))
  not_rung : (e : Fault) → Exchange n setting Image.ring_out (refusal_bytes e) (Row.carried n n (Err e))
  voiced : (given out : List Frame) (route : List ℕ) → length given ≡ n → Sent quiet_frame given route out → Exchange n setting (Image.voice (frames_bytes given)) (voice_bytes out) (Row.carried n n (Ok route))
  not_voiced : (body : List ℕ) (e : Fault) → Exchange n setting (Image.voice body) (refusal_bytes e) (Row.carried n n (Err e))

-- where a conversation stands: no card yet; a cabinet, with its card's meaning, its log and what stands in it; or over
pub data Stage : Type 0 where
  waiting : Stage
  serving : Meaning → List Row → Standing → Stage
  over : Stage

-- the line count that records are read at
abbrev pub lines_at : Stage → ℕ
lines_at waiting = 0
lines_at (serving m rows s) = m.lines
lines_at over = 0

-- the conversation goes on
abbrev pub Going : Stage → Type 0
Going waiting = Unit {0}
Going (serving m rows s) = Unit {0}
Going over = ⊥

-- these bytes have been read and these have been said, and the conversation stands so: whole records, each with its answer, in order
pub data Conversed : List ℕ → List ℕ → Stage → Type 0 where
  -- nothing yet
  begun : Conversed [] [] waiting
  -- the first record commissions a card of a known kind
  commissioned : (k n : ℕ) (m : Meaning) (s : Standing) → Kind k n m → Log m (Row.commissioned m.lines m.cells ∷ []) s → Conversed (record_of (Image.commission k n)) (done_bytes 0 s.setting) (serving m (Row.commissioned m.lines m.cells ∷ []) s)
  -- or of an unknown one, and it is over
  unknown : (k n : ℕ) → ((m : Meaning) → Kind k n m → ⊥) → Conversed (record_of (Image.commission k n)) (refusal_bytes (fault UnknownCard Card n)) over
  -- each further record leaves its row in the log of the cabinet
  exchanged : {seen said : List ℕ} (m : Meaning) (rows : List Row) (s t : Standing) (i : Image) (bytes : List ℕ) (row : Row) → Conversed seen said (serving m rows s) → Proper m.lines i → Exchange m.lines t.setting i bytes row → Log m (row ∷ rows) t → Conversed (seen ++ record_of i) (said ++ bytes) (serving m (row ∷ rows) t)
  -- a mark that is unknown or out of place ends it, and so does the end of input within a record
  broken : {seen said : List ℕ} (stage : Stage) (bs : List ℕ) (e : Fault) → Conversed seen said stage → Going stage → Reads (lines_at stage) bs (refused e) → Conversed (seen ++ bs) (said ++ refusal_bytes e) over
  -- after that nothing more is answered
  silent : {seen said : List ℕ} (more : List ℕ) → Conversed seen said over → Conversed (seen ++ more) said over

-- the phase of the code is this stage; the cabinet's log tells all that logs tell
abbrev pub At : Phase → Stage → Type 0
At Waiting waiting = Unit {0}
At Waiting (serving m rows s) = ⊥
At Waiting over = ⊥
At (Serving c) waiting = ⊥
At (Serving c) (serving m rows s) = (m ≡ built_meaning c.card) × (s ≡ standing m c.state) × ((log : Log m rows s) × Throughout m rows s log)
At (Serving c) over = ⊥
At Over waiting = ⊥
At Over (serving m rows s) = ⊥
At Over over = Unit {0}

-- bytes that are no whole record at n lines yet: none, or the front of one
pub data Unfinished (n : ℕ) (bs : List ℕ) : Type 0 where
  nothing : bs ≡ [] → Unfinished n bs
  front : (p : ℕ) → Reads n bs (refused (fault CutShort Record p)) → Unfinished n bs

-- what is held back is no whole record yet: nothing, or the front of one; and nothing is held back once it is over
abbrev pub Waits : Stage → List ℕ → Type 0
Waits waiting bs = Unfinished 0 bs
Waits (serving m rows s) bs = Unfinished m.lines bs
Waits over bs = bs ≡ []

-- in this phase, with these bytes held back, these have been heard and those said: what was heard is what was read, and what is held back
pub record Listening (heard said : List ℕ) (p : Phase) (back : List ℕ) : Type 0 where
  pub seen : List ℕ
  pub stage : Stage
  pub parts : heard ≡ seen ++ back
  pub conversed : Conversed seen said stage
  pub stands : At p stage
  pub waits : Waits stage back

abbrev pub Heard : List ℕ → List ℕ → Talk → Type 0
Heard heard said t = Listening heard said t.phase t.pending.items

-- hearing a piece carries every conversation on: whatever had been heard and said, the piece has been heard too, and what is now in the buffer has been said; what was taken from the buffer before is drained
abbrev pub Hears : List ℕ → List ℕ → Talk → List ℕ → Talk → Type 0
Hears piece before t after u = (heard drained : List ℕ) → Heard heard (drained ++ before) t → Heard (heard ++ piece) (drained ++ after) u

-- the end of input: all that was heard is read, a record that is cut short with the answer to it
pub record Ended (heard said : List ℕ) : Type 0 where
  pub stage : Stage
  pub conversed : Conversed heard said stage

abbrev pub Finishes : List ℕ → Talk → List ℕ → Type 0
Finishes before t after = (heard drained : List ℕ) → Heard heard (drained ++ before) t → Ended heard (drained ++ after)
