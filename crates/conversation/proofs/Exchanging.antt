-- From a command that was obeyed to the order that was answered.
use Rattle.std.proofs.Common.{◌≡◌, ℕ, ◌*◌, ◌≤◌, List, length, take, Ok, Err, Result, sym, refl, ap, ◌∙◌, subst, arith, Bor}
use Rattle.std.proofs.lemmas.List.{length-take-le}
use Rattle.card.specs.declared.fault.Fault.{Fault}
use Rattle.payload.specs.declared.Frame.{Frame}
use Rattle.cabinet.specs.declared.Cabinet.{Cabinet}
use Rattle.cabinet.specs.declared.command.Command.{Command}
use Rattle.cabinet.specs.declared.command.Command.TheVariants.{RingOut, Voice}
use Rattle.cabinet.specs.declared.command.Reply.{Reply}
use Rattle.cabinet.specs.Orders.{Order, Row}
use Rattle.cabinet.specs.States.{standing}
use Rattle.cabinet.specs.Serving.{Entry, Ordering}
use Rattle.kinds.specs.declared.built.Built.{Built}
use Rattle.records.specs.declared.order.Order.{Order as RecordOrder}
use Rattle.records.specs.declared.order.Order.TheVariants as order
use Rattle.records.specs.Format.{Image, Proper, image}
use Rattle.records.specs.Frames.{Framed, frames_bytes}
use Rattle.conversation.specs.Talking.{Gives, Exchange}
use Rattle.conversation.specs.Answering.{means, GivesCommand, GivesNone, Acted, Answers, reply_bytes}

-- a command gives one order
same_order : {i : Image} {c : Command} {o p : Order} → Gives i o → Ordering c o → Ordering c p → Gives i p
same_order g (Ordering.plan ps) (Ordering.plan qs) = g
same_order g (Ordering.patch i o) (Ordering.patch j p) = g
same_order g (Ordering.drop_input i) (Ordering.drop_input j) = g
same_order g (Ordering.hold c p) (Ordering.hold d q) = g
same_order g (Ordering.release c) (Ordering.release d) = g

ordered_exchange : {n : ℕ} {setting : List ℕ} {i : Image} {c : Command} {o : Order} (r : Result Reply Fault) (row : Row) → Gives i o → Ordering c o → Entry n c r row → Exchange n setting i (reply_bytes n setting r) row
ordered_exchange r row g is (Entry.done c o k is') = Exchange.done (same_order g is is') k
ordered_exchange r row g is (Entry.refused c o e is') = Exchange.refused_order (same_order g is is') e
ordered_exchange r row g is (Entry.rung route table t) = elim is [ ]
ordered_exchange r row g is (Entry.not_rung e) = elim is [ ]
ordered_exchange r row g is (Entry.voiced given route table t) = elim is [ ]
ordered_exchange r row g is (Entry.not_voiced given e) = elim is [ ]

rung_exchange : {n : ℕ} {setting : List ℕ} (r : Result Reply Fault) (row : Row) → Entry n RingOut r row → Exchange n setting Image.ring_out (reply_bytes n setting r) row
rung_exchange r row (Entry.done c o k is) = elim is [ ]
rung_exchange r row (Entry.refused c o e is) = elim is [ ]
rung_exchange {n = n} r row (Entry.rung route table t) = Exchange.rung route (take n table) t.sent
rung_exchange r row (Entry.not_rung e) = Exchange.not_rung e

commanded_exchange : {n : ℕ} {setting : List ℕ} {i : Image} {c : Command} (r : Result Reply Fault) (row : Row) → GivesCommand i c → Entry n c r row → Exchange n setting i (reply_bytes n setting r) row
commanded_exchange r row (GivesCommand.ordered g is) e = ordered_exchange r row g is e
commanded_exchange r row GivesCommand.ring_out e = rung_exchange r row e

-- an order whose command was obeyed
pub answers : (b : Cabinet Built) (i : Image) (c : Command) (before after : List ℕ) (d : Cabinet Built) → GivesCommand i c → Acted b c before after d → Answers b i before after d
answers b i c before after d g h =
    record { card = h.card; bytes = reply_bytes (means b).lines (standing (means b) d.state).setting h.reply; row = h.row; exchange = commanded_exchange h.reply h.row g h.entry; said = h.said; log = h.log }

-- a voice order: its frames are those of its body
voiced_exchange : {n : ℕ} {setting : List ℕ} (given : Bor (List Frame)) (r : Result Reply Fault) (row : Row) → length given.now ≡ n → Entry n (Voice given) r row → Exchange n setting (Image.voice (frames_bytes given.now)) (reply_bytes n setting r) row
voiced_exchange given r row size (Entry.done c o k is) = elim is [ ]
voiced_exchange given r row size (Entry.refused c o e is) = elim is [ ]
voiced_exchange {n = n} {setting = setting} given r row size (Entry.voiced g route table t) =
    subst (λ (k : ℕ). Exchange n setting (Image.voice (frames_bytes given.now)) (reply_bytes n setting (Ok (Rattle.cabinet.specs.declared.command.Reply.TheVariants.Frames table))) (Row.carried k n (Ok route))) (sym size)
    (Exchange.voiced given.now (take n table) route size t.sent)
voiced_exchange {n = n} {setting = setting} given r row size (Entry.not_voiced g e) =
    subst (λ (k : ℕ). Exchange n setting (Image.voice (frames_bytes given.now)) (reply_bytes n setting (Err e)) (Row.carried k n (Err e))) (sym size)
    (Exchange.not_voiced (frames_bytes given.now) e)

pub answers_voice : (b : Cabinet Built) (body : List ℕ) (given : Bor (List Frame)) (frames : List Frame) (k : ℕ) (before after : List ℕ) (d : Cabinet Built) → (means b).lines ≤ 16 → k ≡ (means b).lines → given.now ≡ take k frames → Framed body frames → Proper (means b).lines (Image.voice body) → Acted b (Voice given) before after d → Answers b (Image.voice body) before after d
answers_voice b body given frames k before after d few lines is framed proper h =
    let size : length given.now ≡ (means b).lines = ap length is ∙ length-take-le k frames (omega (arith, framed.size)) ∙ lines in
    let bytes : frames_bytes given.now ≡ body = ap frames_bytes is ∙ framed.all k (omega arith) (proper.sized ∙ ap (λ (n : ℕ). 11 * n) (sym lines)) in
    record {
      card = h.card;
      bytes = reply_bytes (means b).lines (standing (means b) d.state).setting h.reply;
      row = h.row;
      exchange = subst (λ (x : List ℕ). Exchange (means b).lines (standing (means b) d.state).setting (Image.voice x) (reply_bytes (means b).lines (standing (means b) d.state).setting h.reply) h.row) bytes (voiced_exchange given h.reply h.row size h.entry);
      said = h.said;
      log = h.log;
    }

-- an order that is none of the others is a commission or a voice order
pub none_left : (o : RecordOrder) → ((x : Bor (List ℕ)) → o ≡ order.Plan x → ⊥) → ((x y : ℕ) → o ≡ order.Patch x y → ⊥) → ((x : ℕ) → o ≡ order.Drop x → ⊥) → ((x y : ℕ) → o ≡ order.Hold x y → ⊥) → ((x : ℕ) → o ≡ order.Release x → ⊥) → (o ≡ order.RingOut → ⊥) → GivesNone (image o)
none_left (order.Commission k n) a b c d e f = GivesNone.commission k n
none_left (order.Plan x) a b c d e f = absurd (a x refl)
none_left (order.Patch x y) a b c d e f = absurd (b x y refl)
none_left (order.Drop x) a b c d e f = absurd (c x refl)
none_left (order.Hold x y) a b c d e f = absurd (d x y refl)
none_left (order.Release x) a b c d e f = absurd (e x refl)
none_left order.RingOut a b c d e f = absurd (f refl)
none_left (order.Voice x) a b c d e f = GivesNone.voice x.now

-- a commission does not stand where there are lines, and a voice order is not left out
pub not_here : (n : ℕ) (o : RecordOrder) → 2 ≤ n → ((x : Bor (List ℕ)) → o ≡ order.Voice x → ⊥) → Proper n (image o) → GivesNone (image o) → ⊥
not_here n (order.Commission k l) some voice p h = omega (arith, p.stands)
not_here n (order.Plan x) some voice p h = elim h [ ]
not_here n (order.Patch x y) some voice p h = elim h [ ]
not_here n (order.Drop x) some voice p h = elim h [ ]
not_here n (order.Hold x y) some voice p h = elim h [ ]
not_here n (order.Release x) some voice p h = elim h [ ]
not_here n order.RingOut some voice p h = elim h [ ]
not_here n (order.Voice x) some voice p h = voice x refl
