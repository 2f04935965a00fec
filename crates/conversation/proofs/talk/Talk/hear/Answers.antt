use Rattle.std.proofs.Common.{Ok, ℕ, List, [], ◌∷◌, ◌++◌, vec_items, Option, sym, ap, ◌∙◌, subst, append_assoc, Bor, rules}
use Rattle.records.specs.declared.answer.Answer.{Answer}
use Rattle.records.specs.declared.order.Order.{Order}
use Rattle.records.specs.Format.{image}
use Rattle.records.specs.Reading.{Reads, found, refused, reading_of}
use Rattle.records.specs.Answering.{refusal_bytes, answer_bytes}
use Rattle.conversation.specs.declared.talk.Phase.{Phase}
use Rattle.conversation.specs.declared.talk.Phase.TheVariants.{Over}
use Rattle.conversation.specs.Talking.{Listening}
use Rattle.conversation.specs.Answering.{Responded}
use Rattle.conversation.proofs.HearingOn.{not_over, is_over, over_on, cut_on, broken_on, found_on}
use Rattle.conversation.proofs.talk.Talk.hear.Goals as goal

pub returns-then-is_over-clause-heard : goal.returns-then-is_over-clause-heard
returns-then-is_over-clause-heard c heard drained old = over_on heard _ c.args.self.now.phase _ c.args.byte old (is_over c.args.self.now.phase c.if-is_over.ensures)

pub returns-in-Ok-clause-heard : goal.returns-in-Ok-clause-heard
returns-in-Ok-clause-heard c heard drained old =
    subst (λ (x : List ℕ). Listening (heard ++ c.args.byte ∷ []) (drained ++ vec_items c.respond.new.out) c.in-Ok.next x) (sym c.clear.ensures)
    (found_on heard (drained ++ vec_items c.args.out.now) c.args.self.now.phase c.args.self.now.pending.items c.args.byte old (not_over c.args.self.now.phase c.if-is_over.ensures) c.lines_at.result c.lines_at.ensures
    (image c.in-Ok-Some.order) c.in-Ok-Some.field-0-0-1.now (drained ++ vec_items c.respond.new.out) c.in-Ok.next
    (subst (λ (x : List ℕ). Reads c.lines_at.result x (found (image c.in-Ok-Some.order) c.in-Ok-Some.field-0-0-1.now)) (c.as_slice.ensures.value ∙ c.push.ensures.items) (subst (λ (x : Option (Order × Bor (List ℕ))). Reads c.lines_at.result c.as_slice.result.now (reading_of (Ok x))) c.in-Ok-Some.field-0-is c.in-Ok-Some.ensures.rule))
    (λ stage at conv proper. subst (λ (x : Phase). Responded x (image c.in-Ok-Some.order) (vec_items c.args.out.now) (vec_items c.respond.new.out) c.in-Ok.next) c.replace-phase.ensures.value c.in-Ok.ensures old.seen drained stage at conv proper))

pub returns-in_default-clause-heard : goal.returns-in_default-clause-heard
returns-in_default-clause-heard c heard drained old =
    subst (λ (x : List ℕ). Listening (heard ++ c.args.byte ∷ []) (drained ++ vec_items c.put.new.out) Over x) (sym c.clear-then-ne.ensures)
    (subst (λ (x : List ℕ). Listening (heard ++ c.args.byte ∷ []) x Over [])
    (append_assoc drained (vec_items c.args.out.now) (refusal_bytes c.in-Err.fault) ∙ ap (λ (x : List ℕ). drained ++ x) (sym (c.in_default.ensures.items ∙ ap (λ (a : Answer). vec_items c.args.out.now ++ answer_bytes a) c.from.ensures)))
    (broken_on heard (drained ++ vec_items c.args.out.now) c.args.self.now.phase c.args.self.now.pending.items c.args.byte old (not_over c.args.self.now.phase c.if-is_over.ensures) c.lines_at.result c.lines_at.ensures c.in-Err.fault (subst (λ (x : List ℕ). Reads c.lines_at.result x (refused c.in-Err.fault)) (c.as_slice.ensures.value ∙ c.push.ensures.items) c.in-Err.ensures.rule)))

pub returns-else-ne-clause-heard : goal.returns-else-ne-clause-heard
returns-else-ne-clause-heard c heard drained old =
    subst (λ (x : List ℕ). Listening (heard ++ c.args.byte ∷ []) (drained ++ vec_items c.args.out.now) c.args.self.now.phase x) (sym c.push.ensures.items)
    (cut_on heard (drained ++ vec_items c.args.out.now) c.args.self.now.phase c.args.self.now.pending.items c.args.byte old (not_over c.args.self.now.phase c.if-is_over.ensures) c.lines_at.result c.lines_at.ensures c.in-Err.fault (subst (λ (x : List ℕ). Reads c.lines_at.result x (refused c.in-Err.fault)) (c.as_slice.ensures.value ∙ c.push.ensures.items) c.in-Err.ensures.rule) (search rules))
