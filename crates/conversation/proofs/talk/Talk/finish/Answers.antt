use Rattle.std.proofs.Common.{ℕ, ◌≤◌, cond, List, ◌++◌, length, is_ok, vec_items, ap, ◌∙◌, sym, subst, append_assoc, rules}
use Rattle.records.specs.declared.answer.Answer.{Answer}
use Rattle.records.specs.Reading.{Reads, refused}
use Rattle.records.specs.Answering.{refusal_bytes, answer_bytes}
use Rattle.conversation.specs.Talking.{Ended}
use Rattle.conversation.proofs.HearingOn.{appended, ended_cut}
use Rattle.conversation.proofs.talk.Talk.finish.Goals as goal

pub returns-in-Err : goal.returns-in-Err
returns-in-Err c =
    let some : 1 ≤ length c.args.self.now.pending.items = search rules in
    appended c.put.result (vec_items c.args.out.now) (refusal_bytes c.in-Err.fault) (vec_items c.put.new.out)
    (c.put.ensures.items ∙ ap (λ (a : Answer). cond (is_ok c.put.result) (vec_items c.args.out.now ++ answer_bytes a) (vec_items c.args.out.now)) c.from.ensures)
    (λ e heard drained old.
    subst (λ (x : List ℕ). Ended heard x) (append_assoc drained (vec_items c.args.out.now) (refusal_bytes c.in-Err.fault) ∙ ap (λ (x : List ℕ). drained ++ x) (sym e))
    (ended_cut heard (drained ++ vec_items c.args.out.now) c.args.self.now.phase c.args.self.now.pending.items old some c.lines_at.result c.lines_at.ensures c.in-Err.fault
    (subst (λ (x : List ℕ). Reads c.lines_at.result x (refused c.in-Err.fault)) c.as_slice.ensures.value c.in-Err.ensures.rule)))
