use Rattle.std.proofs.Common.{◌≡◌, ◌-◌, length, vec_items, sym, refl, ap, subst, arith}
use Rattle.std.proofs.lemmas.Result.{IfOk-weaker}
use Rattle.kinds.specs.declared.built.Built.{Built}
use Rattle.kinds.specs.Kinds.{built_meaning}
use Rattle.kinds.specs.Soundness.{built_sound}
use Rattle.records.specs.declared.order.Order.{Order}
use Rattle.records.specs.Format.{image}
use Rattle.conversation.specs.Answering.{Exchanged}
use Rattle.conversation.proofs.Exchanging.{answers, answers_voice, not_here}
use Rattle.conversation.proofs.answering.exchange.Goals as goal

pub returns-in-Voice : goal.returns-in-Voice
returns-in-Voice c =
    IfOk-weaker c.act.result _ _
    (λ u a. subst (λ (o : Order). Exchanged c.args.cabinet.now (image o) (vec_items c.args.out.now) (vec_items c.act.new.out) c.act.new.cabinet) (sym c.in-Voice.is)
    (λ p. answers_voice c.args.cabinet.now c.in-Voice.body.now _ c.decode_all-frames.result (c.lines-lines.result - 0) (vec_items c.args.out.now) (vec_items c.act.new.out) c.act.new.cabinet (built_sound c.args.cabinet.now.card).few_lines (omega (arith, c.lines-lines.ensures, ap (λ (x : Built). (built_meaning x).lines) c.card.ensures)) refl c.decode_all-frames.ensures p a))
    c.act.ensures

pub returns-in-Some : goal.returns-in-Some
returns-in-Some c =
    IfOk-weaker c.act-in-Some.result _ _
    (λ u a p. answers c.args.cabinet.now (image c.args.order) c.in-Some.command (vec_items c.args.out.now) (vec_items c.act-in-Some.new.out) c.act-in-Some.new.cabinet c.in-Some.ensures a)
    c.act-in-Some.ensures

pub returns-in-None : goal.returns-in-None
returns-in-None c = λ p. absurd (not_here _ c.args.order (built_sound c.args.cabinet.now.card).some_lines c.in_default.not-Voice p c.in-None.ensures)

pub slice_bounds-act-end : goal.slice_bounds-act-end
slice_bounds-act-end c = let wide : length c.decode_all-frames.result ≡ 16 = c.decode_all-frames.ensures.size in omega (arith, c.lines-lines.ensures, (built_sound c.card.result.now).few_lines)
