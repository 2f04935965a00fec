-- A conversation that begins with nothing heard and nothing said hears the whole input, and then its end.
use Rattle.std.proofs.Common.{ℕ, List, [], sym, subst}
use Rattle.conversation.specs.Talking.{Heard}
use Rattle.conversation.proofs.hearing.converse.Goals as goal

pub returns : goal.returns
returns c =
    c.in_ok-finish.ensures c.args.input.now []
    (c.in_ok-feed.ensures [] [] (subst (λ (x : List ℕ). Heard [] x c.begin-talk.result) (sym c.new-said.ensures.items) c.begin-talk.ensures))
