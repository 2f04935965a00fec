use Rattle.std.proofs.Common.{[], sym}
use Rattle.conversation.specs.Talking.{Stage, Conversed, Unfinished}
use Rattle.conversation.proofs.talk.Talk.begin.Goals as goal

pub returns : goal.returns
returns c = record { seen = []; stage = Stage.waiting; parts = sym c.new.ensures; conversed = Conversed.begun; stands = tt; waits = Unfinished.nothing c.new.ensures }
