use Rattle.records.proofs.Bodies.{SoFar, Left}
use Rattle.records.proofs.frame.decode_all.Given as goal

-- the frames read so far, silence after them, and what is left of the body
abbrev pub invariant-loop-i : goal.invariant-loop-i
invariant-loop-i l = SoFar l.body l.i l.frames × Left l.body l.i l.rest
