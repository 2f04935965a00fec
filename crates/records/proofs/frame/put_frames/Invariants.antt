use Rattle.std.proofs.Common.{◌≡◌, ◌++◌, take, vec_items}
use Rattle.records.specs.Frames.{frames_bytes}
use Rattle.records.proofs.frame.put_frames.Given as goal

-- the bytes of the frames so far are appended
abbrev pub invariant-loop-frame : goal.invariant-loop-frame
invariant-loop-frame l = vec_items l.out ≡ vec_items l.initial.out ++ frames_bytes (take l.frame-index l.frames)
