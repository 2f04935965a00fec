-- The values that stand for silence.
use Rattle.std.specs.Prelude.{ℕ, pos, replicate}
use Rattle.payload.specs.declared.Frame.{Frame}

-- among line numbers
abbrev pub quiet_number : ℕ
quiet_number = 255

-- among voice frames
abbrev pub quiet_frame : Frame
quiet_frame = record { count = 0; level = 0; samples = replicate 4 (pos 0) }
