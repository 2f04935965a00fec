-- The bytes of voice frames: eleven to a frame, in the order of its fields, high byte first.
use Rattle.std.specs.Prelude.{◌≡◌, ℕ, ◌+◌, ◌*◌, ◌/◌, ◌%◌, ◌<◌, ◌≤◌, List, [], ◌∷◌, ◌++◌, length, take, drop, ℤ, pos, Ok, Err, Result, FitsSigned, slice_index_or}
use Rattle.std.proofs.Common.{of_z}
use Rattle.std.specs.Int.{w16}
use Rattle.std.specs.List.{flat_map}
use Rattle.payload.specs.declared.Frame.{Frame}
use Rattle.payload.specs.Silence.{quiet_frame}

-- the two bytes of a number of 16 bits
abbrev pub wide : ℕ → List ℕ
wide x = (x / 256) ∷ (x % 256) ∷ []

-- the two bytes of a sample, by two's complement
abbrev pub sample_bytes : ℤ → List ℕ
sample_bytes z = wide (of_z w16 z)

abbrev pub frame_bytes : Frame → List ℕ
frame_bytes f = wide f.count ++ (f.level ∷ flat_map sample_bytes f.samples)

-- what the types say of a frame's samples: there are four, of 16 bits each
pub record Typed (f : Frame) : Type 0 where
  pub four : length f.samples ≡ 4
  pub first : FitsSigned w16 (slice_index_or f.samples 0 (pos 0))
  pub second : FitsSigned w16 (slice_index_or f.samples 1 (pos 0))
  pub third : FitsSigned w16 (slice_index_or f.samples 2 (pos 0))
  pub fourth : FitsSigned w16 (slice_index_or f.samples 3 (pos 0))

-- the bytes of frames, one after another
abbrev pub frames_bytes : List Frame → List ℕ
frames_bytes fs = flat_map frame_bytes fs

-- what appending frames leaves: all of them, or what was there and some more
abbrev pub Appended : {E : Type 0} → List Frame → List ℕ → List ℕ → Result (Unit {0}) E → Type 0
Appended fs before after (Ok x) = after ≡ before ++ frames_bytes fs
Appended fs before after (Err e) = (more : List ℕ) × (after ≡ before ++ more)

-- sixteen frames read from a body: each that the body has whole, and silence for the others
pub record Framed (body : List ℕ) (frames : List Frame) : Type 0 where
  pub size : length frames ≡ 16
  pub typed : (i : ℕ) → i < 16 → 11 * i + 11 ≤ length body → Typed (slice_index_or frames i quiet_frame)
  pub whole : (i : ℕ) → i < 16 → 11 * i + 11 ≤ length body → frame_bytes (slice_index_or frames i quiet_frame) ≡ take 11 (drop (11 * i) body)
  pub others : (i : ℕ) → i < 16 → length body < 11 * i + 11 → slice_index_or frames i quiet_frame ≡ quiet_frame
  -- a body of n frames is the bytes of the first n
  pub all : (n : ℕ) → n ≤ 16 → length body ≡ 11 * n → frames_bytes (take n frames) ≡ body
