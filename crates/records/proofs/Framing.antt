-- Frames and their bytes.
use Rattle.std.proofs.Common.{◌≡◌, ℕ, ◌+◌, ◌*◌, ◌/◌, ◌%◌, List, [], ◌∷◌, ◌++◌, length, get_or, ℤ, pos, sym, refl, ap, ◌∙◌, subst, arith, w16, SFits, to_z, of_z}
use Rattle.std.specs.List.{flat_map}
use Rattle.std.proofs.lemmas.Nat.{div-add-mod'}
use Rattle.std.proofs.lemmas.Int.{to_z-of_z}
use Rattle.payload.specs.declared.Frame.{Frame}
use Rattle.records.specs.Frames.{wide, sample_bytes, frame_bytes, Typed}

-- eleven bytes, one by one
eleven_is : (l : List ℕ) → length l ≡ 11 → get_or l 0 0 ∷ get_or l 1 0 ∷ get_or l 2 0 ∷ get_or l 3 0 ∷ get_or l 4 0 ∷ get_or l 5 0 ∷ get_or l 6 0 ∷ get_or l 7 0 ∷ get_or l 8 0 ∷ get_or l 9 0 ∷ get_or l 10 0 ∷ [] ≡ l
eleven_is [] hh = absurd (omega arith)
eleven_is (a ∷ []) hh = absurd (omega arith)
eleven_is (a ∷ b ∷ []) hh = absurd (omega arith)
eleven_is (a ∷ b ∷ c ∷ []) hh = absurd (omega arith)
eleven_is (a ∷ b ∷ c ∷ d ∷ []) hh = absurd (omega arith)
eleven_is (a ∷ b ∷ c ∷ d ∷ e ∷ []) hh = absurd (omega arith)
eleven_is (a ∷ b ∷ c ∷ d ∷ e ∷ f ∷ []) hh = absurd (omega arith)
eleven_is (a ∷ b ∷ c ∷ d ∷ e ∷ f ∷ g ∷ []) hh = absurd (omega arith)
eleven_is (a ∷ b ∷ c ∷ d ∷ e ∷ f ∷ g ∷ h ∷ []) hh = absurd (omega arith)
eleven_is (a ∷ b ∷ c ∷ d ∷ e ∷ f ∷ g ∷ h ∷ i ∷ []) hh = absurd (omega arith)
eleven_is (a ∷ b ∷ c ∷ d ∷ e ∷ f ∷ g ∷ h ∷ i ∷ j ∷ []) hh = absurd (omega arith)
eleven_is (a ∷ b ∷ c ∷ d ∷ e ∷ f ∷ g ∷ h ∷ i ∷ j ∷ k ∷ []) hh = refl
eleven_is (a ∷ b ∷ c ∷ d ∷ e ∷ f ∷ g ∷ h ∷ i ∷ j ∷ k ∷ l ∷ list) hh = absurd (omega arith)

-- four samples, one by one
four_is : (l : List ℤ) → length l ≡ 4 → get_or l 0 (pos 0) ∷ get_or l 1 (pos 0) ∷ get_or l 2 (pos 0) ∷ get_or l 3 (pos 0) ∷ [] ≡ l
four_is [] h = absurd (omega arith)
four_is (a ∷ []) h = absurd (omega arith)
four_is (a ∷ b ∷ []) h = absurd (omega arith)
four_is (a ∷ b ∷ c ∷ []) h = absurd (omega arith)
four_is (a ∷ b ∷ c ∷ d ∷ []) h = refl
four_is (a ∷ b ∷ c ∷ d ∷ e ∷ l) h = absurd (omega arith)

-- a frame whose parts have these bytes has them all
module _ (bs : List ℕ) (x : ℕ) (p q r s : ℤ) (h : length bs ≡ 11) where
  pub decoded : SFits w16 p → SFits w16 q → SFits w16 r → SFits w16 s
      → wide x ≡ get_or bs 0 0 ∷ get_or bs 1 0 ∷ []
      → sample_bytes p ≡ get_or bs 3 0 ∷ get_or bs 4 0 ∷ []
      → sample_bytes q ≡ get_or bs 5 0 ∷ get_or bs 6 0 ∷ []
      → sample_bytes r ≡ get_or bs 7 0 ∷ get_or bs 8 0 ∷ []
      → sample_bytes s ≡ get_or bs 9 0 ∷ get_or bs 10 0 ∷ []
      → wide x ++ (get_or bs 2 0 ∷ flat_map sample_bytes (to_z w16 (of_z w16 p) ∷ to_z w16 (of_z w16 q) ∷ to_z w16 (of_z w16 r) ∷ to_z w16 (of_z w16 s) ∷ [])) ≡ bs
  decoded fp fq fr fs ex ep eq er es =
      let kp = ap sample_bytes (to_z-of_z w16 p fp) ∙ ep in
      let kq = ap sample_bytes (to_z-of_z w16 q fq) ∙ eq in
      let kr = ap sample_bytes (to_z-of_z w16 r fr) ∙ er in
      let ks = ap sample_bytes (to_z-of_z w16 s fs) ∙ es in
      (λ t. ex t ++ (get_or bs 2 0 ∷ (kp t ++ (kq t ++ (kr t ++ (ks t ++ [])))))) ∙ eleven_is bs h

-- the number of the two bytes at k
abbrev narrow : List ℕ → ℕ → ℕ
narrow bs k = get_or bs k 0 * 256 + get_or bs (k + 1) 0

-- the frame of eleven bytes
abbrev frame_of : List ℕ → Frame
frame_of bs = record {
  count = narrow bs 0;
  level = get_or bs 2 0;
  samples = to_z w16 (narrow bs 3) ∷ to_z w16 (narrow bs 5) ∷ to_z w16 (narrow bs 7) ∷ to_z w16 (narrow bs 9) ∷ [];
}

narrow_wide : (x : ℕ) → x / 256 * 256 + x % 256 ≡ x
narrow_wide x = div-add-mod' x 256

sample_back : (z : ℤ) → SFits w16 z → to_z w16 (of_z w16 z / 256 * 256 + of_z w16 z % 256) ≡ z
sample_back z f = ap (to_z w16) (narrow_wide (of_z w16 z)) ∙ to_z-of_z w16 z f

parts_back : (x y : ℕ) (p q r s : ℤ) → SFits w16 p → SFits w16 q → SFits w16 r → SFits w16 s
    → frame_of (frame_bytes (record { count = x; level = y; samples = p ∷ q ∷ r ∷ s ∷ [] })) ≡ record { count = x; level = y; samples = p ∷ q ∷ r ∷ s ∷ [] }
parts_back x y p q r s fp fq fr fs = λ t. record {
  count = narrow_wide x t;
  level = y;
  samples = sample_back p fp t ∷ sample_back q fq t ∷ sample_back r fr t ∷ sample_back s fs t ∷ [];
}

frame_back : (f : Frame) → Typed f → frame_of (frame_bytes f) ≡ f
frame_back f h =
    subst (λ l. frame_of (frame_bytes (record { count = f.count; level = f.level; samples = l })) ≡ record { count = f.count; level = f.level; samples = l })
    (four_is f.samples h.four)
    (parts_back f.count f.level _ _ _ _ h.first h.second h.third h.fourth)

-- frames with the same bytes are the same
pub same_frame : (f g : Frame) → Typed f → Typed g → frame_bytes f ≡ frame_bytes g → f ≡ g
same_frame f g h k e = sym (frame_back f h) ∙ ap frame_of e ∙ frame_back g k

-- the bytes of the parts are the bytes of the frame
pub encoded : (f : Frame) (a b c d e : List ℕ) → Typed f
    → a ≡ wide f.count
    → b ≡ sample_bytes (to_z w16 (of_z w16 (get_or f.samples 0 (pos 0))))
    → c ≡ sample_bytes (to_z w16 (of_z w16 (get_or f.samples 1 (pos 0))))
    → d ≡ sample_bytes (to_z w16 (of_z w16 (get_or f.samples 2 (pos 0))))
    → e ≡ sample_bytes (to_z w16 (of_z w16 (get_or f.samples 3 (pos 0))))
    → get_or a 0 0 ∷ get_or a 1 0 ∷ f.level ∷ get_or b 0 0 ∷ get_or b 1 0 ∷ get_or c 0 0 ∷ get_or c 1 0 ∷ get_or d 0 0 ∷ get_or d 1 0 ∷ get_or e 0 0 ∷ get_or e 1 0 ∷ [] ≡ frame_bytes f
encoded f a b c d e h ea eb ec ed ee =
    let kb = eb ∙ ap sample_bytes (to_z-of_z w16 _ h.first) in
    let kc = ec ∙ ap sample_bytes (to_z-of_z w16 _ h.second) in
    let kd = ed ∙ ap sample_bytes (to_z-of_z w16 _ h.third) in
    let ke = ee ∙ ap sample_bytes (to_z-of_z w16 _ h.fourth) in
    (λ t. get_or (ea t) 0 0 ∷ get_or (ea t) 1 0 ∷ f.level ∷ get_or (kb t) 0 0 ∷ get_or (kb t) 1 0 ∷ get_or (kc t) 0 0 ∷ get_or (kc t) 1 0 ∷ get_or (kd t) 0 0 ∷ get_or (kd t) 1 0 ∷ get_or (ke t) 0 0 ∷ get_or (ke t) 1 0 ∷ [])
    ∙ ap (λ l. wide f.count ++ (f.level ∷ flat_map sample_bytes l)) (four_is f.samples h.four)

-- a sample of 16 bits is one again after its bits
pub rounds : (z : ℤ) → SFits w16 z → SFits w16 (to_z w16 (of_z w16 z))
rounds z f = subst (SFits w16) (sym (to_z-of_z w16 z f)) f
