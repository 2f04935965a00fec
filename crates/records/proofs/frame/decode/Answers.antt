-- The frame has the bytes, and frames with the same bytes are the same.
use Rattle.std.proofs.Common.{◌≡◌, [], ◌∷◌, get_or, sym, refl, ◌∙◌, w16, SFits, rules}
use Rattle.records.specs.Frames.{wide, sample_bytes}
use Rattle.records.proofs.Framing.{decoded, rounds, same_frame}
use Rattle.records.proofs.frame.decode.Goals as goal

pub returns : goal.returns
returns c =
    let bs = c.args.bytes.now in
    let fp : SFits w16 c.from_be_bytes-first.result = search rules in
    let fq : SFits w16 c.from_be_bytes-second.result = search rules in
    let fr : SFits w16 c.from_be_bytes-third.result = search rules in
    let fs : SFits w16 c.from_be_bytes-fourth.result = search rules in
    let ex : wide c.from_be_bytes-count.result ≡ get_or bs 0 0 ∷ get_or bs 1 0 ∷ [] = search rules in
    let ep : sample_bytes c.from_be_bytes-first.result ≡ get_or bs 3 0 ∷ get_or bs 4 0 ∷ [] = search rules in
    let eq : sample_bytes c.from_be_bytes-second.result ≡ get_or bs 5 0 ∷ get_or bs 6 0 ∷ [] = search rules in
    let er : sample_bytes c.from_be_bytes-third.result ≡ get_or bs 7 0 ∷ get_or bs 8 0 ∷ [] = search rules in
    let es : sample_bytes c.from_be_bytes-fourth.result ≡ get_or bs 9 0 ∷ get_or bs 10 0 ∷ [] = search rules in
    let value = decoded c.args.bytes.now _ _ _ _ _ c.told-bytes fp fq fr fs ex ep eq er es in
    record {
      typed = record { four = refl; first = rounds _ fp; second = rounds _ fq; third = rounds _ fr; fourth = rounds _ fs };
      value = value;
      only = λ f t e. same_frame f _ t (record { four = refl; first = rounds _ fp; second = rounds _ fq; third = rounds _ fr; fourth = rounds _ fs }) (e ∙ sym value);
    }
