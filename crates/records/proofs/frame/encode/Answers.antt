-- The bytes are the frame's, and frames with the same bytes are the same.
use Rattle.std.proofs.Common.{◌≡◌, get_or, pos, to_z, of_z, w16, ◌∙◌, rules}
use Rattle.records.specs.Frames.{Typed, wide, sample_bytes}
use Rattle.records.proofs.Framing.{encoded, same_frame}
use Rattle.records.proofs.frame.encode.Goals as goal

pub returns : goal.returns
returns c =
    let t : Typed c.args.frame = search rules in
    let ec : c.to_be_bytes.result ≡ wide c.args.frame.count = search rules in
    let e2 : c.to_be_bytes-2.result ≡ sample_bytes (to_z w16 (of_z w16 (get_or c.args.frame.samples 0 (pos 0)))) = search rules in
    let e3 : c.to_be_bytes-3.result ≡ sample_bytes (to_z w16 (of_z w16 (get_or c.args.frame.samples 1 (pos 0)))) = search rules in
    let e4 : c.to_be_bytes-4.result ≡ sample_bytes (to_z w16 (of_z w16 (get_or c.args.frame.samples 2 (pos 0)))) = search rules in
    let e5 : c.to_be_bytes-5.result ≡ sample_bytes (to_z w16 (of_z w16 (get_or c.args.frame.samples 3 (pos 0)))) = search rules in
    let value = encoded c.args.frame _ _ _ _ _ t ec e2 e3 e4 e5 in
    record { typed = t; value = value; only = λ f u e. same_frame f c.args.frame u t (e ∙ value) }
