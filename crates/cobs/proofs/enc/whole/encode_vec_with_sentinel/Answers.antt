use Rattle.std.proofs.Common.{arith, ap, ◌∙◌, take, length}
use Rattle.std.proofs.lemmas.Grind.{common_steps}
use Rattle.cobs.proofs.LengthsLemmas.{frame_at_most}
use Rattle.cobs.proofs.WholesLemmas.{refilled}
use Rattle.cobs.proofs.enc.whole.encode_vec_with_sentinel.Goals as goal

pub encode_with_sentinel-length-requires : goal.encode_with_sentinel-length-requires
encode_with_sentinel-length-requires c = grind (arith, common_steps, frame_at_most)

pub returns : goal.returns
returns c =
    let v = c.in_ok-frame.frame in
    let d = c.encode_with_sentinel-length in
    c.truncate.ensures.items ∙ ap (take d.result) (refilled v.len v.items d.new.dest v.ok.0 (d.auto.dest ∙ ap length c.as_mut_slice.ensures.value)) ∙ d.ensures.frame
