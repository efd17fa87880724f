use Rattle.std.proofs.Common.{◌≡◌, ◌∙◌, ap, length, take, ◌++◌, arith}
use Rattle.std.proofs.lemmas.List.{drop-drop}
use Rattle.std.proofs.lemmas.Simd.{put_chunk_is, zip2_splat_left}
use Rattle.std.specs.Prelude.{bit_xor}
use Rattle.std.specs.Simd.Lanes.{put_chunk}
use Rattle.cobs.specs.Sentinel.{masked}
use Rattle.cobs.proofs.MaskingLemmas.{masked_length}
use Rattle.cobs.proofs.moves.store.Goals as goal

pub returns : goal.returns
returns g c =
    let lanes = masked c.args.sentinel c.args.lanes in
    let at = c.args.at in
    let old = c.args.buffer.now in
    let long : length lanes ≡ g.row.W = masked_length c.args.sentinel c.args.lanes ∙ c.requires.long in
    ap (put_chunk at old) (zip2_splat_left bit_xor c.args.sentinel g.row.W c.args.lanes c.requires.long)
    ∙ put_chunk_is at old lanes (omega (arith, long, c.requires.room))
    ∙ ap (λ x. take at old ++ (lanes ++ x)) (drop-drop (length lanes) at old)
