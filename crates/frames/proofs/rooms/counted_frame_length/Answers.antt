use Rattle.std.proofs.Common.{◌+◌, ◌/◌, ◌<◌, length, arith, ap, ◌∙◌}
use Rattle.cobs.specs.Frames.{shortest_frame, most_length}
use Rattle.postcard_tree.specs.Spelling.{varint}
use Rattle.frames.proofs.RoomsLemmas.{without_zero, with_zero}
use Rattle.frames.proofs.rooms.counted_frame_length.Goals as goal

pub returns-then-before-message : goal.returns-then-before-message
returns-then-before-message c =
    let before = c.before_sentinel-before.result in
    c.max_encoding_length.ensures ∙ ap (λ n. most_length (n + before)) c.count_bytes.ensures.bytes
    ∙ without_zero c.args.message.now c.requires.some before c.before_sentinel-before.ensures.none c.lengths.ensures.reached c.if-before-message.true

pub returns : goal.returns
returns c =
    let before = c.before_sentinel-before.result in
    let near : before < length c.args.message.now = omega (arith, c.before_sentinel-before.ensures.within, c.if-before-message.false) in
    let counted = c.encoded_length.result in
    ap (λ n. n + before + 1 + (n + before) / 254 + counted) c.count_bytes.ensures.bytes
    ∙ ap (λ n. length (varint (length c.args.message.now)) + before + 1 + (length (varint (length c.args.message.now)) + before) / 254 + n) (c.encoded_length.ensures.frame ∙ ap (λ x. length (shortest_frame x)) c.split_at.ensures.back)
    ∙ with_zero c.args.message.now c.requires.some before c.before_sentinel-before.ensures.none near (c.before_sentinel-before.ensures.end near)
