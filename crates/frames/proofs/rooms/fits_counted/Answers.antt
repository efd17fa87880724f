use Rattle.std.proofs.Common.{◌+◌, ◌≤◌, length, arith, le-leb, leb-true, subst, sym}
use Rattle.cobs.specs.Frames.{shortest_frame, most_length}
use Rattle.postcard_tree.specs.Spelling.{short}
use Rattle.postcard_tree.specs.Tree.{text_of}
use Rattle.frames.proofs.RoomsLemmas.{short_frame, most_frame}
use Rattle.frames.proofs.rooms.fits_counted.Goals as goal

pub returns-then-message-lt128 : goal.returns-then-message-lt128
returns-then-message-lt128 c =
    let size = short_frame c.lengths.ensures.within c.args.message.now c.if-message-lt128.true in (
      λ t. omega (arith, size, leb-true (length c.args.message.now + 2) c.args.room t),
      λ l. le-leb (length c.args.message.now + 2) c.args.room (omega (arith, size, l)),
    )

pub returns-then-max_encoding_length-room : goal.returns-then-max_encoding_length-room
returns-then-max_encoding_length-room c =
    let most : length (shortest_frame (short (text_of c.args.message.now))) ≤ c.max_encoding_length.result =
    subst (λ n. length (shortest_frame (short (text_of c.args.message.now))) ≤ n) (sym c.max_encoding_length.ensures)
    (subst (λ n. length (shortest_frame (short (text_of c.args.message.now))) ≤ most_length (n + length c.args.message.now)) (sym c.count_bytes.ensures.bytes) (most_frame c.lengths.ensures.within c.args.message.now)) in (
      λ _. omega (arith, most, c.if-max_encoding_length-room.true),
      λ _. le-leb c.max_encoding_length.result c.args.room c.if-max_encoding_length-room.true,
    )
