use Rattle.std.proofs.Common.{◌≡◌, ◌+◌, ◌++◌, length, take, drop, refl, sym, arith}
use Rattle.std.proofs.lemmas.Bool.{lt-ltb}
use Rattle.std.proofs.lemmas.List.{length-set, length-take}
use Rattle.postcard_tree.specs.Tree.{text_of}
use Rattle.link.specs.Run.{completed, refused}
use Rattle.framed_lib.proofs.FramingLemmas.{framed-line, unframed-line}
use Rattle.framed_lib.proofs.framing.frame_clean.Goals as goal

pub slice_bounds-front-end-2 : goal.slice_bounds-front-end-2
slice_bounds-front-end-2 c = omega (arith, c.requires.room, length-take 1024 c.args.room.now)

pub bounds-room-count : goal.bounds-room-count
bounds-room-count c =
    (framed-line c.in-Ok.count c.args.sentinel c.args.room.now c.frame_into_with_sentinel.new.buffer c.in-Some.text.now c.args.line.now c.in-Some.ensures c.requires.room
    c.frame_into_with_sentinel.auto.buffer c.in-Ok.ensures.ok).0

pub returns-in-Ok-clause-sent : goal.returns-in-Ok-clause-sent
returns-in-Ok-clause-sent c =
    let framed = framed-line c.in-Ok.count c.args.sentinel c.args.room.now c.frame_into_with_sentinel.new.buffer c.in-Some.text.now c.args.line.now c.in-Some.ensures c.requires.room
    c.frame_into_with_sentinel.auto.buffer c.in-Ok.ensures.ok in
    (completed (text_of c.args.line.now), framed.1, framed.2, sym (lt-ltb 0 (c.in-Ok.count + 1) (omega arith)))

pub returns-in-Ok-clause-within : goal.returns-in-Ok-clause-within
returns-in-Ok-clause-within c =
    let framed = framed-line c.in-Ok.count c.args.sentinel c.args.room.now c.frame_into_with_sentinel.new.buffer c.in-Some.text.now c.args.line.now c.in-Some.ensures c.requires.room
    c.frame_into_with_sentinel.auto.buffer c.in-Ok.ensures.ok in
    omega (arith, framed.0, length-set (c.frame_into_with_sentinel.new.buffer ++ drop 1024 c.args.room.now) c.in-Ok.count c.args.sentinel)

pub returns-in-Err-clause-sent : goal.returns-in-Err-clause-sent
returns-in-Err-clause-sent c =
    let size : length (take 1024 c.args.room.now) ≡ 1024 = omega (arith, length-take 1024 c.args.room.now, c.requires.room) in
    (refused, unframed-line c.in-Err.field-0 _ c.in-Some.text.now c.args.line.now c.in-Some.ensures size c.in-Err.ensures.err, refl, refl)
