use Rattle.std.proofs.Common.{length, ◌∙◌, arith}
use Rattle.cobs.specs.InPlace.{stretch}
use Rattle.cobs.specs.Sentinel.{masked}
use Rattle.cobs.proofs.ShortLemmas.{decodes_front, short_answer}
use Rattle.cobs.proofs.dec.whole.decode_many.Goals as goal

pub returns : goal.returns
returns g c =
    let e = c.take_source-len.ensures in
    let r = c.take_source-len.result in
    let frame = stretch (masked c.args.sentinel c.args.bytes.now) in
    let room = c.requires.room in
    decodes_front c.args.dest.now c.take_source-len.new.dest frame c.answer_behind.result r.1
    (c.answer_behind.ensures ∙ short_answer (length c.args.dest.now) frame r.0 e.stands (omega (arith, e.end, e.some)) (omega (arith, e.end, e.within)) (omega (arith, e.end, e.within, room)))
    e.end e.some (omega (arith, e.within, room)) e.dest
