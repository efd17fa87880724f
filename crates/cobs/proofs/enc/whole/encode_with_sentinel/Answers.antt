use Rattle.std.proofs.Common.{arith}
use Rattle.cobs.proofs.BlocksLemmas.{framed_all}
use Rattle.cobs.proofs.LengthsLemmas.{frame_at_least}
use Rattle.cobs.proofs.MaskingLemmas.{begins_masked}
use Rattle.cobs.proofs.enc.whole.encode_with_sentinel.Goals as goal

pub bounds-dest-0 : goal.bounds-dest-0
bounds-dest-0 c = omega (arith, frame_at_least c.args.source.now, c.requires)

pub put_all-end-requires : goal.put_all-end-requires
put_all-end-requires c =
    (begins_masked c.args.sentinel c.args.dest.now (omega (arith, frame_at_least c.args.source.now, c.requires))).0

pub returns-clause-length : goal.returns-clause-length
returns-clause-length c =
    (framed_all c.args.sentinel c.args.dest.now c.args.source.now c.put_all-end.new.dest _ _
    (omega (arith, frame_at_least c.args.source.now, c.requires)) c.requires c.put_all-end.ensures.went_on).0

pub returns-clause-frame : goal.returns-clause-frame
returns-clause-frame c =
    (framed_all c.args.sentinel c.args.dest.now c.args.source.now c.put_all-end.new.dest _ _
    (omega (arith, frame_at_least c.args.source.now, c.requires)) c.requires c.put_all-end.ensures.went_on).1
