use Rattle.std.proofs.Common.{arith, rules}
use Rattle.postcard.proofs.StretchesLemmas.{put_copied, put_more}
use Rattle.postcard.proofs.accumulator.put_over.Goals as goal

pub returns-then-bytes-gt4 : goal.returns-then-bytes-gt4
returns-then-bytes-gt4 c = put_copied c.args.place _ c.args.buf.now c.args.bytes.now c.copy_from_slice.new.self (omega arith) c.copy_from_slice.ensures.after

pub loop-i-preserved : goal.loop-i-preserved
loop-i-preserved c = (search rules, put_more c.loop-i.i c.args.place c.args.buf.now c.loop-i.buf c.args.bytes.now (omega arith) (omega arith) c.loop-i.invariant.1)
