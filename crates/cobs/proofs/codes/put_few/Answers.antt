use Rattle.std.proofs.Common.{arith}
use Rattle.cobs.proofs.MaskingLemmas.{masked_put, masked_length}
use Rattle.cobs.proofs.PuttingLemmas.{putting_new, put_next_at, put_end_at, put_whole}
use Rattle.cobs.proofs.codes.put_few.Goals as goal
use Rattle.cobs.proofs.codes.put_few.Goals.{then-byte-eq0, else-byte-eq0}

pub loop-byte-init : goal.loop-byte-init
loop-byte-init c = record {
  here = omega arith;
  later = omega arith;
  begins = omega (arith, c.requires.laid.begins);
  putting = λ m g. putting_new _ _ _ m _ c.requires.laid g c.requires.some c.requires.short (rw (masked_length c.args.sentinel c.args.dest.now) c.requires.room);
}

pub loop-byte-preserved : goal.loop-byte-preserved
loop-byte-preserved c = elim c.if-byte-eq0.branch [
  | then-byte-eq0 w ↦ record {
    here = omega (arith, c.loop-byte.invariant.here);
    later = omega arith;
    begins = omega arith;
    putting = λ m g. rw (w.dest-is, w.code_at-is, masked_put c.args.sentinel c.loop-byte.dest c.loop-byte.code_at _) (put_end_at _ _ _ _ _ _ c.loop-byte.byte-index c.loop-byte-test.true w.if-byte-eq0.true (omega arith) (c.loop-byte.invariant.putting m g));
  }
  | else-byte-eq0 w ↦ record {
    here = omega (arith, c.loop-byte.invariant.here);
    later = omega arith;
    begins = omega arith;
    putting = λ m g. rw (w.dest-is, w.code_at-is, masked_put c.args.sentinel c.loop-byte.dest _ _) (put_next_at _ _ _ _ _ _ c.loop-byte.byte-index c.loop-byte-test.true (omega (arith, w.if-byte-eq0.false)) (omega arith) (c.loop-byte.invariant.putting m g));
  }
]

pub returns : goal.returns
returns c = record { holds = λ m g. rw (masked_put c.args.sentinel c.loop-byte.dest c.loop-byte.code_at _) (put_whole _ _ _ _ c.loop-byte.byte-index _ _ (omega arith) (omega arith) (c.loop-byte.invariant.putting m g)) }
