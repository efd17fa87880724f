use Rattle.std.proofs.Common.{length, sym, ◌∙◌, arith}
use Rattle.cobs.specs.Sentinel.{masked}
use Rattle.cobs.proofs.MaskingLemmas.{masked_length}
use Rattle.cobs.proofs.ShortLemmas.{counted_answer, counted_over}
use Rattle.cobs.proofs.dec.whole.decode_counted.Goals as goal
use Rattle.cobs.proofs.dec.whole.decode_counted.Goals.{else-left-eq0-via-then-left-eq0+else-dest-len, else-left-eq0-via-else-left-eq0}

pub returns-then-dest-len : goal.returns-then-dest-len
returns-then-dest-len c = record {
  answer =
      counted_over (length c.args.dest.now) (masked c.args.sentinel c.args.frame.now) c.take_frame-state.result c.take_frame-state.ensures.stands (omega (arith, masked_length c.args.sentinel c.args.frame.now))
      (sym c.left.ensures ∙ c.if-left-eq0.true) (omega (arith, c.if-dest-len.true, c.take_frame-state.auto.dest));
  dest = c.take_frame-state.ensures.dest;
}

pub returns : goal.returns
returns c = record {
  answer =
      c.answer_behind.ensures
      ∙ counted_answer (length c.args.dest.now) (masked c.args.sentinel c.args.frame.now) c.take_frame-state.result c.take_frame-state.ensures.stands (omega (arith, masked_length c.args.sentinel c.args.frame.now))
      (λ z. elim c.else-left-eq0.branch [
        | else-left-eq0-via-then-left-eq0+else-dest-len w ↦ omega (arith, w.if-dest-len.false, c.take_frame-state.auto.dest)
        | else-left-eq0-via-else-left-eq0 w ↦ absurd (w.if-left-eq0.false (c.left.ensures ∙ z))
      ]);
  dest = c.take_frame-state.ensures.dest;
}
