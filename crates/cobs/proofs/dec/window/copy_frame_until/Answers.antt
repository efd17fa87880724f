use Rattle.std.proofs.Common.{◌∙◌, ap, sym, arith, length}
use Rattle.std.specs.Int.{bit_at}
use Rattle.std.proofs.lemmas.List.{take_all}
use Rattle.std.proofs.lemmas.Nat.Bits.{bit_at-zero}
use Rattle.cobs.specs.InPlace.{written_over}
use Rattle.cobs.specs.Sentinel.{masked}
use Rattle.cobs.proofs.MaskingLemmas.{masked_length, masked_take}
use Rattle.cobs.proofs.SourcesLemmas.{marked_byte, unmarked_byte}
use Rattle.std.proofs.lemmas.Grind.{common_steps}
use Rattle.cobs.proofs.dec.window.copy_frame_until.Goals as goal

pub returns-then-marks-eq0-clause-stops : goal.returns-then-marks-eq0-clause-stops
returns-then-marks-eq0-clause-stops g c = record {
  within = omega arith;
  none = λ k l. unmarked_byte c.args.sentinel _ c.args.bytes.now c.copy_clear_some-marks.ensures.marks k l (ap (λ b. bit_at b k) c.if-marks-eq0.true ∙ bit_at-zero k);
  end = λ l. absurd (omega (arith, l));
}

pub returns-then-marks-eq0-clause-buffer : goal.returns-then-marks-eq0-clause-buffer
returns-then-marks-eq0-clause-buffer g c =
    let bytes = masked c.args.sentinel c.args.bytes.now in
    c.copy_clear_some-marks.ensures.copied c.if-marks-eq0.true
    ∙ ap (λ b. written_over c.args.place b c.args.buffer.now) (sym (take_all (length c.args.bytes.now) bytes (omega (arith, masked_length c.args.sentinel c.args.bytes.now))))

pub returns-clause-stops : goal.returns-clause-stops
returns-clause-stops g c =
    let marks = c.copy_clear_some-marks.ensures.marks in
    let first = marked_byte c.args.sentinel _ c.args.bytes.now marks c.lowest-n.result.0 c.lowest-n.ensures.set in
    record {
      within = omega (arith, first.0);
      none = λ k l. unmarked_byte c.args.sentinel _ c.args.bytes.now marks k (omega (arith, l, first.0)) (c.lowest-n.ensures.below k l);
      end = λ _. first.1;
    }

pub returns-clause-buffer : goal.returns-clause-buffer
returns-clause-buffer g c =
    c.copy_few.ensures
    ∙ ap (written_over c.args.place (masked c.args.sentinel _)) (c.copy_clear_some-marks.ensures.same c.if-marks-eq0.false)
    ∙ ap (λ b. written_over c.args.place b c.args.buffer.now) (sym (masked_take c.args.sentinel c.lowest-n.result.0 c.args.bytes.now))

pub copy_few-requires-clause-few : goal.copy_few-requires-clause-few
copy_few-requires-clause-few g c = grind (arith, common_steps)

pub copy_few-requires-clause-room : goal.copy_few-requires-clause-room
copy_few-requires-clause-room g c = grind (arith, common_steps)

pub slice_bounds-copy_few-end : goal.slice_bounds-copy_few-end
slice_bounds-copy_few-end g c = grind (arith, common_steps)
