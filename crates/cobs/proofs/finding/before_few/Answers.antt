use Rattle.std.proofs.Common.{◌∙◌, ap, arith}
use Rattle.std.specs.Int.{bit_at}
use Rattle.std.proofs.lemmas.Nat.Bits.{bit_at-zero}
use Rattle.cobs.proofs.SourcesLemmas.{marked_byte, unmarked_byte}
use Rattle.cobs.proofs.finding.before_few.Goals as goal

pub returns-then-marks-eq0 : goal.returns-then-marks-eq0
returns-then-marks-eq0 c = record {
  within = omega arith;
  none = λ k l. unmarked_byte c.args.sentinel _ c.args.bytes.now c.zeros_of_some-marks.ensures k l (ap (λ b. bit_at b k) c.if-marks-eq0.true ∙ bit_at-zero k);
  end = λ l. absurd (omega (arith, l));
}

pub returns : goal.returns
returns c =
    let marks = c.zeros_of_some-marks.ensures in
    let first = marked_byte c.args.sentinel _ c.args.bytes.now marks c.lowest.result.0 c.lowest.ensures.set in
    record {
      within = omega (arith, first.0);
      none = λ k l. unmarked_byte c.args.sentinel _ c.args.bytes.now marks k (omega (arith, l, first.0)) (c.lowest.ensures.below k l);
      end = λ _. first.1;
    }
