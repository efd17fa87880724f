use Rattle.std.proofs.lemmas.Grind.{common_steps}
use Rattle.std.specs.Int.{bit_at}
use Rattle.std.proofs.lemmas.Nat.Bits.{bit_at_ones}
use Rattle.std.proofs.Common.{◌≡◌, ◌∙◌, ap, ◌+◌, ◌-◌, take, drop, arith}
use Rattle.cobs.proofs.StandingLemmas.{standing_plain}
use Rattle.cobs.proofs.codes.put_codes_standing.Goals as goal

pub put_codes_of_zeros-requires-clause-zeros : goal.put_codes_of_zeros-requires-clause-zeros
put_codes_of_zeros-requires-clause-zeros c =
    let same : c.args.from + c.args.n - c.args.from ≡ c.args.n = omega arith in
    λ k l. (rw same at c.marks_of-marks.ensures).zeros k (ap (λ b. bit_at b k) c.if-marks.true ∙ bit_at_ones 64 k (omega (arith, l, c.requires.few)))

pub put_codes_marked-requires-clause-marks : goal.put_codes_marked-requires-clause-marks
put_codes_marked-requires-clause-marks c =
    let same : c.args.from + c.args.n - c.args.from ≡ c.args.n = omega arith in
    rw same at c.marks_of-marks.ensures

pub returns-then-marks : goal.returns-then-marks
returns-then-marks c =
    standing_plain c.args.dest.now (take c.args.n (drop c.args.from c.args.dest.now)) c.put_codes_of_zeros.new.dest c.args.code_at c.args.from _ c.put_codes_of_zeros.ensures

pub returns : goal.returns
returns c =
    standing_plain c.args.dest.now (take c.args.n (drop c.args.from c.args.dest.now)) c.put_codes_marked.new.dest c.args.code_at c.args.from _ c.put_codes_marked.ensures

pub overflow_add-from : goal.overflow_add-from
overflow_add-from c = grind (arith, common_steps)

pub marks_of-marks-requires-clause-some : goal.marks_of-marks-requires-clause-some
marks_of-marks-requires-clause-some c = grind (arith, common_steps)

pub marks_of-marks-requires-clause-few : goal.marks_of-marks-requires-clause-few
marks_of-marks-requires-clause-few c = grind (arith, common_steps)
