use Rattle.std.proofs.Common.{arith, sym, ◌∙◌}
use Rattle.link.proofs.ReadingLemmas.{leading_more, leading_over}
use Rattle.link.proofs.in_place.leading_sentinels.Goals as goal

pub loop-count-preserved : goal.loop-count-preserved
loop-count-preserved c = record {
  within = omega (arith, c.loop-count-test.true);
  rest = c.loop-count.invariant.rest ∙ leading_more c.args.sentinel c.args.bytes.now c.loop-count.count c.loop-count-test.true c.if-bytes-count.true;
}

pub returns-else-bytes-count-clause-rest : goal.returns-else-bytes-count-clause-rest
returns-else-bytes-count-clause-rest c = sym (c.loop-count.invariant.rest ∙ leading_over c.args.sentinel c.args.bytes.now c.loop-count.count c.loop-count-test.true c.if-bytes-count.false)
