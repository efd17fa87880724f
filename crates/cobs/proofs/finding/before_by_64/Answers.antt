use Rattle.std.proofs.Common.{◌+◌, ◌-◌, ◌≤◌, length, drop, length-take, arith}
use Rattle.cobs.proofs.LanesLemmas.{lanes_long}
use Rattle.cobs.proofs.SearchingLemmas.{none_on, none_then, end_on}
use Rattle.cobs.proofs.finding.before_by_64.Goals as goal

pub is_positive-requires : goal.is_positive-requires
is_positive-requires c =
    lanes_long c.args.sentinel c.loop-at.at c.args.bytes.now _ (omega (arith, c.loop-at-test.true, c.loop-at.invariant.within)) c.load_masked.ensures

pub loop-at-preserved-then-is_positive : goal.loop-at-preserved-then-is_positive
loop-at-preserved-then-is_positive c =
    let room : 64 ≤ length c.args.bytes.now - c.loop-at.at = c.loop-at-test.true in
    record {
      within = omega (arith, room, c.loop-at.invariant.within);
      none = none_then c.args.sentinel c.loop-at.at c.args.bytes.now _ c.loop-at.invariant.none room c.load_masked.ensures (c.is_positive.ensures c.if-is_positive.true);
    }

pub loop-at-preserved : goal.loop-at-preserved
loop-at-preserved c =
    let at = c.loop-at.at in
    let bytes = c.args.bytes.now in
    record {
      within = omega (arith, c.loop-at-test.true, c.loop-at.invariant.within);
      none = λ k l. none_on c.args.sentinel at 64 (at + 64 - at) bytes c.loop-at.invariant.none (omega arith) (λ j q. c.before_few-n.ensures.none j (omega (arith, q, c.if-n-lt64.false))) k l;
    }

pub returns-then-n-lt64 : goal.returns-then-n-lt64
returns-then-n-lt64 c =
    let at = c.loop-at.at in
    let bytes = c.args.bytes.now in
    record {
      within = omega (arith, c.loop-at-test.true, c.loop-at.invariant.within, c.if-n-lt64.true);
      none = none_on c.args.sentinel at c.before_few-n.result (at + 64 - at) bytes c.loop-at.invariant.none (omega (arith, c.if-n-lt64.true)) c.before_few-n.ensures.none;
      end = λ _. end_on c.args.sentinel at c.before_few-n.result (at + 64 - at) bytes (omega (arith, c.if-n-lt64.true, c.loop-at-test.true)) (omega (arith, c.if-n-lt64.true)) c.before_few-n.ensures.end;
    }

pub returns : goal.returns
returns c =
    let at = c.loop-at.at in
    let bytes = c.args.bytes.now in
    let few : c.before_few.result ≤ length bytes - at = omega (arith, c.before_few.ensures.within, length-take (length bytes - at) (drop at bytes)) in
    record {
      within = omega (arith, few, c.loop-at.invariant.within);
      none = none_on c.args.sentinel at c.before_few.result (length bytes - at) bytes c.loop-at.invariant.none few c.before_few.ensures.none;
      end = λ l. end_on c.args.sentinel at c.before_few.result (length bytes - at) bytes (omega (arith, l)) (omega (arith, l)) c.before_few.ensures.end;
    }

pub loop-at-init : goal.loop-at-init
loop-at-init c = record { within = omega arith; none = λ k l. absurd (omega (arith, l)) }
