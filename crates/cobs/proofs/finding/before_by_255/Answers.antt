use Rattle.std.proofs.Common.{◌+◌, ◌-◌, ◌≤◌, length, take, drop, length-take, length-drop, arith}
use Rattle.cobs.proofs.SearchingLemmas.{none_on, end_on}
use Rattle.cobs.proofs.SourcesLemmas.{clear_byte}
use Rattle.cobs.proofs.finding.before_by_255.Goals as goal

pub loop-at-init : goal.loop-at-init
loop-at-init c = record { within = omega arith; none = λ k l. absurd (omega (arith, l)) }

pub loop-at-preserved : goal.loop-at-preserved
loop-at-preserved c =
    let at = c.loop-at.at in
    let bytes = c.args.bytes.now in
    let piece = take (at + 255 - at) (drop at bytes) in
    let room : 255 ≤ length bytes - at = c.loop-at-test.true in
    let inside : at ≤ length bytes = c.loop-at.invariant.within in
    let long : 255 ≤ length piece = omega (arith, length-take (at + 255 - at) (drop at bytes), length-drop at bytes, room) in
    record {
      within = omega (arith, room, inside);
      none = λ k l. none_on c.args.sentinel at 255 (at + 255 - at) bytes c.loop-at.invariant.none (omega arith)
          (λ j q. clear_byte c.args.sentinel piece j (omega (arith, q, long)) (c.is_clear_255.ensures c.if-is_clear_255.true j q)) k l;
    }

pub returns : goal.returns
returns c =
    let at = c.loop-at.at in
    let bytes = c.args.bytes.now in
    let few : c.before_by_64.result ≤ length bytes - at = omega (arith, c.before_by_64.ensures.within, length-take (length bytes - at) (drop at bytes)) in
    record {
      within = omega (arith, few, c.loop-at.invariant.within);
      none = none_on c.args.sentinel at c.before_by_64.result (length bytes - at) bytes c.loop-at.invariant.none few c.before_by_64.ensures.none;
      end = λ l. end_on c.args.sentinel at c.before_by_64.result (length bytes - at) bytes (omega (arith, l)) (omega (arith, l)) c.before_by_64.ensures.end;
    }
