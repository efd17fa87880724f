use Rattle.std.proofs.Common.{◌<◌, ◌≤◌, length, arith, refl}
use Rattle.frames.proofs.DecodingLemmas.{decodes_start, decodes_code, decodes_byte, decodes_frame, decodes_damaged}
use Rattle.frames.proofs.decoding.decode_short.Goals as goal
use Rattle.frames.proofs.decoding.decode_short.Goals.{then-left-eq0, else-left-eq0}

pub loop-at-init : goal.loop-at-init
loop-at-init c = record {
  decodes = decodes_start c.args.sentinel c.args.front.now c.saturating_sub-left.result c.requires.short c.requires.some c.saturating_sub-left.ensures;
  within = omega (arith, c.requires.some);
  small = λ k. (c.type_inv.front k).fits;
}

pub loop-at-preserved : goal.loop-at-preserved
loop-at-preserved c =
    let s = c.args.sentinel in
    let old = c.args.front.now in
    let near : c.loop-at.at < length old = omega (arith, c.loop-at-test.true, c.loop-at.auto.front) in
    let d = c.loop-at.invariant.decodes in
    record {
      decodes = elim c.if-left-eq0.branch [
        | then-left-eq0 w ↦ rw w.front-is (rw w.left-is (decodes_code s old c.loop-at.at c.loop-at.left c.loop-at.front c.requires.short near d w.if-left-eq0.true w.saturating_sub-left-then-left-eq0.result w.saturating_sub-left-then-left-eq0.ensures))
        | else-left-eq0 w ↦ rw w.front-is (rw w.left-is (decodes_byte s old c.loop-at.at c.loop-at.left c.loop-at.front c.requires.short near d w.if-left-eq0.false _ refl))
      ];
      within = omega (arith, near);
      small = c.loop-at.invariant.small;
    }

pub returns-then-left-eq0-2-clause-frame : goal.returns-then-left-eq0-2-clause-frame
returns-then-left-eq0-2-clause-frame c =
    let end : length c.args.front.now ≤ c.loop-at.at = omega (arith, c.loop-at-test.false, c.loop-at.auto.front) in
    decodes_frame c.args.sentinel c.args.front.now c.loop-at.at c.loop-at.left c.loop-at.front end c.loop-at.invariant.within c.loop-at.invariant.decodes
    c.message_of_a_frame.ensures.is c.ranges.sentinel.fits c.loop-at.invariant.small c.requires.some c.if-left-eq0-2.true _ refl

pub returns-else-left-eq0-2-clause-damaged : goal.returns-else-left-eq0-2-clause-damaged
returns-else-left-eq0-2-clause-damaged c e z =
    let end : length c.args.front.now ≤ c.loop-at.at = omega (arith, c.loop-at-test.false, c.loop-at.auto.front) in
    decodes_damaged c.args.sentinel c.args.front.now c.loop-at.at c.loop-at.left c.loop-at.front end c.loop-at.invariant.within c.loop-at.invariant.decodes c.message_of_a_frame.ensures.ends c.if-left-eq0-2.false
