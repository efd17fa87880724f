use Rattle.std.proofs.Common.{◌+◌, ◌<◌, ◌++◌, length, ◌∙◌, arith, length-append}
use Rattle.frames_small.proofs.RunsLemmas.{run_clear}
use Rattle.frames_small.proofs.sending.run_at.Goals as goal

pub loop-run-preserved : goal.loop-run-preserved
loop-run-preserved c =
    let text = c.args.count.now ++ c.args.message.now in
    let near : c.args.at + c.loop-run.run < length text = omega (arith, c.if-at-run.false, c.loop-run.invariant.within, c.requires.end, length-append c.args.count.now c.args.message.now) in
    record {
      few = omega (arith, c.loop-run-test.true);
      within = omega (arith, c.if-at-run.false, c.loop-run.invariant.within);
      clear = run_clear text c.args.at c.loop-run.run near (λ e. c.if-byte_at-eq0.false (c.byte_at.ensures ∙ e)) c.loop-run.invariant.clear;
    }
