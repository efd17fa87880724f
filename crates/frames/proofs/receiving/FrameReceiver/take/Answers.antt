use Rattle.std.proofs.Common.{arith, subst, ◌∙◌}
use Rattle.link.specs.Finds.{BringsNothing}
use Rattle.link.specs.Lemmas.RunLaws.{at_whole}
use Rattle.frames.specs.Standing.{StandsAt}
use Rattle.frames.specs.Events.{BringsFrame}
use Rattle.frames.proofs.TakingLemmas.{taken_whole, turn_on, at_about, taken_about, where_none, where_some}
use Rattle.frames.proofs.receiving.FrameReceiver.take.Goals as goal

pub returns-clause-at : goal.returns-clause-at
returns-clause-at c limit s b h = at_whole limit s b c.args.piece.now c.loop-at.at _ (omega arith) (c.loop-at.invariant.turns limit s b h)

pub returns-clause-taken : goal.returns-clause-taken
returns-clause-taken c limit s b h = taken_whole limit s b c.args.piece.now c.loop-at.at _ (omega arith) (c.loop-at.invariant.turns limit s b h) _ (omega arith)

pub loop-at-preserved : goal.loop-at-preserved
loop-at-preserved c =
    let k = c.take_next-used in
    record {
      within = omega (arith, k.ensures.bound, c.split_at.ensures.back_len, c.loop-at.invariant.within);
      turns = λ limit s b h.
          let t = c.loop-at.invariant.turns limit s b h in
          let At = StandsAt limit s c.loop-at.self c.loop-at.buffer in
          let Later = StandsAt limit s k.new.self k.new.buffer in
          let w = k.ensures.brings limit s t.now t.at in
          let n = where_none _ _ k.result.event c.in-None.is w in
          turn_on limit s b c.args.piece.now c.loop-at.at At Later t k.result.used (subst (λ x. BringsNothing limit s t.now x k.result.used Later) c.split_at.ensures.back n);
      same = (k.ensures.same.0 ∙ c.loop-at.invariant.same.0, k.ensures.same.1 ∙ c.loop-at.invariant.same.1);
      count = k.ensures.count;
    }

pub returns-in_default : goal.returns-in_default
returns-in_default c =
    let k = c.take_next-used in
    record {
      at = λ limit s b h.
          let t = c.loop-at.invariant.turns limit s b h in
          let At = StandsAt limit s c.loop-at.self c.loop-at.buffer in
          let Later = StandsAt limit s k.new.self k.new.buffer in
          let a = where_some _ _ k.result.event c.in_default.not-None (k.ensures.brings limit s t.now t.at) in
          at_about limit s b c.args.piece.now c.loop-at.at At Later t k.new.buffer k.result (subst (λ x. BringsFrame limit s t.now x k.new.buffer k.result Later) c.split_at.ensures.back a);
      taken = λ limit s b h.
          let t = c.loop-at.invariant.turns limit s b h in
          let At = StandsAt limit s c.loop-at.self c.loop-at.buffer in
          let Later = StandsAt limit s k.new.self k.new.buffer in
          let a = where_some _ _ k.result.event c.in_default.not-None (k.ensures.brings limit s t.now t.at) in
          taken_about limit s b c.args.piece.now c.loop-at.at At Later t k.new.buffer k.result.used k.result.stretch k.result.event (subst (λ x. BringsFrame limit s t.now x k.new.buffer k.result Later) c.split_at.ensures.back a);
      front = k.ensures.front;
      within = k.ensures.within;
      bound = omega (arith, k.ensures.bound, c.split_at.ensures.back_len, c.loop-at.invariant.within);
      forward = λ l. omega (arith, k.ensures.forward (omega (arith, c.split_at.ensures.back_len, c.loop-at-test.true)));
      same = (k.ensures.same.0 ∙ c.loop-at.invariant.same.0, k.ensures.same.1 ∙ c.loop-at.invariant.same.1);
    }
