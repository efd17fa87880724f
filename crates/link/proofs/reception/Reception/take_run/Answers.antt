use Rattle.std.proofs.Common.{◌≡◌, ◌+◌, ◌-◌, ◌<◌, length, refl, ◌∙◌, ap, subst, arith}
use Rattle.cobs.specs.Frames.{NoZero}
use Rattle.cobs.specs.Sentinel.{masked}
use Rattle.link.proofs.ReceivingLemmas.{kept_is, has_nothing, holds_run, runs_over}
use Rattle.link.specs.Lemmas.RunLaws.{runs_past}
use Rattle.link.proofs.reception.Reception.take_run.Goals as goal

pub returns-then-self-clause-runs : goal.returns-then-self-clause-runs
returns-then-self-clause-runs g c limit s b i =
    runs_over limit s _ _ c.args.self.now.past b c.args.run.now _ c.if-self.true i.state i (subst (λ k. NoZero (masked k c.args.run.now)) i.sentinel_is c.requires)

pub returns-then-run-left-clause-runs : goal.returns-then-run-left-clause-runs
returns-then-run-left-clause-runs g c limit s b i =
    let z = subst (λ k. NoZero (masked k c.args.run.now)) i.sentinel_is c.requires in
    let k = kept_is limit s _ _ c.args.self.now.past b c.if-self.false i.state in
    let n = c.held.ensures.count in
    let own = c.limit.ensures ∙ k.2.room in
    let far : limit < length k.0 + length c.args.run.now = omega (arith, c.if-run-left.true, n, k.2.counted, k.2.within, own) in
    let used : c.limit.result - c.held.result + 1 ≡ (limit - length k.0) + 1 = omega (arith, n, k.2.counted, own) in
    runs_past limit s b k.0 c.args.run.now _ _ k.1 z k.2.within far used record {
      sentinel_is = i.sentinel_is;
      state = (refl, has_nothing limit s _ _ c.clear.ensures.none (ap length c.clear.ensures.bytes ∙ k.2.room));
    }

pub returns-clause-runs : goal.returns-clause-runs
returns-clause-runs g c limit s b i =
    let old = g.D.Decoding.inside c.args.self.now.buffer in
    holds_run limit s _ old.bytes _ old.count _ c.args.self.now.past b c.args.run.now _ i.sentinel_is c.if-self.false i.state c.requires
    (omega (arith, c.if-run-left.false, c.held.ensures.count, c.held.ensures.within, c.limit.ensures)) c.hold.ensures.bytes c.hold.ensures.count (λ _ j. record { sentinel_is = i.sentinel_is; state = j })
