use Rattle.std.proofs.lemmas.Grind.{common_steps}
use Rattle.std.proofs.Common.{refl, ◌∙◌, ap, sym, arith, ◌++◌, ◌∷◌, [], take, length, ◌<◌}
use Rattle.std.proofs.lemmas.List.{take_more, take_more_set}
use Rattle.link.specs.Lemmas.SendLaws.{none_sent}
use Rattle.link.proofs.SendingLemmas.{one_sent}
use Rattle.link.proofs.session.send_all.Goals as goal

pub loop-i-preserved : goal.loop-i-preserved
loop-i-preserved g c =
    let i = c.loop-i.i in
    let value = c.index-values-i.result in
    let short : i < length c.loop-i.fates = omega (arith, c.loop-i-test.true, c.loop-i.auto.fates, c.requires) in
    let kept = c.loop-i.invariant.sentinel in
    let one = rw kept at c.send_one.ensures.one in record {
      sentinel = c.send_one.ensures.sentinel ∙ kept;
      sent =
          rw (take_more c.args.values.now i value c.loop-i-test.true ∙ ap (λ v. take i c.args.values.now ++ v ∷ []) (sym c.index-values-i.is), take_more_set c.loop-i.fates i c.send_one.result short)
          (one_sent _ _ _ _ _ _ _ _ _ _ _ _ _ _ c.loop-i.invariant.sent one);
    }

pub loop-i-init : goal.loop-i-init
loop-i-init g c = record { sentinel = refl; sent = none_sent _ _ _ _ _ _ }

pub returns : goal.returns
returns g c = grind (arith, common_steps)
