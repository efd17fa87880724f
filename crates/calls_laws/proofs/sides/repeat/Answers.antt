use Rattle.std.proofs.Common.{ap}
use Rattle.link.specs.Senders.{sender_place}
use Rattle.calls.specs.Asking.{asker_of}
use Rattle.calls_laws.proofs.StepsLemmas.{called, repeated}
use Rattle.calls_laws.proofs.sides.repeat.Goals as goal

pub loop-init : goal.loop-init
loop-init g c =
    let place = sender_place {N = g.row.N} g.W.Outlet.line in
    called g.row.N _ _ (asker_of c.args.client.now) (asker_of c.call-called.new.self) c.args.request c.call-called.result _ _ _ (ap place) c.requires c.call-called.ensures.called

pub loop-preserved : goal.loop-preserved
loop-preserved g c =
    let place = sender_place {N = g.row.N} g.W.Outlet.line in
    repeated g.row.N _ _ _ (asker_of c.loop.client) (asker_of c.again-repeated.new.self) c.again-repeated.result _ _ _ _ (ap place) c.loop.invariant c.again-repeated.ensures.repeated
