use Rattle.std.proofs.lemmas.Result.{IfOk-weaker}
use Rattle.postcard_tree.specs.ByteSlices.{bytes_alike}
use Rattle.example_station.proofs.laws.packet.Goals as goal

pub returns-clause-body : goal.returns-clause-body
returns-clause-body c = IfOk-weaker c.round_trip.result _ _ (λ p h. (bytes_alike c.args.v.now.body.now p.0.body.now).0 h.2) c.round_trip.ensures.alike
