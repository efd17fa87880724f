use Rattle.sealed.proofs.WritingLemmas.{seal_written}
use Rattle.sealed.proofs.value.SealedSerialize.serialize.Goals as goal

pub returns-in-Ok-clause-writes : goal.returns-in-Ok-clause-writes
returns-in-Ok-clause-writes g c =
    seal_written g.met.F.Flavor.laws 0 _ _ _ (g.T.Readable.form.writes c.args.self.now.0) c.in-Ok.sum c.serialize.result
    (rw c.in-Ok.is at c.write_summed-written.ensures.sum) (rw c.in-Ok.is at c.write_summed-written.ensures.writes) c.serialize.ensures.writes
