use Rattle.postcard.specs.Frames.{Holds}
use Rattle.link_laws.proofs.RunHeardLemmas.{run_received}
use Rattle.link_laws.proofs.headline.receive_run_with_sentinel.Goals as goal

pub returns-clause-run : goal.returns-clause-run
returns-clause-run g c run d comes ends =
    let h = c.receive_with_sentinel.ensures.received in
    run_received g.T.Readable.form.takes (Holds g.T.Readable.form.takes) g.T.Readable.form.reads g.row.N c.args.sentinel (c.told.ensures.ordinary g.row.N c.args.sentinel) run d _ _ _ _ h.0 h.1 h.2 comes ends

pub returns-clause-received : goal.returns-clause-received
returns-clause-received g c = c.receive_with_sentinel.ensures.received
