use Rattle.std.proofs.Common.{inl, inr}
use Rattle.postcard.specs.Frames.{Holds}
use Rattle.link_laws.proofs.RunHeardLemmas.{run_received, not_ended}
use Rattle.link_laws.proofs.headline.receive_owned_run.Goals as goal

pub returns-clause-run : goal.returns-clause-run
returns-clause-run g c run d comes ends = elim c.receive_owned.ensures.received [
  | inl u ↦ absurd (not_ended _ _ _ _ u ends)
  | inr h ↦ run_received g.T.Readable.form.takes (Holds g.T.Readable.form.takes) g.T.Readable.form.reads c.args.limit c.args.sentinel (c.told.ensures.ordinary c.args.limit c.args.sentinel) run d _ _ _ _ h.0 h.1 h.2 comes ends
]

pub returns-clause-received : goal.returns-clause-received
returns-clause-received g c = c.receive_owned.ensures.received
