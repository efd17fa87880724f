use Rattle.link_codec.proofs.SessionsLemmas.{session_of}
use Rattle.link_codec.proofs.laws.carried.session_of.Goals as goal

pub returns : goal.returns
returns g c = session_of g.T.Readable.form.writes g.T.Readable.form.valid c.args.values.now c.args.encoder.now
