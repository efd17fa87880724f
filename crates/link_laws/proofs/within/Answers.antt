use Rattle.link_laws.specs.Sessions.{wider_run}
use Rattle.link_laws.proofs.within.Goals as goal

pub returns : goal.returns
returns g c s n limit sessions l h = wider_run g.T.Readable.form.takes s n limit l sessions h
