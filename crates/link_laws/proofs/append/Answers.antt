use Rattle.postcard.specs.Frames.{Holds}
use Rattle.link.specs.Stream.{HoldsExactly}
use Rattle.link_laws.proofs.ProvedLemmas.{appends}
use Rattle.link_laws.proofs.append.Goals as goal

pub returns : goal.returns
returns g c = record { ordinary = appends (Holds g.T.Readable.form.takes); strict = appends (HoldsExactly g.T.Readable.form.takes) }
