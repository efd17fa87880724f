use Rattle.postcard.specs.Frames.{Holds}
use Rattle.link.specs.Stream.{HoldsExactly}
use Rattle.link_laws.proofs.ProvedLemmas.{starts_anywhere}
use Rattle.link_laws.proofs.start_anywhere.Goals as goal

pub returns : goal.returns
returns g c = record { ordinary = starts_anywhere (Holds g.T.Readable.form.takes); strict = starts_anywhere (HoldsExactly g.T.Readable.form.takes) }
