use Rattle.postcard.specs.Frames.{Holds}
use Rattle.link.specs.Stream.{HoldsExactly}
use Rattle.link_laws.proofs.PushingLemmas.{set_anew}
use Rattle.link_laws.proofs.set_anew.Goals as goal

pub returns : goal.returns
returns g c = record { ordinary = set_anew (Holds g.T.Readable.form.takes); strict = set_anew (HoldsExactly g.T.Readable.form.takes) }
