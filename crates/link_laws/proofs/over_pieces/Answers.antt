use Rattle.postcard.specs.Frames.{Holds}
use Rattle.link.specs.Stream.{HoldsExactly}
use Rattle.link_laws.proofs.PushingLemmas.{of_the_whole}
use Rattle.link_laws.proofs.over_pieces.Goals as goal

pub returns : goal.returns
returns g c = record { ordinary = of_the_whole (Holds g.T.Readable.form.takes); strict = of_the_whole (HoldsExactly g.T.Readable.form.takes) }
