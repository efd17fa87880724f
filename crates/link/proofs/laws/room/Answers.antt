use Rattle.link.specs.Lemmas.Lengths.{has_room}
use Rattle.link.proofs.laws.room.Goals as goal

pub returns : goal.returns
returns g c = has_room c.lengths.ensures.within g.T.MaxSize.greatest (g.T.Readable.form.writes c.args.value.now) c.within_greatest.ensures
