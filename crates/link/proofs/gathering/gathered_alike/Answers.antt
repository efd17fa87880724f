use Rattle.link.specs.Lemmas.Facts.{one_tree}
use Rattle.link.specs.Lemmas.RoadLaws.{same_by_accumulator}
use Rattle.link.proofs.gathering.gathered_alike.Goals as goal

pub returns : goal.returns
returns g c values s = same_by_accumulator g.T.Readable.form.takes g.T.Readable.form.reads g.T.Readable.form.growing values s (one_tree g.T.Readable.form.takes record {
  one_message = c.message_of_a_frame.ensures.one;
  one_shortest = c.frames_of_a_message.ensures.shortest;
  apart = g.T.Readable.form.laws.once;
  trees = g.T.Readable.form.laws.trees;
  spells = c.short_is_a_spelling.ensures;
})
