use Rattle.postcard.specs.Frames.{Holds}
use Rattle.link.specs.Lemmas.Facts.{one_tree}
use Rattle.link.specs.Lemmas.RoadLaws.{same_in_place, same_by_accumulator}
use Rattle.link_laws.proofs.roads.Goals as goal

pub returns-clause-in_place : goal.returns-clause-in_place
returns-clause-in_place g c s = same_in_place (Holds g.T.Readable.form.takes) s (one_tree g.T.Readable.form.takes record {
  one_message = c.message_of_a_frame.ensures.one;
  one_shortest = c.frames_of_a_message.ensures.shortest;
  apart = g.T.Readable.form.laws.once;
  trees = g.T.Readable.form.laws.trees;
  spells = c.short_is_a_spelling.ensures;
})

pub returns-clause-accumulator : goal.returns-clause-accumulator
returns-clause-accumulator g c s = same_by_accumulator g.T.Readable.form.takes g.T.Readable.form.reads g.T.Readable.form.growing c.args.values.now s (one_tree g.T.Readable.form.takes record {
  one_message = c.message_of_a_frame.ensures.one;
  one_shortest = c.frames_of_a_message.ensures.shortest;
  apart = g.T.Readable.form.laws.once;
  trees = g.T.Readable.form.laws.trees;
  spells = c.short_is_a_spelling.ensures;
})
