use Rattle.postcard.specs.Frames.{Holds}
use Rattle.link.specs.Stream.{HoldsExactly}
use Rattle.link.specs.Lemmas.Facts.{one_tree, one_tree_exactly}
use Rattle.link_laws.proofs.ProvedLemmas.{is_local}
use Rattle.link_laws.proofs.local.Goals as goal

pub returns-clause-ordinary : goal.returns-clause-ordinary
returns-clause-ordinary g c limit s = is_local (Holds g.T.Readable.form.takes) limit s (one_tree g.T.Readable.form.takes record {
  one_message = c.message_of_a_frame.ensures.one;
  one_shortest = c.frames_of_a_message.ensures.shortest;
  apart = g.T.Readable.form.laws.once;
  trees = g.T.Readable.form.laws.trees;
  spells = c.short_is_a_spelling.ensures;
})

pub returns-clause-strict : goal.returns-clause-strict
returns-clause-strict g c limit s = is_local (HoldsExactly g.T.Readable.form.takes) limit s (one_tree_exactly g.T.Readable.form.takes record {
  one_message = c.message_of_a_frame.ensures.one;
  one_shortest = c.frames_of_a_message.ensures.shortest;
  apart = g.T.Readable.form.laws.once;
  trees = g.T.Readable.form.laws.trees;
  spells = c.short_is_a_spelling.ensures;
})
