use Rattle.link_laws.proofs.ProvedLemmas.{is_told, is_told_exactly}
use Rattle.link_laws.proofs.told.Goals as goal

pub returns-clause-ordinary : goal.returns-clause-ordinary
returns-clause-ordinary g c limit s = is_told g.T.Readable.form.takes record {
  one_message = c.message_of_a_frame.ensures.one;
  one_shortest = c.frames_of_a_message.ensures.shortest;
  apart = g.T.Readable.form.laws.once;
  trees = g.T.Readable.form.laws.trees;
  spells = c.short_is_a_spelling.ensures;
} record {
  nonzero = c.nonzero.ensures.zero;
  begins = c.fronts.ensures.begins;
  no_beginning = c.beginnings.ensures;
} limit s

pub returns-clause-strict : goal.returns-clause-strict
returns-clause-strict g c limit s = is_told_exactly g.T.Readable.form.takes record {
  one_message = c.message_of_a_frame.ensures.one;
  one_shortest = c.frames_of_a_message.ensures.shortest;
  apart = g.T.Readable.form.laws.once;
  trees = g.T.Readable.form.laws.trees;
  spells = c.short_is_a_spelling.ensures;
} record {
  nonzero = c.nonzero.ensures.zero;
  begins = c.fronts.ensures.begins;
  no_beginning = c.beginnings.ensures;
} limit s
