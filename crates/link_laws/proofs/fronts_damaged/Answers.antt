use Rattle.link_laws.proofs.ProvedLemmas.{fronts_damaged}
use Rattle.link_laws.proofs.fronts_damaged.Goals as goal

pub returns : goal.returns
returns g c limit = fronts_damaged g.T.Readable.form.takes record {
  one_message = c.message_of_a_frame.ensures.one;
  one_shortest = c.frames_of_a_message.ensures.shortest;
  apart = g.T.Readable.form.laws.once;
  trees = g.T.Readable.form.laws.trees;
  spells = c.short_is_a_spelling.ensures;
} record {
  nonzero = c.nonzero.ensures.zero;
  begins = c.fronts.ensures.begins;
  no_beginning = c.beginnings.ensures;
} limit 0
