use Rattle.link.specs.Lemmas.Lengths.{is_least}
use Rattle.link_laws.proofs.least.Goals as goal

pub returns : goal.returns
returns g c limit = is_least g.T.Readable.form.takes record {
  one_message = c.message_of_a_frame.ensures.one;
  one_shortest = c.frames_of_a_message.ensures.shortest;
  apart = g.T.Readable.form.laws.once;
  trees = g.T.Readable.form.laws.trees;
  spells = c.short_is_a_spelling.ensures;
} c.frames_of_a_message.ensures.other c.patterns.ensures c.thinner.ensures limit
