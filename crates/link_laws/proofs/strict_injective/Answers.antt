use Rattle.link_laws.proofs.StrictLemmas.{is_injective}
use Rattle.link_laws.proofs.strict_injective.Goals as goal

pub returns : goal.returns
returns g c limit s = is_injective g.T.Readable.form.takes record {
  one_message = c.message_of_a_frame.ensures.one;
  one_shortest = c.frames_of_a_message.ensures.shortest;
  apart = g.T.Readable.form.laws.once;
  trees = g.T.Readable.form.laws.trees;
  spells = c.short_is_a_spelling.ensures;
} limit s
