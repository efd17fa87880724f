use Rattle.std.proofs.Common.{◌∙◌}
use Rattle.records.proofs.CheckingLemmas.{at_end}
use Rattle.records.proofs.showing.write_rest.Goals as goal

pub returns-in-Ok-None-clause-whole : goal.returns-in-Ok-None-clause-whole
returns-in-Ok-None-clause-whole g c e limit bytes told begun =
    let held = c.loop.invariant.held ∙ told in
    let stands = c.loop.invariant.stands limit bytes told begun in
    (c.in-Ok-None.ensures.stands limit bytes held stands, at_end _ limit bytes _ _ _ c.in-Ok-None.field-0-is (c.in-Ok-None.ensures.found limit bytes held stands))
