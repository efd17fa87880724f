use Rattle.records.proofs.showing.show_rest.Goals as goal

pub returns-in-None-clause-whole : goal.returns-in-None-clause-whole
returns-in-None-clause-whole g c zero limit bytes told begun = c.in_ok-shown.ensures.whole c.in-None.is limit bytes told begun
