use Rattle.cobs.proofs.MaskingLemmas.{opens_masked}
use Rattle.cobs.proofs.codes.open_block.Goals as goal

pub returns-then-at-clause-laid : goal.returns-then-at-clause-laid
returns-then-at-clause-laid c =
    (opens_masked c.args.sentinel c.args.dest.now c.args.at.code_at c.args.at.len c.requires.holds.laid
    c.requires.room c.if-at.true c.requires.holds.goes_on).0

pub returns-then-at-clause-goes_on : goal.returns-then-at-clause-goes_on
returns-then-at-clause-goes_on c =
    (opens_masked c.args.sentinel c.args.dest.now c.args.at.code_at c.args.at.len c.requires.holds.laid
    c.requires.room c.if-at.true c.requires.holds.goes_on).1

pub returns-clause-laid : goal.returns-clause-laid
returns-clause-laid c = c.requires.holds.laid

pub returns-clause-goes_on : goal.returns-clause-goes_on
returns-clause-goes_on c = c.requires.holds.goes_on
