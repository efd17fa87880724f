use Rattle.cobs.proofs.MaskingLemmas.{begins_masked}
use Rattle.cobs.proofs.enc.encoder.FrameFront.begin_with_sentinel.Goals as goal

pub returns-clause-stands : goal.returns-clause-stands
returns-clause-stands c _ = (begins_masked c.args.sentinel c.args.dest.now c.requires).0

pub returns-clause-message : goal.returns-clause-message
returns-clause-message c = (begins_masked c.args.sentinel c.args.dest.now c.requires).1
