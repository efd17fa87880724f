use Rattle.cobs.proofs.enc.encoder.CobsEncoder.finalize.Goals as goal

pub returns-clause-spent : goal.returns-clause-spent
returns-clause-spent c = c.length.ensures.spent

pub returns-clause-length : goal.returns-clause-length
returns-clause-length c = c.length.ensures.length c.args.self.dest.now c.args.self.stands

pub returns-clause-frame : goal.returns-clause-frame
returns-clause-frame c = c.length.ensures.frame c.args.self.dest.now c.args.self.stands
