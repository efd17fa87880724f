use Rattle.cobs.proofs.KeepingLemmas.{kept_end}
use Rattle.cobs.proofs.enc.state.EncoderState.finalize.Goals as goal

pub returns-clause-frame : goal.returns-clause-frame
returns-clause-frame c = λ buffer message k. kept_end c.args.self.code_at c.args.self.code buffer message c.args.self.begun k
