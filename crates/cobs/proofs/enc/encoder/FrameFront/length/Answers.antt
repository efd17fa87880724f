use Rattle.cobs.proofs.MaskingLemmas.{front_masked}
use Rattle.cobs.proofs.enc.encoder.FrameFront.length.Goals as goal

pub returns-else-self-clause-frame : goal.returns-else-self-clause-frame
returns-else-self-clause-frame c = λ buffer stands ready. front_masked c.args.self.now.sentinel buffer _ _ (stands ready)
