use Rattle.std.proofs.Common.{ap, ◌∙◌}
use Rattle.cobs.specs.Decoder.{buffer_of}
use Rattle.cobs.specs.InPlace.{written_over}
use Rattle.cobs.proofs.MaskingLemmas.{masked_zero}
use Rattle.cobs.proofs.dec.decoder.CobsDecoder.overwrite.Goals as goal

pub returns-clause-buffer : goal.returns-clause-buffer
returns-clause-buffer c = c.copy_over.ensures ∙ ap (λ b. written_over c.args.place b (buffer_of c.args.self.now)) (masked_zero c.args.bytes.now)
