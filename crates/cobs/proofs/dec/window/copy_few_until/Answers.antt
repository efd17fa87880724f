use Rattle.std.proofs.Common.{◌∙◌, ap, sym}
use Rattle.cobs.specs.InPlace.{written_over}
use Rattle.cobs.proofs.MaskingLemmas.{masked_take}
use Rattle.cobs.proofs.dec.window.copy_few_until.Goals as goal

pub returns-clause-buffer : goal.returns-clause-buffer
returns-clause-buffer c = c.copy_few.ensures ∙ ap (λ b. written_over c.args.place b c.args.buffer.now) (sym (masked_take c.args.sentinel c.before_few-n.result c.args.bytes.now))
