use Rattle.std.proofs.Common.{ap, ◌∙◌}
use Rattle.sealed.specs.Checksum.{behind_byte}
use Rattle.sealed.proofs.ChecksumLemmas.{by_tables}
use Rattle.sealed.proofs.checksum.add_four.Goals as goal

pub returns : goal.returns
returns c =
    by_tables c.args.register c.from.result c.from-2.result c.from-3.result c.from-4.result
    ∙ ap (λ x. behind_byte (behind_byte (behind_byte (behind_byte c.args.register x) c.from-2.result) c.from-3.result) c.from-4.result) c.from.ensures
    ∙ ap (λ x. behind_byte (behind_byte (behind_byte (behind_byte c.args.register c.args.a) x) c.from-3.result) c.from-4.result) c.from-2.ensures
    ∙ ap (λ x. behind_byte (behind_byte (behind_byte (behind_byte c.args.register c.args.a) c.args.b) x) c.from-4.result) c.from-3.ensures
    ∙ ap (behind_byte (behind_byte (behind_byte (behind_byte c.args.register c.args.a) c.args.b) c.args.c)) c.from-4.ensures
