use Rattle.std.proofs.Common.{ap, ◌∙◌}
use Rattle.sealed.specs.Checksum.{behind_byte}
use Rattle.sealed.proofs.ChecksumLemmas.{by_table}
use Rattle.sealed.proofs.checksum.add_byte.Goals as goal

pub returns : goal.returns
returns c = by_table c.args.register c.from.result ∙ ap (behind_byte c.args.register) c.from.ensures
