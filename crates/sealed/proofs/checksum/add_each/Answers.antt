use Rattle.std.proofs.Common.{ap, get_or, ◌∙◌}
use Rattle.sealed.specs.Checksum.{behind_byte}
use Rattle.sealed.proofs.SummedLemmas.{behind_more}
use Rattle.sealed.proofs.checksum.add_each.Goals as goal

pub loop-byte-preserved : goal.loop-byte-preserved
loop-byte-preserved c =
    let b = get_or c.args.bytes.now c.loop-byte.byte-index 0 in
    c.add_byte-register.ensures ∙ ap (λ r. behind_byte r b) c.loop-byte.invariant ∙ behind_more c.args.register c.args.bytes.now c.loop-byte.byte-index c.loop-byte-test.true
