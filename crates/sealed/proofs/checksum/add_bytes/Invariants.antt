use Rattle.std.proofs.Common.{◌≡◌, length}
use Rattle.sealed.specs.Checksum.{behind_bytes}
use Rattle.sealed.proofs.checksum.add_bytes.Given as goal

abbrev pub invariant-loop-rest : goal.invariant-loop-rest
invariant-loop-rest l = behind_bytes l.register l.rest ≡ behind_bytes l.fn.register l.bytes

abbrev pub decreases-loop-rest : goal.decreases-loop-rest
decreases-loop-rest l = length l.rest
