use Rattle.std.proofs.Common.{◌≡◌, take}
use Rattle.sealed.specs.Checksum.{behind_bytes}
use Rattle.sealed.proofs.checksum.add_each.Given as goal

abbrev pub invariant-loop-byte : goal.invariant-loop-byte
invariant-loop-byte l = l.register ≡ behind_bytes l.fn.register (take l.byte-index l.bytes)
