use Rattle.std.proofs.Common.{◌≡◌, take}
use Rattle.sealed.specs.Checksum.{behind_bytes}
use Rattle.frames_small.proofs.checksum.add_bytes.Given as goal

abbrev pub invariant-loop-byte : goal.invariant-loop-byte
invariant-loop-byte l = l.state ≡ behind_bytes l.fn.state (take l.byte-index l.bytes)
