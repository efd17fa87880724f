use Rattle.std.proofs.Common.{◌≡◌, ◌-◌, ◌≤◌}
use Rattle.sealed.specs.Checksum.{shifted_by, behind_byte}
use Rattle.frames_small.proofs.checksum.add_byte.Given as goal

abbrev pub invariant-loop-bit : goal.invariant-loop-bit
invariant-loop-bit l = record {
  moved : shifted_by (8 - l.bit) l.moved ≡ behind_byte l.state l.byte;
  few : l.bit ≤ 8;
}

abbrev pub decreases-loop-bit : goal.decreases-loop-bit
decreases-loop-bit l = 8 - l.bit
