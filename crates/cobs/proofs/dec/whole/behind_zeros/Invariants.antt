use Rattle.std.proofs.Common.{◌≡◌, drop}
use Rattle.cobs.specs.Whole.{unpadded}
use Rattle.cobs.proofs.dec.whole.behind_zeros.Given as goal

abbrev pub invariant-loop-start : goal.invariant-loop-start
invariant-loop-start l = unpadded l.bytes ≡ unpadded (drop l.start l.bytes)
