use Rattle.std.proofs.Common.{◌≡◌, take, drop}
use Rattle.cobs.specs.InPlace.{written_over}
use Rattle.cobs.specs.Sentinel.{masked}
use Rattle.cobs.proofs.moves.move_few.Given as goal

abbrev pub invariant-loop-i : goal.invariant-loop-i
invariant-loop-i l = l.buffer ≡ written_over l.place (masked l.sentinel (take l.i (drop l.from l.fn.buffer))) l.fn.buffer
