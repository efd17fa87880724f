use Rattle.std.proofs.Common.{◌≡◌, take}
use Rattle.cobs.specs.Frames.{NoZero}
use Rattle.cobs.specs.InPlace.{written_over}
use Rattle.cobs.specs.Sentinel.{masked}
use Rattle.cobs.proofs.moves.copy_until_sentinel.Given as goal

abbrev pub invariant-loop-end : goal.invariant-loop-end
invariant-loop-end l = record {
  clear : NoZero (masked l.sentinel (take l.end l.bytes));
  copied : l.buffer ≡ written_over l.place (masked l.sentinel (take l.end l.bytes)) l.fn.buffer;
}
