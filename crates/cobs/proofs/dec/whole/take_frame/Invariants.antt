use Rattle.std.proofs.Common.{take}
use Rattle.cobs.specs.Sentinel.{masked}
use Rattle.cobs.specs.Streaming.{HasStreamed}
use Rattle.cobs.proofs.dec.whole.take_frame.Given as goal

abbrev pub invariant-loop-byte : goal.invariant-loop-byte
invariant-loop-byte l = HasStreamed l.progress (take l.byte-index (masked l.sentinel l.frame))
