use Rattle.std.proofs.Common.{List, ℕ}
use Rattle.cobs.specs.Sentinel.{masked}
use Rattle.cobs.specs.Streaming.{HasStreamed}
use Rattle.cobs.proofs.TurnsLemmas.{Turn}
use Rattle.cobs.proofs.dec.progress.Progress.push_few.Given as goal

abbrev pub invariant-loop-at : goal.invariant-loop-at
invariant-loop-at l = (p : List ℕ) → HasStreamed l.fn.self p → Turn p (masked l.sentinel l.piece) l.fn.buffer l.at l.buffer l.self
