use Rattle.std.proofs.Common.{ℕ, ◌-◌, ◌≤◌, length}
use Rattle.link.specs.Stream.{Begun}
use Rattle.link.specs.Lemmas.RunLaws.{Turn}
use Rattle.frames.specs.Standing.{StandsAt, KeepsTerms}
use Rattle.frames.proofs.receiving.FrameReceiver.take.Given as goal

abbrev pub invariant-loop-at : goal.invariant-loop-at
invariant-loop-at l = record {
  within : l.at ≤ length l.piece;
  turns : (limit s : ℕ) (b : Begun) → StandsAt limit s l.fn.self l.fn.buffer b → Turn limit s b l.piece l.at (StandsAt limit s l.self l.buffer);
  same : KeepsTerms l.fn.self l.fn.buffer l.self l.buffer;
  count : l.self.count ≤ length l.buffer;
}

abbrev pub decreases-loop-at : goal.decreases-loop-at
decreases-loop-at l = length l.piece - l.at
