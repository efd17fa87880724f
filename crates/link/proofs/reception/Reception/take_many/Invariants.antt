use Rattle.std.proofs.Common.{ℕ, ◌-◌, ◌≤◌, length}
use Rattle.link.specs.Link.{Begun, IsAt, SameTerms}
use Rattle.link.specs.Lemmas.RunLaws.{Turn}
use Rattle.link.proofs.reception.Reception.take_many.Given as goal

abbrev pub invariant-loop-at : goal.invariant-loop-at
invariant-loop-at g l = record {
  within : l.at ≤ length l.piece;
  turns : (limit s : ℕ) (b : Begun) → IsAt g.D.Decoding.inside limit s l.fn.self b → Turn limit s b l.piece l.at (IsAt g.D.Decoding.inside limit s l.self);
  same : SameTerms g.D.Decoding.inside l.fn.self l.self;
}

abbrev pub decreases-loop-at : goal.decreases-loop-at
decreases-loop-at g l = length l.piece - l.at
