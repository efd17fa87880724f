use Rattle.std.proofs.Common.{◌≡◌, ℕ, ◌+◌, List, ◌++◌, length}
use Rattle.link.specs.declared.receiver.Answer.{Answer}
use Rattle.journal.specs.Reading.{HearsLog, HearsMore, log_reading, visited}
use Rattle.journal.proofs.reading.hear.Given as goal

-- what is left of the piece, and that what came before it was heard
abbrev pub invariant-loop-rest : goal.invariant-loop-rest
invariant-loop-rest g l = record {
  heard : (first : ℕ) (stream : List ℕ) (answers : List (Answer (ℕ × g.row.T.Denot))) → HearsLog (log_reading (g.M.MessageReader.judging l.fn.messages) g.row.N first) l.fn.receiver answers l.fn.count stream
      → (done : List ℕ) × (l.fn.piece ≡ done ++ l.rest) × HearsMore (log_reading (g.M.MessageReader.judging l.fn.messages) g.row.N first) (visited g.V.Visitor.took g.V.Visitor.halts l.fn.visitor l.visitor) l.receiver answers l.count (stream ++ done);
  so_far : (more : List (Answer (ℕ × g.row.T.Denot))) × g.V.Visitor.took l.fn.visitor more l.visitor;
  on : l.count.heard + length l.rest ≡ l.fn.count.heard + length l.fn.piece;
}

abbrev pub decreases-loop-rest : goal.decreases-loop-rest
decreases-loop-rest g l = length l.rest
