use Rattle.declaration_parser.specs.Silent.{SaysNothing}
use Rattle.declaration_parser.proofs.faults.Faults.put_all.Given as goal

abbrev pub invariant-loop-piece : goal.invariant-loop-piece
invariant-loop-piece l = SaysNothing l.self → SaysNothing l.fn.self
