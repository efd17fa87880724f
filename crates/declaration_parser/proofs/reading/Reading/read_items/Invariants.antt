use Rattle.declaration_parser.specs.Standing.{AreInOrder}
use Rattle.declaration_parser.proofs.reading.Reading.read_items.Given as goal

abbrev pub invariant-loop-item : goal.invariant-loop-item
invariant-loop-item l = AreInOrder 0 l.fn.self.found.items l.fn.self.end → AreInOrder 0 l.self.found.items l.self.end
