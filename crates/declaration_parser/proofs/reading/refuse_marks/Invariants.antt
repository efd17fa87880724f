use Rattle.std.specs.Prelude.{◌≡◌}
use Rattle.declaration_parser.specs.Marked.{NoMark}
use Rattle.declaration_parser.specs.Silent.{SaysNothing}
use Rattle.declaration_parser.proofs.reading.refuse_marks.Given as goal

-- no mark is passed over before one is refused
abbrev pub invariant-loop-place : goal.invariant-loop-place
invariant-loop-place l =
    (SaysNothing l.faults → SaysNothing l.fn.faults)
    × (SaysNothing l.faults → l.told ≡ 0)
    × (SaysNothing l.faults → NoMark l.fn.tokens l.fn.words.from l.place)
