use Rattle.declaration_parser.specs.Silent.{SaysNothing}
use Rattle.declaration_parser.proofs.StandingLemmas.{DeclaredUpTo}
use Rattle.declaration_parser.proofs.reading.refuse_others.Given as goal

-- up to where the marks were gone over, unless one is refused
abbrev pub invariant-loop-it : goal.invariant-loop-it
invariant-loop-it l =
    (SaysNothing l.faults → SaysNothing l.fn.faults)
    × (SaysNothing l.faults → DeclaredUpTo l.fn.tokens l.fn.found l.from)
