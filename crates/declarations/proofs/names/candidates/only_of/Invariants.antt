use Rattle.std.proofs.Common.{◌≡◌, ◌∷◌, List, Option, None, Some, length}
use Rattle.declarations.specs.Candidates.{candidates}
use Rattle.declarations.specs.declared.names.Item.{Item}
use Rattle.declarations.proofs.names.candidates.only_of.Given as goal

-- what was found precedes the candidates that are left
abbrev Precedes : Option Item → List Item → List Item → Type 0
Precedes None all left = all ≡ left
Precedes (Some item) all left = all ≡ item ∷ left

abbrev pub invariant-loop-left : goal.invariant-loop-left
invariant-loop-left l = Precedes l.found (candidates l.scopes l.step l.name l.space l.items)
    (candidates l.scopes l.step l.name l.space l.left)

abbrev pub decreases-loop-left : goal.decreases-loop-left
decreases-loop-left l = length l.left
