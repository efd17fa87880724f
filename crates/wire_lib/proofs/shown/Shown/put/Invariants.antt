use Rattle.std.proofs.Common.{◌≡◌, ℕ, Bool, Option, List, [], ◌++◌, length}
use Rattle.std.specs.List.{flat_map}
use Rattle.wire_lib.specs.Sent.{IsTextOf}
use Rattle.wire_lib.specs.Shown.{ShowsBy, line_shown}
use Rattle.wire_lib.proofs.shown.Shown.put.Given as goal

-- the lines so far, what is left of the text, and that what is shown of these lines was appended
abbrev pub invariant-loop-rest : goal.invariant-loop-rest
invariant-loop-rest l =
    (done : List ℕ) × (ls : List (List ℕ)) × (l.fn.lines ≡ done ++ l.rest) × IsTextOf done ls []
    × ((only : Option (List ℕ)) (colour : Bool) → ShowsBy l.fn.self only colour
    → l.out.items ≡ l.fn.out.items ++ flat_map (line_shown only colour l.fn.time) ls)

abbrev pub decreases-loop-rest : goal.decreases-loop-rest
decreases-loop-rest l = length l.rest
