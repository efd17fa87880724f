use Rattle.std.proofs.Common.{◌≡◌, ℕ, List, ◌++◌, length, string_bytes}
use Rattle.wire_lib.specs.Sent.{LineMade, HasMade, AppendedApart}
use Rattle.wire_lib.specs.Said.{OnlyAppended}
use Rattle.wire_lib.proofs.send.FramesOfLines.push.Given as goal

-- what is left of the piece, and what was made of what came before it
abbrev pub invariant-loop-rest : goal.invariant-loop-rest
invariant-loop-rest l =
    (done : List ℕ) × (l.fn.piece ≡ done ++ l.rest)
    × (l.self.sending ≡ l.fn.self.sending)
    × ((text : List ℕ) (made : List LineMade) → HasMade l.fn.self text made
    → (more : List LineMade) × HasMade l.self (text ++ done) (made ++ more)
    × AppendedApart l.fn.frames.items l.frames.items (string_bytes l.fn.wrongs) (string_bytes l.wrongs) more)
    × OnlyAppended l.fn.frames.items l.frames.items

abbrev pub decreases-loop-rest : goal.decreases-loop-rest
decreases-loop-rest l = length l.rest
