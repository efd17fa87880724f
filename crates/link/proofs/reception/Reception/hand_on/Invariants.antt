use Rattle.std.proofs.Common.{◌≡◌, ℕ, ◌≤◌, List, ◌++◌, length}
use Rattle.link.specs.Link.{Adds, SameTerms}
use Rattle.link.proofs.reception.Reception.hand_on.Given as goal

-- what is left of the piece, and that the answers to what came before it were handed on
abbrev pub invariant-loop-rest : goal.invariant-loop-rest
invariant-loop-rest g l =
    SameTerms g.D.Decoding.inside l.fn.self l.self
    × ((done : List ℕ) × (l.fn.piece ≡ done ++ l.rest)
    × Adds g.D.Decoding.inside (g.M.MessageReader.judging l.fn.messages) g.H.Hearer.hears done l.fn.self l.self l.fn.hearer l.hearer)
    × (length l.rest ≤ length l.fn.piece)

abbrev pub decreases-loop-rest : goal.decreases-loop-rest
decreases-loop-rest g l = length l.rest
