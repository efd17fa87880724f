use Rattle.std.proofs.Common.{◌≡◌, ℕ, true, List, ◌++◌, length}
use Rattle.link.specs.Link.{Hears, Handed, SameTerms}
use Rattle.link.specs.declared.receiver.Answer.{Answer}
use Rattle.link.proofs.HandingLemmas.{HasLost}
use Rattle.link.proofs.reception.Reception.hand_by.Given as goal

-- a value had no memory; what is left of the piece, and that the answers to what came before it were handed on, but for such values
abbrev pub invariant-loop-left : goal.invariant-loop-left
invariant-loop-left g l =
    SameTerms g.D.Decoding.inside l.fn.self l.self
    × ((g.M.MessageReader.judging l.fn.messages).growing ≡ true)
    × Handed g.H.Hearer.hears l.fn.hearer l.hearer (λ more. (limit s : ℕ) (stream : List ℕ) (given : List (Answer g.row.V.Denot))
    → Hears g.D.Decoding.inside (g.M.MessageReader.judging l.fn.messages).holds (g.M.MessageReader.judging l.fn.messages).reads limit s l.fn.self given stream
    → (so_far : List ℕ) × (stream ++ l.fn.piece ≡ so_far ++ l.rest)
    × HasLost g.D.Decoding.inside (g.M.MessageReader.judging l.fn.messages).holds (g.M.MessageReader.judging l.fn.messages).reads limit s l.self (given ++ more) so_far)

abbrev pub decreases-loop-left : goal.decreases-loop-left
decreases-loop-left g l = length l.rest
