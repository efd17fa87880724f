use Rattle.std.proofs.Common.{◌≡◌, ℕ, ◌+◌, ◌≤◌, List, length, None}
use Rattle.line_io.specs.Device.{Gave}
use Rattle.link.specs.Link.{Adds, IsAsked, SameTerms}
use Rattle.link.proofs.reception.Reception.listen_each.Given as goal

-- few calls were used, and the answers to what the reader gave so far were handed on
abbrev pub invariant-loop-alloc : goal.invariant-loop-alloc
invariant-loop-alloc g l =
    ((bytes : List ℕ) × Gave (g.R.Inlet.line l.fn.reader) (g.R.Inlet.line l.reader) bytes
    × ((g.R.Inlet.line l.reader).faults ≡ (g.R.Inlet.line l.fn.reader).faults)
    × ((g.R.Inlet.line l.fn.reader).calls_left ≤ (g.R.Inlet.line l.reader).calls_left + length bytes + 0)
    × (a : Adds g.D.Decoding.inside (g.M.MessageReader.judging l.fn.messages) g.H.Hearer.hears bytes l.fn.self l.self l.fn.hearer l.hearer)
    × IsAsked g.D.Decoding.inside (g.M.MessageReader.judging l.fn.messages) g.H.Hearer.hears g.H.Hearer.enough g.H.Hearer.settled (length l.fn.room) (g.R.Inlet.line l.fn.reader) (g.R.Inlet.line l.reader) None l.fn.self l.fn.hearer l.hearer a.answers bytes)
    × SameTerms g.D.Decoding.inside l.fn.self l.self
    × (g.H.Hearer.settled l.fn.hearer → g.H.Hearer.settled l.hearer)

abbrev pub decreases-loop-alloc : goal.decreases-loop-alloc
decreases-loop-alloc g l = (g.R.Inlet.line l.reader).calls_left
