use Rattle.std.proofs.Common.{◌∷◌, [], Some, ◌<◌, ◌^◌}
use Rattle.link.specs.Senders.{sender_place}
use Rattle.postcard_tree.specs.Tree.{number, group_of, parts}
use Rattle.calls.specs.Asking.{sender_of}
use Rattle.calls_laws.specs.Exchange.{Repeats}
use Rattle.calls_laws.proofs.sides.repeat.Given as goal

-- what was sent so far is this message alone
abbrev pub invariant-loop : goal.invariant-loop
invariant-loop g l =
    Repeats {Q = g.row.Q.Denot} g.row.N (λ v. group_of (parts (Some (number 64 v.0) ∷ g.Q.Readable.form.writes v.1 ∷ []))) (λ v. (v.0 < 2 ^ 64) × g.Q.Readable.form.valid v.1)
    (l.fn.client.next, l.fn.request) l.client.pending
    (sender_place g.W.Outlet.line (sender_of l.fn.client)) (sender_place g.W.Outlet.line (sender_of l.client))
