use Rattle.std.proofs.Common.{inl, inr}
use Rattle.calls.proofs.RepliesLemmas.{found}
use Rattle.calls.proofs.laws.replied.Goals as goal

pub returns : goal.returns
returns g c equal passes kept heard log out later n r small served i =
    elim (found equal passes served (n, r) small i) [
      | inl k ↦ (k.0, k.2, inl k.1)
      | inr k ↦ (k.0, k.1, inr k.2)
    ]
