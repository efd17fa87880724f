use Rattle.std.proofs.Common.{refl, ap, subst, inl, inr}
use Rattle.calls.specs.Calls.{call, In, KeptFor}
use Rattle.calls.specs.ServedLaws.{in_some}
use Rattle.calls.proofs.RepliesLemmas.{found}
use Rattle.calls.proofs.laws.matches.Goals as goal

pub returns : goal.returns
returns g c equal passes sent heard log out answered kept later n q r small one came served back called i =
    elim (found equal passes served (n, r) small (in_some (n, r) answered out back i)) [
      | inl k ↦ (
          let asked = one (n, k.0) (n, q) (in_some (n, k.0) heard sent came k.2) called refl in
          inl (subst (λ x. In (call n x r) log) (ap (λ x. x.1) asked) k.1)
          )
      | inr k ↦ (
          let asked = one (n, k.0) (n, q) (in_some (n, k.0) heard sent came k.1) called refl in
          inr (subst (λ x. KeptFor equal kept n x r) (ap (λ x. x.1) asked) k.2)
          )
    ]
