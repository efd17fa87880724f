use Rattle.std.proofs.Common.{◌≡◌, ◌<◌, sym, ◌∙◌, subst, inl, inr}
use Rattle.calls.specs.Calls.{no_call, KeptFor, In}
use Rattle.calls.specs.Serving.{requests_of}
use Rattle.calls_laws.proofs.headline.calls.Goals as goal

-- a reply that is alike one that was said, to a request that is alike one that was called
pub returns : goal.returns
returns g c limit s limit' s' asked said heard answers equal passes kept later log out n q r small over served back is one called i =
    let t = c.show_sent-2.ensures limit' s' said answers back.front back.rest back.is back.of back.parts back.heard (n, r) i in
    let p = t.0 in
    let numbered : p.0 ≡ n = t.2.0 in
    let k = c.replied.ensures equal passes kept (requests_of heard) log out later p.0 p.1 (subst (λ m. m < no_call) (sym numbered) small) served (subst (In p) is t.1) in
    let v = c.show_sent.ensures limit s asked heard over.front over.rest over.is over.of over.parts over.heard (p.0, k.0) k.1 in
    let same : v.0 ≡ (n, q) = one v.0 (n, q) v.1 called (v.2.0 ∙ numbered) in
    let asks_alike = subst (λ x. g.Q.Readable.form.alike x.1 k.0) same v.2.1 in
    elim k.2 [
      | inl e ↦ inl (record {
        call = record { number = p.0; asks = k.0; says = p.1 };
        executed = e;
        numbered = numbered;
        asks_alike = asks_alike;
        says_alike = t.2.1;
        once = (c.executes_once.ensures equal passes kept later (requests_of heard) log out served).0;
      })
      | inr e ↦ inr (record {
        heard = k.0;
        says = p.1;
        asks_alike = asks_alike;
        is_kept = subst (λ m. KeptFor equal kept m k.0 p.1) numbered e;
        says_alike = t.2.1;
      })
    ]
