use Rattle.std.proofs.Common.{◌≡◌, refl}
use Rattle.json.specs.Json.{null}
use Rattle.std.proofs.lemmas.Result.{on_ok_weaker}
use Rattle.wire_print.proofs.PrintedLemmas.{member_of}
use Rattle.wire_print.proofs.print.put_no_pair.Goals as goal

pub returns-clause-member : goal.returns-clause-member
returns-clause-member c = on_ok_weaker c.null.result (λ e. member_of (λ m. m.1 ≡ null) _ _ _ _ c.in_ok-key.ensures.ok (null, e, refl)) c.null.ensures.ok
