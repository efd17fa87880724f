use Rattle.std.proofs.Common.{refl}
use Rattle.std.proofs.lemmas.Result.{err_from_is_err_and}
use Rattle.schemas.proofs.TopsLemmas.{big_by}
use Rattle.schemas.proofs.read.big_as.Goals as goal

pub returns-in_err-read : goal.returns-in_err-read
returns-in_err-read g c =
    let p = err_from_is_err_and c.from_residual.result c.from_residual.ensures.1 in
    let h = c.in_err-read.ensures in
    rw (p.1, p.2, g.met.T.HasIntegerType.wide) (record { taken = h.taken; gave = h.gave; first = h.first; memory = λ q. refl })

pub returns : goal.returns
returns g c =
    rw g.met.T.HasIntegerType.wide
    (big_by g.T.FixInt.laws g.T.HasIntegerType.which c.integer.result (λ v. v.0) c.in_ok-read.read g.met.T.HasIntegerType.wide c.integer.ensures.of_type c.integer.ensures.bits c.in_ok-read.ensures)
