use Rattle.std.proofs.Common.{arith}
use Rattle.std.proofs.lemmas.Result.{err_from_is_err_and}
use Rattle.postcard_de.proofs.access.next_part.Goals as goal

pub returns-in_err-part : goal.returns-in_err-part
returns-in_err-part g c =
    let p = err_from_is_err_and c.from_residual.result c.from_residual.ensures.1 in
    rw (p.1, p.2) (omega arith, c.in_err-part.ensures)

pub returns : goal.returns
returns g c = (omega arith, c.in_ok-part.ensures)
