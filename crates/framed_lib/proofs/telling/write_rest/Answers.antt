use Rattle.std.proofs.Common.{inr}
use Rattle.std.proofs.lemmas.Result.{on_ok_weaker, on_err_weaker}
use Rattle.framed_lib.specs.Output.{few-ok, few-err}
use Rattle.framed_lib.proofs.telling.write_rest.Goals as goal

pub returns-clause-ok : goal.returns-clause-ok
returns-clause-ok g c =
    on_ok_weaker c.write_all.result (λ p. (c.if-failed.false, p)) (rw c.as_slice.ensures.value at (few-ok _ c.write_all.ensures))

pub returns-clause-err : goal.returns-clause-err
returns-clause-err g c =
    on_err_weaker c.write_all.result (λ p. inr (c.if-failed.false, p)) (rw c.as_slice.ensures.value at (few-err _ c.write_all.ensures))
