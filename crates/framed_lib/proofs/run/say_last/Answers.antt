use Rattle.std.proofs.Common.{inl, inr, refl}
use Rattle.framed_lib.specs.Output.{few-ok, few-err}
use Rattle.framed_lib.proofs.run.say_last.Goals as goal

pub returns-in-Ok : goal.returns-in-Ok
returns-in-Ok g c = inl (refl, few-ok _ c.in-Ok.ensures)

pub returns-in-Err : goal.returns-in-Err
returns-in-Err g c = inr (refl, few-err _ c.in-Err.ensures)
