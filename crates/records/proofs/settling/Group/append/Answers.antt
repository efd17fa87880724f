use Rattle.std.proofs.Common.{arith}
use Rattle.records.proofs.SettlingLemmas.{grows, grew_by}
use Rattle.records.proofs.settling.Group.append.Goals as goal

pub returns-in-Ok-clause-grown : goal.returns-in-Ok-clause-grown
returns-in-Ok-clause-grown g c start values e h =
    let q = grows _ _ _ _ _ start _ _ values c.in-Ok.ensures.appended e h in
    (q.value, q.is, omega (arith, c.in-Ok.ensures.next, c.in-Ok.ensures.appended.is.0), q.grown)

pub returns-in-Err-clause-failed : goal.returns-in-Err-clause-failed
returns-in-Err-clause-failed g c start values h = grew_by _ _ _ _ _ start _ _ values c.in-Err.ensures.appended h
