use Rattle.std.proofs.Common.{sym, subst, arith, rules}
use Rattle.journal_scan.specs.Scanning.{FoundLast}
use Rattle.journal_scan.proofs.StandingLemmas.{last_none, last_over, pushed_last, lost_last}
use Rattle.journal_scan.proofs.scanning.Scan.close.Goals as goal

pub returns-then-from-to-clause-found : goal.returns-then-from-to-clause-found
returns-then-from-to-clause-found g c limit bytes s e = last_none g.T.Readable.form s e (search rules)

pub returns-then-self-clause-found : goal.returns-then-self-clause-found
returns-then-self-clause-found g c limit bytes s e = last_over g.T.Readable.form s e (search rules)

pub returns-in-Ok-clause-found : goal.returns-in-Ok-clause-found
returns-in-Ok-clause-found g c limit bytes s e =
    let p = c.push_strict-answer in
    subst (FoundLast g.T.Readable.form limit bytes) (sym c.stretch_of.ensures)
    (pushed_last g.T.Readable.form s e p.result.used p.new.self (search rules) c.if-from-to.false (p.ensures.forward (omega arith)) p.ensures.within
    (λ stream h. p.ensures.stands limit 0 stream h) p.result.answer (λ stream h. p.ensures.answers limit 0 stream h) c.in-Ok.answer c.in-Ok.is)

pub returns-in-Err-clause-lost : goal.returns-in-Err-clause-lost
returns-in-Err-clause-lost g c limit bytes s e =
    let p = c.push_strict-answer in
    lost_last g.T.Readable.form s e p.result.used p.new.self (search rules) c.if-from-to.false (p.ensures.forward (omega arith)) p.ensures.within
    (λ stream h. p.ensures.stands limit 0 stream h) p.result.answer (λ stream h. p.ensures.answers limit 0 stream h) _ c.in-Err.is
