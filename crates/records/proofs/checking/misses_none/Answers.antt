use Rattle.std.proofs.Common.{subst, refl, sym, true≢false}
use Rattle.journal_scan.specs.Tallies.{AreMissing, gaps_of}
use Rattle.records.proofs.CheckingLemmas.{some_missing}
use Rattle.records.proofs.checking.misses_none.Goals as goal

pub returns-in-None : goal.returns-in-None
returns-in-None c e t = (λ _. subst (λ gaps. AreMissing e (gaps_of gaps)) c.in-None.ensures.steps.0 (c.missing.ensures e t), λ _. refl)

pub returns-in-Some : goal.returns-in-Some
returns-in-Some c e t = (λ x. absurd (true≢false (sym x)), λ none. absurd (some_missing e _ _ _ c.in-Some.ensures.steps (c.missing.ensures e t) none))
