use Rattle.std.proofs.Common.{◌≡◌, ℕ, List, true, false, refl, arith, rules}
use Rattle.journal_scan.specs.Tallies.{IsTally, NeedsRange}
use Rattle.journal_scan.proofs.GapsLemmas.{one_again, was_counted, not_counted, one_next, on_err_any}
use Rattle.journal_scan.proofs.MapLemmas.{counted_late, not_counted_late}
use Rattle.journal_scan.proofs.tallies.Tally.put.Goals as goal

never : ◌≡◌ false true → ⊥
never e = cc

pub returns-in_ok-cut_out-in-Some-clause-put : goal.returns-in_ok-cut_out-in-Some-clause-put
returns-in_ok-cut_out-in-Some-clause-put c numbers t = counted_late t _ c.args.number (c.in-Some.ensures.at t.apart) _ _ c.in_ok-cut_out-in-Some.ensures.next c.in_ok-cut_out-in-Some.ensures.cut

pub returns-in_ok-cut_out-in-Some-clause-again : goal.returns-in_ok-cut_out-in-Some-clause-again
returns-in_ok-cut_out-in-Some-clause-again c numbers t l = (λ e. absurd (never e), λ h. absurd (not_counted_late t _ c.args.number (c.in-Some.ensures.at t.apart) h))

pub returns-in-None-clause-put : goal.returns-in-None-clause-put
returns-in-None-clause-put c numbers t = one_again t c.args.number c.if-number-self.true (c.in-None.ensures.at t.apart)

pub returns-in-None-clause-again : goal.returns-in-None-clause-again
returns-in-None-clause-again c numbers t l = (λ _. was_counted t c.args.number c.if-number-self.true (c.in-None.ensures.at t.apart), λ _. refl)

pub returns-clause-put : goal.returns-clause-put
returns-clause-put c numbers t = one_next t c.args.number _ _ c.if-number-self.false (search rules) c.saturating_add-self.ensures (c.in_ok-pass_to.ensures.ahead t.apart (λ l. t.under (omega (arith, l))))

pub returns-clause-again : goal.returns-clause-again
returns-clause-again c numbers t l = (λ e. absurd (never e), λ h. absurd (not_counted t c.args.number c.if-number-self.false l h))

pub returns-in_err-cut_out-in-Some-clause-needs : goal.returns-in_err-cut_out-in-Some-clause-needs
returns-in_err-cut_out-in-Some-clause-needs c =
    let needs : (numbers : List ℕ) → IsTally numbers c.args.self.now → NeedsRange numbers c.args.number =
    λ numbers t. (λ e. omega (arith, e, t.next_is, c.if-number-self.true), λ l h. not_counted_late t _ c.args.number (c.in-Some.ensures.at t.apart) h) in
    on_err_any _ _ needs

pub returns-in_err-pass_to-clause-needs : goal.returns-in_err-pass_to-clause-needs
returns-in_err-pass_to-clause-needs c =
    let needs : (numbers : List ℕ) → IsTally numbers c.args.self.now → NeedsRange numbers c.args.number =
    λ numbers t. (λ e. omega (arith, e, t.next_is, c.in_err-pass_to.ensures.needs), λ l h. not_counted t c.args.number c.if-number-self.false l h) in
    on_err_any _ _ needs
