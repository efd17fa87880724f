use Rattle.std.proofs.Common.{◌∙◌, sym}
use Rattle.journal_scan.proofs.MapLemmas.{last_up_to, lies_at, lies_past, lies_nowhere}
use Rattle.journal_scan.proofs.tallies.Tally.gap_at.Goals as goal

pub returns-then-number-last-clause-first : goal.returns-then-number-last-clause-first
returns-then-number-last-clause-first c = last_up_to c.args.number c.args.self.now.gaps.entries _ _ (sym (c.range.ensures.between tt) ∙ c.in-Some.ensures.steps)

pub returns-then-number-last-clause-at : goal.returns-then-number-last-clause-at
returns-then-number-last-clause-at c a = lies_at c.args.number c.args.self.now.gaps.entries _ _ a (sym (c.range.ensures.between tt) ∙ c.in-Some.ensures.steps) c.if-number-last.true

pub returns-else-number-last-clause-at : goal.returns-else-number-last-clause-at
returns-else-number-last-clause-at c a = lies_past c.args.number c.args.self.now.gaps.entries _ _ a (sym (c.range.ensures.between tt) ∙ c.in-Some.ensures.steps) c.if-number-last.false

pub returns-in-None-clause-at : goal.returns-in-None-clause-at
returns-in-None-clause-at c a = lies_nowhere c.args.number c.args.self.now.gaps.entries a (sym (c.range.ensures.between tt) ∙ c.in-None.ensures.steps.0)
