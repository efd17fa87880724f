use Rattle.std.proofs.Common.{◌≡◌, Option, None, Some}
use Rattle.help.specs.declared.Asked.{Asked}
use Rattle.help.specs.declared.Asked.TheVariants.{Help}
use Rattle.help.proofs.WordsLemmas.{none_asks, one_more, all_asked}
use Rattle.help.proofs.asked_by.Goals as goal

never : ◌≡◌ {A = Option Asked} None (Some Help) → ⊥
never e = cc

pub loop-word-init : goal.loop-word-init
loop-word-init c = none_asks

pub loop-word-preserved : goal.loop-word-preserved
loop-word-preserved c = one_more c.args.words.now c.loop-word.word-index c.word-item.result c.loop-word-test.true c.word-item.is (λ e. (let h = c.if-is_help.ensures.1 e in cc)) c.loop-word.invariant

pub returns-in_default-as_str-clause-help : goal.returns-in_default-as_str-clause-help
returns-in_default-as_str-clause-help c = (λ e. absurd (never e), λ h. absurd (all_asked c.args.words.now c.loop-word.word-index c.loop-word-test.false c.loop-word.invariant h))

pub returns-in_default-2-clause-help : goal.returns-in_default-2-clause-help
returns-in_default-2-clause-help c = (λ e. absurd (never e), λ h. absurd (all_asked c.args.words.now c.loop-word.word-index c.loop-word-test.false c.loop-word.invariant h))
