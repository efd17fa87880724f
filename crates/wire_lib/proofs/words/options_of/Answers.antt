use Rattle.std.proofs.Common.{rules, refl}
use Rattle.wire_lib.specs.Arguments.{IsArgument}
use Rattle.wire_lib.proofs.ArgumentsLemmas.{none_set, none_wrong, one_added, first_wrong, all_right, cant_combine, second_alone}
use Rattle.wire_lib.proofs.words.options_of.Goals as goal

pub loop-word-init : goal.loop-word-init
loop-word-init c = (none_set _ (refl, refl, refl, refl, refl, refl) (refl, refl, refl, refl) refl, none_wrong c.args.mode)

pub loop-word-preserved : goal.loop-word-preserved
loop-word-preserved c =
    let right : IsArgument c.args.mode c.as_str-word.result.now = search rules in
    one_added c.args.mode c.args.words.now c.loop-word.word-index c.word-item.result c.loop-word.options c.in-Some.with c.as_str-word.result.now
    c.loop-word-test.true c.word-item.is c.as_str-word.ensures.value c.in-Some.ensures.sets right c.loop-word.invariant

pub returns-then-not-has_word-clause-refused : goal.returns-then-not-has_word-clause-refused
returns-then-not-has_word-clause-refused c =
    let wrong : IsArgument c.args.mode c.as_str-word.result.now → ⊥ = search rules in
    first_wrong c.args.mode c.args.words.now c.loop-word.word-index c.word-item.result c.as_str-word.result.now
    c.loop-word-test.true c.word-item.is c.as_str-word.ensures.value c.loop-word.invariant.1 wrong

pub returns-in_default-clause-refused : goal.returns-in_default-clause-refused
returns-in_default-clause-refused c =
    let wrong : IsArgument c.args.mode c.as_str-word.result.now → ⊥ = search rules in
    first_wrong c.args.mode c.args.words.now c.loop-word.word-index c.word-item.result c.as_str-word.result.now
    c.loop-word-test.true c.word-item.is c.as_str-word.ensures.value c.loop-word.invariant.1 wrong

pub returns-then-options-ne0-2-clause-refused : goal.returns-then-options-ne0-2-clause-refused
returns-then-options-ne0-2-clause-refused c =
    cant_combine c.args.mode c.args.words.now c.loop-word.word-index c.loop-word.options c.loop-word-test.false c.loop-word.invariant
    (c.if-options.true, second_alone c.if-options-ne0-2.either)

pub returns-clause-right : goal.returns-clause-right
returns-clause-right c = all_right c.args.mode c.args.words.now c.loop-word.word-index c.loop-word-test.false c.loop-word.invariant.1
