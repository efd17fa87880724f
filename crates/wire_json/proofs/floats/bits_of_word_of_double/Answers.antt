use Rattle.wire_json.proofs.WordLemmas.{no_double, none_as}
use Rattle.wire_json.proofs.floats.bits_of_word_of_double.Goals as goal

pub returns-in_default-clause-none : goal.returns-in_default-clause-none
returns-in_default-clause-none c =
    let n = c.in_default in
    none_as c.bits_of_nan_double.result (no_double c.args.word.now n.not-Infinity n.not-text n.not-NaN) c.bits_of_nan_double.ensures.none
