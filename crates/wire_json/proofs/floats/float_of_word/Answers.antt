use Rattle.wire_json.proofs.WordLemmas.{no_word_of_single, no_word_of_double, none_by}
use Rattle.wire_json.proofs.floats.float_of_word.Goals as goal

pub returns-in_err-bits_of_word-in-U32-clause-none : goal.returns-in_err-bits_of_word-in-U32-clause-none
returns-in_err-bits_of_word-in-U32-clause-none c = none_by _ (λ none. no_word_of_single c.args.of c.args.word.now c.in-U32.is c.in_err-bits_of_word-in-U32.ensures.none)

pub returns-in_err-bits_of_word_of_double-in-U64-clause-none : goal.returns-in_err-bits_of_word_of_double-in-U64-clause-none
returns-in_err-bits_of_word_of_double-in-U64-clause-none c = none_by _ (λ none. no_word_of_double c.args.of c.args.word.now c.in-U64.is c.in_err-bits_of_word_of_double-in-U64.ensures.none)
