use Rattle.std.specs.Prelude.{from_bits}
use Rattle.std.specs.Float.{binary64}
use Rattle.std.proofs.Common.{refl, ◌∙◌}
use Rattle.schema_table.specs.Floats.{double_word}
use Rattle.wire_print.proofs.FloatLemmas.{float_shown, word_shown}
use Rattle.wire_print.proofs.print.put_double.Goals as goal

pub returns-in-Some-clause-json : goal.returns-in-Some-clause-json
returns-in-Some-clause-json c =
    let x = c.in-Some.ensures.some in
    float_shown c.float.result c.args.out.now.tokens c.float.new.self.tokens binary64 c.in-Some.float (from_bits binary64 c.args.bits) (double_word c.args.bits) x.0 x.1 c.float.ensures.ok

pub returns-in_ok-word-in-None-clause-json : goal.returns-in_ok-word-in-None-clause-json
returns-in_ok-word-in-None-clause-json c =
    word_shown c.put_text.result c.args.out.now.tokens c.put_text.new.out.tokens binary64 (from_bits binary64 c.args.bits) c.as_str.result.now (double_word c.args.bits) (c.in-None.ensures.none refl)
    (c.as_str.ensures.value ∙ c.in_ok-word-in-None.ensures) c.put_text.ensures.json
