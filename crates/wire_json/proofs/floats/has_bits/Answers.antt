use Rattle.std.proofs.Common.{◌∙◌, sym}
use Rattle.wire_json.proofs.WordLemmas.{not_decoded}
use Rattle.wire_json.proofs.floats.has_bits.Goals as goal

pub returns-in-Some-clause-no : goal.returns-in-Some-clause-no
returns-in-Some-clause-no c refused =
    let found = c.in-Some.ensures.cases in
    not_decoded c.args.word.now c.as_bytes.result.now c.decode_to_slice.new.out _ found.0 c.decode_to_slice.result (c.as_bytes.ensures.value ∙ found.2) found.1.0 c.decode_to_slice.ensures.value (sym c.is_ok.ensures.value ∙ refused)
