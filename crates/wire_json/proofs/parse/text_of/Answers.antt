use Rattle.std.specs.Str.{IsUtf8}
use Rattle.std.proofs.Common.{sym, subst}
use Rattle.wire_json.proofs.ParsedLemmas.{text_leaf, text_means}
use Rattle.wire_json.proofs.parse.text_of.Goals as goal

pub returns : goal.returns
returns c =
    let t = c.in_ok-from_str.field-0 in
    let e = c.in_ok-from_str.ensures.ok in
    record { of_type = text_leaf t (subst IsUtf8 (sym e) c.utf8.held); means = text_means c.args.held.now t e; never_wrong = tt }
