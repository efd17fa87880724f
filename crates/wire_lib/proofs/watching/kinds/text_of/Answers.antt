use Rattle.std.proofs.Common.{◌≡◌, ◌∙◌, IsUtf8, ap, false, string_bytes, subst, sym}
use Rattle.std.proofs.lemmas.Result.{IfOk-weaker}
use Rattle.schema_table.specs.Looks.{is_empty_named}
use Rattle.schema_table.specs.Telling.{names_at}
use Rattle.wire_lib.specs.Kinds.{shortened}
use Rattle.wire_lib.proofs.KindsLemmas.{fieldless, text_beside}
use Rattle.wire_lib.proofs.watching.kinds.text_of.Goals as goal

pub returns-in-Ok : goal.returns-in-Ok
returns-in-Ok c =
    let part = c.part_of-at.result in
    let some : is_empty_named (names_at c.args.reading.schema.now part.0) ≡ false = sym c.is_fieldless.ensures ∙ c.if-is_fieldless.false in
    IfOk-weaker c.short.result _ _ (λ kept e. text_beside c.args.reading c.args.value.now (part.0, part.1.now) (string_bytes kept)
    c.in_ok-bytes.bytes.items c.part_of-at.ensures some c.in_ok-bytes.ensures.json
    (e ∙ ap shortened (c.in-Ok.ensures.cases.0 ∙ c.as_slice.ensures.value))) c.short.ensures

pub returns-then-is_fieldless : goal.returns-then-is_fieldless
returns-then-is_fieldless c =
    let part = c.part_of-at.result in
    fieldless c.args.reading c.args.value.now (part.0, part.1.now) _ c.part_of-at.ensures
    (sym c.is_fieldless.ensures ∙ c.if-is_fieldless.true) c.new.ensures.bytes

pub returns : goal.returns
returns c = absurd (c.in-Err.ensures.cases.0 (subst IsUtf8 (sym c.as_slice.ensures.value) c.in_ok-bytes.ensures.json.4))
