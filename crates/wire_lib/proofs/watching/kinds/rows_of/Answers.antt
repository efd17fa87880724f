use Rattle.std.proofs.Common.{◌≡◌, ◌++◌, Some, map, string_bytes, length, refl, sym, ap, ◌∙◌, append-nil}
use Rattle.std.proofs.lemmas.List.{at_drop_all}
use Rattle.std.proofs.lemmas.Option.{slice_get_read}
use Rattle.std.specs.List.{slice_get}
use Rattle.schema_table.specs.declared.schema.Names.TheVariants as names
use Rattle.schema_table.specs.Telling.{names_at}
use Rattle.wire_lib.specs.Kinds.{kind_names, type_name}
use Rattle.wire_lib.specs.Tables.{row_names}
use Rattle.wire_lib.proofs.watching.kinds.rows_of.Goals as goal

pub returns-clause-kinds : goal.returns-clause-kinds
returns-clause-kinds c =
    let own = type_name (slice_get c.args.schema.now.types.items c.args.place) in
    let it = c.in-Some-Variants in
    let all = c.deref-name-items.result.now in
    let of = c.loop-name in
    let found = slice_get_read c.deref.result.now (length c.deref.result.now) c.args.place it.field-0.now refl it.ensures.lookup.3.0 it.ensures.lookup.1 in
    let named : names_at c.args.schema.now c.args.place ≡ Some (names.Variants it.names) = ap (λ x. slice_get x c.args.place) (sym c.deref.ensures.value) ∙ found ∙ ap Some it.field-0-is in
    sym (append-nil (row_names of.rows.items))
    ∙ sym (at_drop_all (λ x. row_names of.rows.items ++ map string_bytes x) all of.name-index c.loop-name-test.false)
    ∙ of.invariant.1 ∙ ap (λ x. map string_bytes x) c.deref-name-items.ensures.value ∙ sym (ap (λ n. kind_names n own) named)
