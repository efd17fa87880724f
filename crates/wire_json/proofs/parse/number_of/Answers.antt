use Rattle.std.specs.Int.{w8, w16, w32, w64, w128}
use Rattle.std.proofs.Common.{refl, ◌∙◌}
use Rattle.schema_table.specs.declared.node.Node.TheVariants as node
use Rattle.wire_json.proofs.NumberRefusals.{no_number, other_number, unread, unread_signed}
use Rattle.wire_json.proofs.ParsedLemmas.{little_leaf, big_leaf, little_means, big_means}
use Rattle.wire_json.proofs.WordLemmas.{none_by}
use Rattle.wire_json.proofs.parse.number_of.Goals as goal

pub returns-in_ok-integer_of-in-LE-clause-of_type : goal.returns-in_ok-integer_of-in-LE-clause-of_type
returns-in_ok-integer_of-in-LE-clause-of_type c =
    let i = c.in_ok-integer_of-in-LE in
    rw c.in-LE.is (little_leaf c.in-LE.of i.field-0 i.ensures.of_type)

pub returns-in_ok-integer_of-in-LE-clause-means : goal.returns-in_ok-integer_of-in-LE-clause-means
returns-in_ok-integer_of-in-LE-clause-means c =
    let i = c.in_ok-integer_of-in-LE in
    little_means c.args.text.now i.field-0 i.ensures.means

pub returns-in_ok-integer_of-in-BE-clause-of_type : goal.returns-in_ok-integer_of-in-BE-clause-of_type
returns-in_ok-integer_of-in-BE-clause-of_type c =
    let i = c.in_ok-integer_of-in-BE in
    rw c.in-BE.is (big_leaf c.in-BE.of i.field-0 i.ensures.of_type)

pub returns-in_ok-integer_of-in-BE-clause-means : goal.returns-in_ok-integer_of-in-BE-clause-means
returns-in_ok-integer_of-in-BE-clause-means c =
    let i = c.in_ok-integer_of-in-BE in
    big_means c.args.text.now i.field-0 i.ensures.means

pub returns-in-U8-clause-none : goal.returns-in-U8-clause-none
returns-in-U8-clause-none c =
    none_by c.map.result (λ none. no_number c.args.node.now node.U8 c.args.text.now c.in-U8.is (unread 8 c.args.text.now c.parse.result c.map.result (c.map.ensures.variant ∙ c.ok.ensures.variant) c.parse.ensures.value.0 none))

pub returns-in-U16-clause-none : goal.returns-in-U16-clause-none
returns-in-U16-clause-none c =
    none_by c.map-in-U16.result (λ none. no_number c.args.node.now node.U16 c.args.text.now c.in-U16.is (unread 16 c.args.text.now c.parse-in-U16.result c.map-in-U16.result (c.map-in-U16.ensures.variant ∙ c.ok-in-U16.ensures.variant) c.parse-in-U16.ensures.value.0 none))

pub returns-in-U32-clause-none : goal.returns-in-U32-clause-none
returns-in-U32-clause-none c =
    none_by c.map-in-U32.result (λ none. no_number c.args.node.now node.U32 c.args.text.now c.in-U32.is (unread 32 c.args.text.now c.parse-in-U32.result c.map-in-U32.result (c.map-in-U32.ensures.variant ∙ c.ok-in-U32.ensures.variant) c.parse-in-U32.ensures.value.0 none))

pub returns-in-U64-clause-none : goal.returns-in-U64-clause-none
returns-in-U64-clause-none c =
    none_by c.map-in-U64.result (λ none. no_number c.args.node.now node.U64 c.args.text.now c.in-U64.is (unread 64 c.args.text.now c.parse-in-U64.result c.map-in-U64.result (c.map-in-U64.ensures.variant ∙ c.ok-in-U64.ensures.variant) c.parse-in-U64.ensures.value.0 none))

pub returns-in-U128-clause-none : goal.returns-in-U128-clause-none
returns-in-U128-clause-none c =
    none_by c.map-in-U128.result (λ none. no_number c.args.node.now node.U128 c.args.text.now c.in-U128.is (unread 128 c.args.text.now c.parse-in-U128.result c.map-in-U128.result (c.map-in-U128.ensures.variant ∙ c.ok-in-U128.ensures.variant) c.parse-in-U128.ensures.value.0 none))

pub returns-in-I8-clause-none : goal.returns-in-I8-clause-none
returns-in-I8-clause-none c =
    none_by c.map-in-I8.result
    (λ none. no_number c.args.node.now node.I8 c.args.text.now c.in-I8.is (unread_signed w8 c.args.text.now c.parse-in-I8.result c.map-in-I8.result (c.map-in-I8.ensures.variant ∙ c.ok-in-I8.ensures.variant) c.parse-in-I8.ensures.value.0 none))

pub returns-in-I16-clause-none : goal.returns-in-I16-clause-none
returns-in-I16-clause-none c =
    none_by c.map-in-I16.result
    (λ none. no_number c.args.node.now node.I16 c.args.text.now c.in-I16.is (unread_signed w16 c.args.text.now c.parse-in-I16.result c.map-in-I16.result (c.map-in-I16.ensures.variant ∙ c.ok-in-I16.ensures.variant) c.parse-in-I16.ensures.value.0 none))

pub returns-in-I32-clause-none : goal.returns-in-I32-clause-none
returns-in-I32-clause-none c =
    none_by c.map-in-I32.result
    (λ none. no_number c.args.node.now node.I32 c.args.text.now c.in-I32.is (unread_signed w32 c.args.text.now c.parse-in-I32.result c.map-in-I32.result (c.map-in-I32.ensures.variant ∙ c.ok-in-I32.ensures.variant) c.parse-in-I32.ensures.value.0 none))

pub returns-in-I64-clause-none : goal.returns-in-I64-clause-none
returns-in-I64-clause-none c =
    none_by c.map-in-I64.result
    (λ none. no_number c.args.node.now node.I64 c.args.text.now c.in-I64.is (unread_signed w64 c.args.text.now c.parse-in-I64.result c.map-in-I64.result (c.map-in-I64.ensures.variant ∙ c.ok-in-I64.ensures.variant) c.parse-in-I64.ensures.value.0 none))

pub returns-in-I128-clause-none : goal.returns-in-I128-clause-none
returns-in-I128-clause-none c =
    none_by c.map-in-I128.result
    (λ none. no_number c.args.node.now node.I128 c.args.text.now c.in-I128.is (unread_signed w128 c.args.text.now c.parse-in-I128.result c.map-in-I128.result (c.map-in-I128.ensures.variant ∙ c.ok-in-I128.ensures.variant) c.parse-in-I128.ensures.value.0 none))

pub returns-in_err-integer_of-in-LE-clause-none : goal.returns-in_err-integer_of-in-LE-clause-none
returns-in_err-integer_of-in-LE-clause-none c =
    none_by c.from_residual.result (λ none. no_number c.args.node.now (node.LE c.in-LE.of) c.args.text.now c.in-LE.is (λ i. c.in_err-integer_of-in-LE.ensures.none i.0 i.1 i.2))

pub returns-in_err-integer_of-in-BE-clause-none : goal.returns-in_err-integer_of-in-BE-clause-none
returns-in_err-integer_of-in-BE-clause-none c =
    none_by c.from_residual-in_err-integer_of-in-BE.result (λ none. no_number c.args.node.now (node.BE c.in-BE.of) c.args.text.now c.in-BE.is (λ i. c.in_err-integer_of-in-BE.ensures.none i.0 i.1 i.2))

pub returns-in_default-clause-none : goal.returns-in_default-clause-none
returns-in_default-clause-none c =
    let n = c.in_default in
    no_number c.args.node.now c.args.node.now c.args.text.now refl
    (other_number c.args.node.now c.args.text.now n.not-U8 n.not-U16 n.not-U32 n.not-U64 n.not-U128 n.not-I8 n.not-I16 n.not-I32 n.not-I64 n.not-I128 n.not-LE n.not-BE)
