use Rattle.std.proofs.Common.{◌≡◌, ◌-◌, Some, None, arith, rules}
use Rattle.std.specs.List.{slice_get}
use Rattle.schema_table.specs.declared.node.Node.TheVariants as node
use Rattle.schema_table.specs.Telling.{names_at, node_at}
use Rattle.schema_table.specs.declared.value.Value.{out-Value}
use Rattle.schema_table.specs.Looks.{inside_of}
use Rattle.wire_json.specs.InRange.{Fits}
use Rattle.wire_json.specs.Meant.{KeyMeans}
use Rattle.wire_json.specs.Refused.{IfWrong, NoneOf}
use Rattle.wire_json.proofs.NumberRefusals.{wrong_as}
use Rattle.wire_json.proofs.RefusedLemmas.{newtype_no_key, node_no_key, none_deep, none_place, plain_key_none, unnamed_no_key}
use Rattle.wire_json.proofs.ParsedLemmas.{at_place, key_at_node, key_inside, of_newtype, ok_as, plain_node_key}
use Rattle.wire_json.proofs.parse.+key_of.Goals as goal

pub returns-in-Some-clause-of_type : goal.returns-in-Some-clause-of_type
returns-in-Some-clause-of_type t c =
    let e : inside_of c.args.schema.now c.args.place ≡ Some c.in-Some.only = search rules in
    ok_as c.one_part.result (λ v h. of_newtype c.args.schema.now c.args.depth c.args.place c.in-Some.only c.in_ok-held.held v (omega (arith, c.if-depth-eq0.false)) e c.in_ok-held.ensures.of_type h) c.one_part.ensures.group

pub returns-in-Enum-clause-of_type : goal.returns-in-Enum-clause-of_type
returns-in-Enum-clause-of_type t c =
    let e : slice_get c.args.schema.now.nodes.items c.args.place ≡ Some (node.Enum c.in-Enum.payloads) = search rules in
    ok_as c.variant_key.result (λ v h. at_place c.args.depth c.args.schema.now.nodes.items c.args.place (node.Enum c.in-Enum.payloads) v (omega (arith, c.if-depth-eq0.false)) e (rw c.deref.ensures.value at h)) c.variant_key.ensures.of_type

pub returns-in-Some-clause-means : goal.returns-in-Some-clause-means
returns-in-Some-clause-means t c =
    let e : inside_of c.args.schema.now c.args.place ≡ Some c.in-Some.only = search rules in
    ok_as c.one_part.result (λ v h. key_inside c.args.schema.now c.args.depth c.args.place c.in-Some.only c.args.key.now c.in_ok-held.held v (omega (arith, c.if-depth-eq0.false)) e c.in_ok-held.ensures.means h) c.one_part.ensures.group

pub returns-in-Enum-clause-means : goal.returns-in-Enum-clause-means
returns-in-Enum-clause-means t c =
    let o : inside_of c.args.schema.now c.args.place ≡ None = search rules in
    let e : node_at c.args.schema.now c.args.place ≡ Some (node.Enum c.in-Enum.payloads) = search rules in
    let m : names_at c.args.schema.now c.args.place ≡ Some c.in-Some-names_of.names.now = search rules in
    ok_as c.variant_key.result (λ v h. key_at_node c.args.schema.now c.args.depth c.args.place (node.Enum c.in-Enum.payloads) c.in-Some-names_of.names.now c.args.key.now v (omega (arith, c.if-depth-eq0.false)) o e m h)
    (rw c.deref.ensures.value at c.variant_key.ensures.means)

pub returns-in_default-node-clause-of_type : goal.returns-in_default-node-clause-of_type
returns-in_default-node-clause-of_type t c =
    let n = c.in-Some-node_of.node.now in
    let e : node_at c.args.schema.now c.args.place ≡ Some n = search rules in
    ok_as c.plain_key.result (λ v h. at_place c.args.depth c.args.schema.now.nodes.items c.args.place n v (omega (arith, c.if-depth-eq0.false)) e (h (c.args.depth - 1) c.args.schema.now.nodes.items)) c.plain_key.ensures.of_type

pub returns-in_default-node-clause-means : goal.returns-in_default-node-clause-means
returns-in_default-node-clause-means t c =
    let o : inside_of c.args.schema.now c.args.place ≡ None = search rules in
    let n = c.in-Some-node_of.node.now in
    let e : node_at c.args.schema.now c.args.place ≡ Some n = search rules in
    let m : names_at c.args.schema.now c.args.place ≡ Some c.in-Some-names_of.names.now = search rules in
    ok_as c.plain_key.result (λ v h. key_at_node c.args.schema.now c.args.depth c.args.place n c.in-Some-names_of.names.now c.args.key.now v (omega (arith, c.if-depth-eq0.false)) o e m
    (plain_node_key c.args.schema.now c.in-Some-names_of.names.now n c.args.key.now (out-Value v) c.in_default-node.not-Enum h)) c.plain_key.ensures.means

pub returns-in_default-node-clause-refused : goal.returns-in_default-node-clause-refused
returns-in_default-node-clause-refused t c =
    let o : inside_of c.args.schema.now c.args.place ≡ None = search rules in
    let n = c.in-Some-node_of.node.now in
    let e : node_at c.args.schema.now c.args.place ≡ Some n = search rules in
    let m : names_at c.args.schema.now c.args.place ≡ Some c.in-Some-names_of.names.now = search rules in
    wrong_as c.plain_key.result (λ none. node_no_key c.args.schema.now c.args.depth c.args.place n c.in-Some-names_of.names.now c.args.key.now (omega (arith, c.if-depth-eq0.false)) o e m
    (plain_key_none c.args.schema.now (c.args.depth - 1) c.in-Some-names_of.names.now n c.args.key.now c.in_default-node.not-Enum none)) c.plain_key.ensures.refused

pub returns-then-depth-eq0-clause-refused : goal.returns-then-depth-eq0-clause-refused
returns-then-depth-eq0-clause-refused t c wrong = none_deep c.args.schema.now c.args.depth c.args.place (KeyMeans c.args.schema.now c.args.depth c.args.place c.args.key.now) c.if-depth-eq0.true

pub returns-in_err-held-clause-refused : goal.returns-in_err-held-clause-refused
returns-in_err-held-clause-refused t c =
    let e : inside_of c.args.schema.now c.args.place ≡ Some c.in-Some.only = search rules in
    let f : IfWrong c.from_residual.result (NoneOf (Fits c.args.schema.now (c.args.depth - 1) c.in-Some.only) (KeyMeans c.args.schema.now (c.args.depth - 1) c.in-Some.only c.args.key.now)) = search rules in
    wrong_as c.from_residual.result (newtype_no_key c.args.schema.now c.args.depth c.args.place c.in-Some.only c.args.key.now (omega (arith, c.if-depth-eq0.false)) e) f

pub returns-in_default-node_of-clause-refused : goal.returns-in_default-node_of-clause-refused
returns-in_default-node_of-clause-refused t c wrong = none_place c.args.schema.now c.args.depth c.args.place (KeyMeans c.args.schema.now c.args.depth c.args.place c.args.key.now) (search rules)

pub returns-in_default-names_of-clause-refused : goal.returns-in_default-names_of-clause-refused
returns-in_default-names_of-clause-refused t c wrong =
    let o : inside_of c.args.schema.now c.args.place ≡ None = search rules in
    unnamed_no_key c.args.schema.now c.args.depth c.args.place c.args.key.now (Fits c.args.schema.now c.args.depth c.args.place) o (search rules)

pub returns-in-Enum-clause-refused : goal.returns-in-Enum-clause-refused
returns-in-Enum-clause-refused t c =
    let o : inside_of c.args.schema.now c.args.place ≡ None = search rules in
    let e : node_at c.args.schema.now c.args.place ≡ Some (node.Enum c.in-Enum.payloads) = search rules in
    let m : names_at c.args.schema.now c.args.place ≡ Some c.in-Some-names_of.names.now = search rules in
    wrong_as c.variant_key.result (node_no_key c.args.schema.now c.args.depth c.args.place (node.Enum c.in-Enum.payloads) c.in-Some-names_of.names.now c.args.key.now (omega (arith, c.if-depth-eq0.false)) o e m) (rw c.deref.ensures.value at c.variant_key.ensures.refused)
