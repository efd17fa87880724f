use Rattle.std.proofs.Common.{◌≡◌, Some, arith, rules}
use Rattle.std.proofs.lemmas.Grind.{common_steps}
use Rattle.schema_table.specs.declared.node.Node.TheVariants as node
use Rattle.schema_table.specs.Telling.{node_at}
use Rattle.wire_json.proofs.LeafRefusals.{empty_struct, no_depth}
use Rattle.wire_json.proofs.parse.no_fields.Goals as goal

pub returns-then-depth-eq0-clause-refused : goal.returns-then-depth-eq0-clause-refused
returns-then-depth-eq0-clause-refused c wrong v fits none = no_depth c.args.schema.now c.args.depth c.args.place v c.if-depth-eq0.true fits

pub returns-in-Some-Struct-clause-of_type : goal.returns-in-Some-Struct-clause-of_type
returns-in-Some-Struct-clause-of_type c =
    let at : node_at c.args.schema.now c.args.place ≡ Some (node.Struct c.in-Some-Struct.fields) = search rules in
    empty_struct c.args.schema.now c.args.depth c.args.place c.in-Some-Struct.fields c.new.result (omega (arith, c.if-depth-eq0.false)) at (grind (arith, common_steps)) c.new.ensures.items
