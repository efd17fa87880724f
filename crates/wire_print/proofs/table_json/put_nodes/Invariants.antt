use Rattle.std.proofs.Common.{◌≡◌, ◌++◌, flat_map}
use Rattle.json.specs.Tree.{json_tokens}
use Rattle.wire_print.specs.TableJson.{nodes_json}
use Rattle.wire_print.proofs.table_json.put_nodes.Given as goal

abbrev pub invariant-loop-node : goal.invariant-loop-node
invariant-loop-node l =
    l.out.tokens ++ flat_map json_tokens (nodes_json l.node-iterator.a.a.rest.now l.node-iterator.a.b.rest.now l.node-iterator.b.rest.now) ≡ l.initial.out.tokens ++ flat_map json_tokens (nodes_json l.schema.nodes.items l.schema.names.items l.sizes)
    × (l.out.before ≡ l.initial.out.before)
