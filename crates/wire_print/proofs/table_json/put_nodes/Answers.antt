use Rattle.std.proofs.Common.{◌≡◌, [], inl, inr, codes}
use Rattle.wire_print.specs.TableJson.{nodes_json}
use Rattle.wire_print.proofs.TableJsonLemmas.{array_member, nodes_end}
use Rattle.wire_print.proofs.table_json.put_nodes.Goals as goal

pub returns-clause-members : goal.returns-clause-members
returns-clause-members c =
    let a = c.loop-node.node-iterator.a.a.rest.now in
    let b = c.loop-node.node-iterator.a.b.rest.now in
    let d = c.loop-node.node-iterator.b.rest.now in
    let none : nodes_json a b d ≡ [] = elim c.in-None.ensures.steps [
      | inl h ↦ elim h.1 [ inl k ↦ nodes_end a b d (inl k.1.0) | inr k ↦ nodes_end a b d (inr (inl k.1.0)) ]
      | inr h ↦ nodes_end a b d (inr (inr h.1.0))
    ] in
    array_member c.end_array.result c.args.out.now.tokens c.key.new.self.tokens c.begin_array.new.self.tokens c.loop-node.out.tokens c.end_array.new.self.tokens (codes "nodes")
    (nodes_json c.args.schema.now.nodes.items c.args.schema.now.names.items c.args.sizes.now) (nodes_json a b d)
    c.in_ok-key.ensures.ok c.in_ok-begin_array.ensures.ok c.loop-node.invariant.0 none c.end_array.ensures.ok
