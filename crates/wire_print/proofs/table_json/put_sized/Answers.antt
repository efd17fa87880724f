use Rattle.std.proofs.Common.{◌++◌, ◌∷◌, [], codes}
use Rattle.wire_print.specs.TableJson.{maybe_number, node_members}
use Rattle.wire_print.proofs.TableJsonLemmas.{members_then, object_shown}
use Rattle.wire_print.proofs.table_json.put_sized.Goals as goal

pub returns-clause-json : goal.returns-clause-json
returns-clause-json c =
    let parts = node_members c.args.names.now c.args.node.now in
    let size = (codes "size", maybe_number c.args.size) ∷ [] in
    let start = c.begin_object.new.self.tokens in
    object_shown c.end_object.result c.args.out.now.tokens start c.put_maybe.new.out.tokens c.end_object.new.self.tokens (parts ++ size) c.in_ok-begin_object.ensures.ok
    (members_then start c.put_node.new.out.tokens c.put_maybe.new.out.tokens parts size c.in_ok-put_node.ensures.members c.in_ok-put_maybe.ensures.members) c.end_object.ensures.ok
