use Rattle.std.proofs.Common.{◌++◌, ◌∷◌, [], codes}
use Rattle.json.specs.Json.{string}
use Rattle.wire_print.specs.TableJson.{node_of, number_of}
use Rattle.wire_print.proofs.TableJsonLemmas.{members_then, object_shown}
use Rattle.wire_print.proofs.table_json.put_type.Goals as goal

pub returns-clause-json : goal.returns-clause-json
returns-clause-json c =
    let name = (codes "name", string c.args.name.now) ∷ [] in
    let line = (codes "line", number_of c.args.line) ∷ [] in
    let start = c.begin_object.new.self.tokens in
    object_shown c.end_object.result c.args.out.now.tokens start c.put_number-2.new.out.tokens c.end_object.new.self.tokens (name ++ line ++ node_of c.args.place ∷ []) c.in_ok-begin_object.ensures.ok
    (members_then start c.put_number.new.out.tokens c.put_number-2.new.out.tokens (name ++ line) (node_of c.args.place ∷ [])
    (members_then start c.put_text.new.out.tokens c.put_number.new.out.tokens name line c.in_ok-put_text.ensures.members c.in_ok-put_number.ensures.members) c.in_ok-put_number-2.ensures.members) c.end_object.ensures.ok
