use Rattle.std.proofs.Common.{◌≡◌, [], inl, inr}
use Rattle.wire_print.specs.TableJson.{parts_json}
use Rattle.wire_print.proofs.TableJsonLemmas.{array_member, parts_end}
use Rattle.wire_print.proofs.table_json.put_parts.Goals as goal

pub returns-clause-members : goal.returns-clause-members
returns-clause-members c =
    let a = c.loop-name.name-iterator.a.rest.now in
    let b = c.loop-name.name-iterator.b.rest.now in
    let none : parts_json a b ≡ [] = elim c.in-None.ensures.steps [ inl h ↦ parts_end a b (inl h.1.0) | inr h ↦ parts_end a b (inr h.1.0) ] in
    array_member c.end_array.result c.args.out.now.tokens c.key.new.self.tokens c.begin_array.new.self.tokens c.loop-name.out.tokens c.end_array.new.self.tokens c.args.of.now (parts_json c.args.names.now c.args.places.now) (parts_json a b)
    c.in_ok-key.ensures.ok c.in_ok-begin_array.ensures.ok c.loop-name.invariant.0 none c.end_array.ensures.ok
