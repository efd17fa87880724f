use Rattle.std.proofs.Common.{◌≡◌, ◌++◌, flat_map}
use Rattle.json.specs.Tree.{json_tokens}
use Rattle.wire_print.specs.TableJson.{parts_json}
use Rattle.wire_print.proofs.table_json.put_parts.Given as goal

abbrev pub invariant-loop-name : goal.invariant-loop-name
invariant-loop-name l =
    l.out.tokens ++ flat_map json_tokens (parts_json l.name-iterator.a.rest.now l.name-iterator.b.rest.now) ≡ l.initial.out.tokens ++ flat_map json_tokens (parts_json l.names l.places)
    × (l.out.before ≡ l.initial.out.before)
