use Rattle.std.proofs.Common.{◌≡◌, ◌++◌, flat_map, drop}
use Rattle.json.specs.Tree.{json_tokens}
use Rattle.wire_print.specs.TableJson.{types_json}
use Rattle.wire_print.proofs.table_json.put_types.Given as goal

abbrev pub invariant-loop-place : goal.invariant-loop-place
invariant-loop-place l =
    l.out.tokens ++ flat_map json_tokens (types_json (drop l.place l.it-items) l.place) ≡ l.initial.out.tokens ++ flat_map json_tokens (types_json l.it-items 0)
    × (l.out.before ≡ l.initial.out.before)
