use Rattle.std.proofs.Common.{◌≡◌, ◌++◌, flat_map, map, drop}
use Rattle.json.specs.Tree.{json_tokens}
use Rattle.wire_print.specs.TableJson.{number_of}
use Rattle.wire_print.proofs.table_json.put_places.Given as goal

abbrev pub invariant-loop-place : goal.invariant-loop-place
invariant-loop-place l =
    l.out.tokens ++ flat_map json_tokens (map number_of (drop l.place-index l.places)) ≡ l.initial.out.tokens ++ flat_map json_tokens (map number_of l.places)
    × (l.out.before ≡ l.initial.out.before)
