use Rattle.json.specs.Value.{items_view}
use Rattle.std.proofs.Common.{drop}
use Rattle.wire_json.specs.Meant.{MeansBytes}
use Rattle.wire_json.proofs.ParsedLemmas.{So}
use Rattle.wire_json.proofs.parse.bytes_of_numbers.Given as goal

abbrev pub invariant-loop-element : goal.invariant-loop-element
invariant-loop-element l = So MeansBytes (items_view l.elements) (items_view (drop l.element-index l.elements)) l.bytes.items
