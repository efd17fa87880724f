use Rattle.std.proofs.Common.{ap, drop}
use Rattle.std.proofs.Math.ListN.{drop_of_length-le}
use Rattle.json.specs.Json.{no_items}
use Rattle.json.specs.Value.{items_view}
use Rattle.wire_json.specs.Meant.{MeansBytes}
use Rattle.wire_json.proofs.LeafRefusals.{no_bytes_at}
use Rattle.wire_json.proofs.ParsedLemmas.{so_all}
use Rattle.wire_json.proofs.parse.bytes_of_numbers.Goals as goal

pub returns-clause-means : goal.returns-clause-means
returns-clause-means c =
    let all = c.args.elements.now in
    so_all MeansBytes (items_view all) (items_view (drop c.loop-element.element-index all)) no_items c.loop-element.bytes.items (ap items_view (drop_of_length-le all c.loop-element-test.false)) tt c.loop-element.invariant

pub returns-in-Err-clause-refused : goal.returns-in-Err-clause-refused
returns-in-Err-clause-refused c wrong =
    no_bytes_at c.args.elements.now c.loop-element.element-index c.element-item.result c.loop-element-test.true c.element-item.is (c.in-Err.ensures.refused (c.inside_element.ensures wrong))
