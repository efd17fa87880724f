use Rattle.std.proofs.Common.{map, drop, codes, ap}
use Rattle.std.proofs.Math.ListN.{drop_of_length-le}
use Rattle.wire_print.specs.TableJson.{number_of}
use Rattle.wire_print.proofs.TableJsonLemmas.{array_member}
use Rattle.wire_print.proofs.table_json.put_places.Goals as goal

pub returns-clause-members : goal.returns-clause-members
returns-clause-members c =
    let all = c.args.places.now in
    array_member c.end_array.result c.args.out.now.tokens c.key.new.self.tokens c.begin_array.new.self.tokens c.loop-place.out.tokens c.end_array.new.self.tokens (codes "nodes") (map number_of all) (map number_of (drop c.loop-place.place-index all))
    c.in_ok-key.ensures.ok c.in_ok-begin_array.ensures.ok c.loop-place.invariant.0 (ap (map number_of) (drop_of_length-le all c.loop-place-test.false)) c.end_array.ensures.ok
