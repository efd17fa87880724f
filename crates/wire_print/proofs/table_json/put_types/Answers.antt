use Rattle.std.proofs.Common.{drop, codes, ap}
use Rattle.std.proofs.Math.ListN.{drop_of_length-le}
use Rattle.wire_print.specs.TableJson.{types_json}
use Rattle.wire_print.proofs.TableJsonLemmas.{array_member}
use Rattle.wire_print.proofs.table_json.put_types.Goals as goal

pub returns-clause-members : goal.returns-clause-members
returns-clause-members c =
    let all = c.deref-it-items.result.now in
    let n = c.loop-place.place in
    rw c.deref-it-items.ensures.value at
    (array_member c.end_array.result c.args.out.now.tokens c.key.new.self.tokens c.begin_array.new.self.tokens c.loop-place.out.tokens c.end_array.new.self.tokens (codes "types") (types_json all 0) (types_json (drop n all) n)
    c.in_ok-key.ensures.ok c.in_ok-begin_array.ensures.ok c.loop-place.invariant.0 (ap (λ l. types_json l n) (drop_of_length-le all c.loop-place-test.false)) c.end_array.ensures.ok)
