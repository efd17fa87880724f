use Rattle.std.proofs.Common.{◌≡◌, ◌≢◌, rules, string_bytes}
use Rattle.wire_lib.proofs.NamesLemmas.{one_of_here, one_of_more}
use Rattle.wire_lib.proofs.shown.is_among.Goals as goal

pub returns-then-eq-clause-found : goal.returns-then-eq-clause-found
returns-then-eq-clause-found c e =
    let same : string_bytes c.name-item.result ≡ c.args.wanted.now = search rules in
    one_of_here c.args.wanted.now c.args.names.now c.loop-name.name-index c.name-item.result c.loop-name-test.true c.name-item.is same

pub loop-name-preserved : goal.loop-name-preserved
loop-name-preserved c =
    let other : string_bytes c.name-item.result ≢ c.args.wanted.now = search rules in
    one_of_more c.args.wanted.now c.args.names.now c.loop-name.name-index c.name-item.result c.loop-name-test.true c.name-item.is other c.loop-name.invariant
