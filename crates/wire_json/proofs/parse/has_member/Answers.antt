use Rattle.std.proofs.Common.{◌≡◌, ◌≢◌, rules}
use Rattle.wire_json.proofs.LeafRefusals.{member_here, member_more}
use Rattle.wire_json.proofs.parse.has_member.Goals as goal

pub returns-then-eq-clause-found : goal.returns-then-eq-clause-found
returns-then-eq-clause-found c e =
    let same : c.loop-name-item.result.0.now ≡ c.args.wanted.now = search rules in
    member_here c.args.wanted.now c.args.members.now c.loop-name.name-index c.loop-name-item.result c.loop-name-test.true c.loop-name-item.is same

pub loop-name-preserved : goal.loop-name-preserved
loop-name-preserved c =
    let other : c.loop-name-item.result.0.now ≢ c.args.wanted.now = search rules in
    member_more c.args.wanted.now c.args.members.now c.loop-name.name-index c.loop-name-item.result c.loop-name-test.true c.loop-name-item.is other c.loop-name.invariant
