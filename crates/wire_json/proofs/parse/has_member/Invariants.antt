use Rattle.std.proofs.Common.{drop}
use Rattle.json.specs.Value.{members_view}
use Rattle.wire_json.specs.Meant.{HasMember}
use Rattle.wire_json.proofs.parse.has_member.Given as goal

abbrev pub invariant-loop-name : goal.invariant-loop-name
invariant-loop-name l = HasMember l.wanted (members_view l.members) → HasMember l.wanted (members_view (drop l.name-index l.members))
