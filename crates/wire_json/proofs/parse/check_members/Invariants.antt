use Rattle.std.proofs.Common.{drop}
use Rattle.json.specs.Value.{members_view}
use Rattle.wire_json.specs.Meant.{AreNamed}
use Rattle.wire_json.proofs.parse.check_members.Given as goal

abbrev pub invariant-loop-key : goal.invariant-loop-key
invariant-loop-key l = AreNamed l.names.items (members_view (drop l.key-index l.members.items)) → AreNamed l.names.items (members_view l.members.items)
