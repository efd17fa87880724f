use Rattle.std.proofs.Common.{◌≡◌, ◌+◌, length}
use Rattle.json.specs.Value.{members_view}
use Rattle.wire_json.specs.Meant.{AreNamedOnce}
use Rattle.wire_json.proofs.parse.doubled.Given as goal

abbrev pub invariant-loop : goal.invariant-loop
invariant-loop l = record {
  left : length l.rest + l.counter ≡ length l.members;
  down : AreNamedOnce (members_view l.members) → AreNamedOnce (members_view l.rest);
  up : AreNamedOnce (members_view l.rest) → AreNamedOnce (members_view l.members);
}
