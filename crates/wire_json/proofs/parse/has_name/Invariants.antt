use Rattle.std.proofs.Common.{drop}
use Rattle.wire_json.specs.Meant.{IsOneOf}
use Rattle.wire_json.proofs.parse.has_name.Given as goal

abbrev pub invariant-loop-name : goal.invariant-loop-name
invariant-loop-name l = IsOneOf l.wanted l.names → IsOneOf l.wanted (drop l.name-index l.names)
