use Rattle.std.proofs.Common.{drop}
use Rattle.wire_json.specs.Meant.{IsOneOf}
use Rattle.wire_lib.proofs.shown.is_among.Given as goal

-- the name is none of those before, so it is one of the rest if it is one at all
abbrev pub invariant-loop-name : goal.invariant-loop-name
invariant-loop-name l = IsOneOf l.wanted l.names → IsOneOf l.wanted (drop l.name-index l.names)
