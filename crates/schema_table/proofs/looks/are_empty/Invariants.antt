use Rattle.std.proofs.Common.{◌≡◌, drop}
use Rattle.schema_table.specs.Looks.{are_empty_named}
use Rattle.schema_table.proofs.looks.are_empty.Given as goal

abbrev pub invariant-loop-payload : goal.invariant-loop-payload
invariant-loop-payload l = are_empty_named l.schema (drop l.payload-index l.payloads) ≡ are_empty_named l.schema l.payloads
