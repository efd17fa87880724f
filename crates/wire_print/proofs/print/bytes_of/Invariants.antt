use Rattle.std.proofs.Common.{◌≡◌, ◌++◌, drop}
use Rattle.schema_table.specs.Printed.{bytes_in}
use Rattle.wire_print.proofs.print.bytes_of.Given as goal

abbrev pub invariant-loop-item : goal.invariant-loop-item
invariant-loop-item l = l.bytes.items ++ bytes_in (drop l.item-index l.items) ≡ bytes_in l.items
