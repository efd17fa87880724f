use Rattle.std.proofs.Common.{◌≡◌, ◌++◌, drop}
use Rattle.json.specs.Tree.{items_tokens}
use Rattle.schema_table.specs.Printed.{byte_items}
use Rattle.wire_print.proofs.print.put_numbers.Given as goal

abbrev pub invariant-loop-byte : goal.invariant-loop-byte
invariant-loop-byte l =
    (l.out.tokens ++ items_tokens (byte_items (drop l.byte-index l.bytes)) ≡ l.initial.out.tokens ++ items_tokens (byte_items l.bytes)) × (l.out.before ≡ l.initial.out.before)
