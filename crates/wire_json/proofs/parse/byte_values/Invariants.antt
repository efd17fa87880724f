use Rattle.std.proofs.Common.{drop}
use Rattle.schema_table.specs.declared.node.Node.TheVariants as node
use Rattle.schema_table.specs.Schemas.{EachHas}
use Rattle.wire_json.specs.Meant.{AreBytes}
use Rattle.wire_json.specs.Parsed.{IsOfLeaf}
use Rattle.wire_json.proofs.ParsedLemmas.{So}
use Rattle.wire_json.proofs.parse.byte_values.Given as goal

abbrev pub invariant-loop-byte : goal.invariant-loop-byte
invariant-loop-byte l = EachHas (IsOfLeaf node.U8) l.items.items × So AreBytes l.bytes (drop l.byte-index l.bytes) l.items.items
