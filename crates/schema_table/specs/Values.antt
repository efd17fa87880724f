-- The tree of a value.
use Rattle.std.specs.Prelude.{◌≡◌, List, [], ◌∷◌, map, string_bytes, if◌then◌else◌}
use Rattle.std.specs.Int.{w8, cast_unsigned}
use Rattle.postcard_tree.specs.Tree.{Tree, byte, number, character, sequence, group, Trees, end, part, text_of, zigzag}
use Rattle.schema_table.specs.declared.value.Value.{Value, fold-Value}
use Rattle.schema_table.specs.Integers.{little_tree_of, big_tree_of}
use Rattle.schema_table.specs.declared.value.Value.TheOpen.{Value-F}

-- the trees, one part each
abbrev pub parts_as : List Tree → Trees
parts_as [] = end
parts_as (t ∷ ts) = part t (parts_as ts)

-- one level of a value, with each value inside already given as its tree
abbrev pub tree_step : Value-F Tree → Tree
tree_step (Value-F.Bool b) = byte (if b then 1 else 0)
tree_step (Value-F.U8 b) = byte b
tree_step (Value-F.I8 z) = byte (cast_unsigned w8 z)
tree_step (Value-F.U16 n) = number 16 n
tree_step (Value-F.U32 n) = number 32 n
tree_step (Value-F.U64 n) = number 64 n
tree_step (Value-F.U128 n) = number 128 n
tree_step (Value-F.I16 z) = number 16 (zigzag z)
tree_step (Value-F.I32 z) = number 32 (zigzag z)
tree_step (Value-F.I64 z) = number 64 (zigzag z)
tree_step (Value-F.I128 z) = number 128 (zigzag z)
tree_step (Value-F.LE i) = little_tree_of i
tree_step (Value-F.BE i) = big_tree_of i
tree_step (Value-F.Char c) = character c
tree_step (Value-F.Text s) = text_of (string_bytes s)
tree_step (Value-F.Bytes v) = text_of v.items
tree_step Value-F.Absent = byte 0
tree_step (Value-F.Present v) = group (part (byte 1) (part v.value end))
tree_step (Value-F.List v) = sequence (parts_as v.items)
tree_step (Value-F.Group v) = group (parts_as v.items)
tree_step (Value-F.Variant i v) = group (part (number 32 i) (part v.value end))

-- what a value is on the wire
abbrev pub tree_of : Value → Tree
tree_of = fold-Value Tree tree_step

-- the trees of the values, one part each
abbrev pub trees_in : List Value → Trees
trees_in vs = parts_as (map tree_of vs)

-- both have one tree
abbrev pub AreOneTree : Value → Value → Type 0
AreOneTree v w = tree_of v ≡ tree_of w
