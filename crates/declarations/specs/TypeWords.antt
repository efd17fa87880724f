-- Which words stand for types that hold no other.
use Rattle.std.specs.Prelude.{◌≡◌, ◌⊎◌, ℕ, List, codes}
use Rattle.schema_table.specs.declared.integer.IntegerType.TheVariants as integer
use Rattle.schema_table.specs.declared.node.Node.{Node}
use Rattle.schema_table.specs.declared.node.Node.TheVariants as node

-- a word of the node's type
abbrev pub IsWordOf : Node → List ℕ → Type 0
IsWordOf node.Bool word = word ≡ codes "bool"
IsWordOf node.U8 word = word ≡ codes "u8"
IsWordOf node.I8 word = word ≡ codes "i8"
IsWordOf node.U16 word = word ≡ codes "u16"
IsWordOf node.U32 word = word ≡ codes "u32"
IsWordOf node.U64 word = (word ≡ codes "u64") ⊎ (word ≡ codes "usize")
IsWordOf node.U128 word = word ≡ codes "u128"
IsWordOf node.I16 word = word ≡ codes "i16"
IsWordOf node.I32 word = word ≡ codes "i32"
IsWordOf node.I64 word = (word ≡ codes "i64") ⊎ (word ≡ codes "isize")
IsWordOf node.I128 word = word ≡ codes "i128"
IsWordOf (node.LE integer.U32) word = word ≡ codes "f32"
IsWordOf (node.LE integer.U64) word = word ≡ codes "f64"
IsWordOf node.Char word = word ≡ codes "char"
IsWordOf node.Text word = (word ≡ codes "str") ⊎ (word ≡ codes "String")
IsWordOf node.Bytes word = (word ≡ codes "ByteBuf") ⊎ (word ≡ codes "Bytes")
IsWordOf _ word = ⊥
