-- Integers that are sent as their bytes.
use Rattle.std.specs.Prelude.{ℕ}
use Rattle.std.specs.Int.{w16, w32, w64, w128, cast_unsigned}
use Rattle.postcard_tree.specs.Tree.{Tree, group, bytes_of}
use Rattle.postcard_tree.specs.Fixed.{little_endian, big_endian}
use Rattle.schema_table.specs.declared.integer.IntegerType.{IntegerType}
use Rattle.schema_table.specs.declared.integer.IntegerType.TheVariants as types
use Rattle.schema_table.specs.declared.integer.Integer.{Integer}
use Rattle.schema_table.specs.declared.integer.Integer.TheVariants as integers

-- how many bytes an integer of that type has
abbrev pub width_of : IntegerType → ℕ
width_of types.U16 = 2
width_of types.U32 = 4
width_of types.U64 = 8
width_of types.U128 = 16
width_of types.I16 = 2
width_of types.I32 = 4
width_of types.I64 = 8
width_of types.I128 = 16

-- the type of an integer
abbrev pub type_of : Integer → IntegerType
type_of (integers.U16 n) = types.U16
type_of (integers.U32 n) = types.U32
type_of (integers.U64 n) = types.U64
type_of (integers.U128 n) = types.U128
type_of (integers.I16 n) = types.I16
type_of (integers.I32 n) = types.I32
type_of (integers.I64 n) = types.I64
type_of (integers.I128 n) = types.I128

-- its bits as a number: for a negative one those of its two's complement
abbrev pub bits_in : Integer → ℕ
bits_in (integers.U16 n) = n
bits_in (integers.U32 n) = n
bits_in (integers.U64 n) = n
bits_in (integers.U128 n) = n
bits_in (integers.I16 n) = cast_unsigned w16 n
bits_in (integers.I32 n) = cast_unsigned w32 n
bits_in (integers.I64 n) = cast_unsigned w64 n
bits_in (integers.I128 n) = cast_unsigned w128 n

-- a group of the lowest k bytes of n, the lowest first
unfoldable pub little_group : ℕ → ℕ → Tree
little_group k n = group (bytes_of (little_endian k n))

-- the same, the highest first
unfoldable pub big_group : ℕ → ℕ → Tree
big_group k n = group (bytes_of (big_endian k n))

-- what an integer is on the wire, its lowest byte first
abbrev pub little_tree_of : Integer → Tree
little_tree_of i = little_group (width_of (type_of i)) (bits_in i)

-- what it is with its highest byte first
abbrev pub big_tree_of : Integer → Tree
big_tree_of i = big_group (width_of (type_of i)) (bits_in i)
