-- Values whose integers are in the range of their types, as those of a program are.
use Rattle.std.specs.Prelude.{◌≡◌, ◌^◌, ℕ, List, [], ◌∷◌, Bool, true, ◌&&◌, nat_lt}
use Rattle.std.specs.Int.Signed.{mag}
use Rattle.schema_table.specs.declared.integer.IntegerType.{IntegerType}
use Rattle.schema_table.specs.declared.schema.Schema.{Schema}
use Rattle.schema_table.specs.declared.integer.Integer.{Integer}
use Rattle.schema_table.specs.declared.integer.Integer.TheVariants as integers
use Rattle.schema_table.specs.declared.value.Value.{Value, fold-Value}
use Rattle.schema_table.specs.declared.value.Value.TheOpen.{Value-F}
use Rattle.schema_table.specs.Integers.{type_of}
use Rattle.wire_json.specs.Parsed.{IsOfType}

-- whether all of these are true
abbrev pub all_true : List Bool → Bool
all_true [] = true
all_true (b ∷ bs) = b && all_true bs

-- whether these are bytes
abbrev pub are_bytes : List ℕ → Bool
are_bytes [] = true
are_bytes (n ∷ ns) = nat_lt n 256 && are_bytes ns

-- this is a byte
abbrev pub IsByte : ℕ → Type 0
IsByte n = nat_lt n 256 ≡ true

-- these are bytes
abbrev pub AreAllBytes : List ℕ → Type 0
AreAllBytes bs = are_bytes bs ≡ true

-- whether an integer is in the range of its type
abbrev pub is_in_range : Integer → Bool
is_in_range (integers.U16 n) = nat_lt n (2 ^ 16)
is_in_range (integers.U32 n) = nat_lt n (2 ^ 32)
is_in_range (integers.U64 n) = nat_lt n (2 ^ 64)
is_in_range (integers.U128 n) = nat_lt n (2 ^ 128)
is_in_range (integers.I16 z) = nat_lt (mag z) (2 ^ 15)
is_in_range (integers.I32 z) = nat_lt (mag z) (2 ^ 31)
is_in_range (integers.I64 z) = nat_lt (mag z) (2 ^ 63)
is_in_range (integers.I128 z) = nat_lt (mag z) (2 ^ 127)

-- an integer of this type
abbrev pub IsIntegerOf : IntegerType → Integer → Type 0
IsIntegerOf k i = (type_of i ≡ k) × (is_in_range i ≡ true)

-- the same of a value, with each value inside already asked
abbrev pub range_step : Value-F Bool → Bool
range_step (Value-F.U8 n) = nat_lt n (2 ^ 8)
range_step (Value-F.U16 n) = nat_lt n (2 ^ 16)
range_step (Value-F.U32 n) = nat_lt n (2 ^ 32)
range_step (Value-F.U64 n) = nat_lt n (2 ^ 64)
range_step (Value-F.U128 n) = nat_lt n (2 ^ 128)
range_step (Value-F.I8 z) = nat_lt (mag z) (2 ^ 7)
range_step (Value-F.I16 z) = nat_lt (mag z) (2 ^ 15)
range_step (Value-F.I32 z) = nat_lt (mag z) (2 ^ 31)
range_step (Value-F.I64 z) = nat_lt (mag z) (2 ^ 63)
range_step (Value-F.I128 z) = nat_lt (mag z) (2 ^ 127)
range_step (Value-F.LE i) = is_in_range i
range_step (Value-F.BE i) = is_in_range i
range_step (Value-F.Bytes v) = are_bytes v.items
range_step (Value-F.Present v) = v.value
range_step (Value-F.List v) = all_true v.items
range_step (Value-F.Group v) = all_true v.items
range_step (Value-F.Variant n v) = v.value
range_step _ = true

-- whether each integer of a value is in the range of its type, as in every value that a program has
abbrev pub are_in_range : Value → Bool
are_in_range = fold-Value Bool range_step

-- a value of this kind, whose integers are in range
abbrev pub InRange : (Value → Type 0) → Value → Type 0
InRange kind v = kind v × (are_in_range v ≡ true)

-- a value of the type at a place, with at most so many nested nodes, whose integers are in range
abbrev pub Fits : Schema → ℕ → ℕ → Value → Type 0
Fits schema depth i v = IsOfType depth schema.nodes.items i v × (are_in_range v ≡ true)
