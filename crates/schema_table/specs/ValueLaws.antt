-- The tree and the kind of a value, by its constructor.
use Rattle.std.specs.Prelude.{◌≡◌, ℕ, List, Bool, Box, string_bytes, if◌then◌else◌}
use Rattle.std.specs.Global.{Global}
use Rattle.std.specs.Int.{w8, cast_unsigned}
use Rattle.std.proofs.Common.{sym, subst, rules, Vec}
use Rattle.postcard_tree.specs.Tree.{byte, number, character, sequence, group, end, part, text_of, zigzag}
use Rattle.schema_table.specs.declared.integer.IntegerType.{IntegerType}
use Rattle.schema_table.specs.declared.integer.Integer.{Integer}
use Rattle.schema_table.specs.Integers.{type_of, little_tree_of, big_tree_of}
use Rattle.schema_table.specs.declared.value.Value.{Value, out-Value, Bool as Truth, U8, I8, U16, U32, U64, U128, I16, I32, I64, I128, LE, BE, Char, Text, Bytes, Absent, Present, List as Listed, Group, Variant, the_lemmas}
use Rattle.schema_table.specs.declared.value.Value.TheOpen.{Value-F}
use Rattle.schema_table.specs.Values.{tree_of, trees_in}
use Rattle.schema_table.specs.Schemas.{AtTop, OfBool, OfU8, OfI8, OfU16, OfU32, OfU64, OfU128, OfI16, OfI32, OfI64, OfI128, OfLE, OfBE, OfChar, OfText, OfBytes, OfOption, OfList, OfGroup, OfVariant}

-- its tree, and its level

pub tree-Truth : (b : Bool) → tree_of (Truth b) ≡ byte (if b then 1 else 0)
tree-Truth b = search (rules, the_lemmas)

pub out-Truth : (b : Bool) → out-Value (Truth b) ≡ Value-F.Bool b
out-Truth b = search (rules, the_lemmas)

pub tree-U8 : (n : _) → tree_of (U8 n) ≡ byte n
tree-U8 n = search (rules, the_lemmas)

pub out-U8 : (n : _) → out-Value (U8 n) ≡ Value-F.U8 n
out-U8 n = search (rules, the_lemmas)

pub tree-I8 : (n : _) → tree_of (I8 n) ≡ byte (cast_unsigned w8 n)
tree-I8 n = search (rules, the_lemmas)

pub out-I8 : (n : _) → out-Value (I8 n) ≡ Value-F.I8 n
out-I8 n = search (rules, the_lemmas)

pub tree-U16 : (n : _) → tree_of (U16 n) ≡ number 16 n
tree-U16 n = search (rules, the_lemmas)

pub out-U16 : (n : _) → out-Value (U16 n) ≡ Value-F.U16 n
out-U16 n = search (rules, the_lemmas)

pub tree-U32 : (n : _) → tree_of (U32 n) ≡ number 32 n
tree-U32 n = search (rules, the_lemmas)

pub out-U32 : (n : _) → out-Value (U32 n) ≡ Value-F.U32 n
out-U32 n = search (rules, the_lemmas)

pub tree-U64 : (n : _) → tree_of (U64 n) ≡ number 64 n
tree-U64 n = search (rules, the_lemmas)

pub out-U64 : (n : _) → out-Value (U64 n) ≡ Value-F.U64 n
out-U64 n = search (rules, the_lemmas)

pub tree-U128 : (n : _) → tree_of (U128 n) ≡ number 128 n
tree-U128 n = search (rules, the_lemmas)

pub out-U128 : (n : _) → out-Value (U128 n) ≡ Value-F.U128 n
out-U128 n = search (rules, the_lemmas)

pub tree-I16 : (n : _) → tree_of (I16 n) ≡ number 16 (zigzag n)
tree-I16 n = search (rules, the_lemmas)

pub out-I16 : (n : _) → out-Value (I16 n) ≡ Value-F.I16 n
out-I16 n = search (rules, the_lemmas)

pub tree-I32 : (n : _) → tree_of (I32 n) ≡ number 32 (zigzag n)
tree-I32 n = search (rules, the_lemmas)

pub out-I32 : (n : _) → out-Value (I32 n) ≡ Value-F.I32 n
out-I32 n = search (rules, the_lemmas)

pub tree-I64 : (n : _) → tree_of (I64 n) ≡ number 64 (zigzag n)
tree-I64 n = search (rules, the_lemmas)

pub out-I64 : (n : _) → out-Value (I64 n) ≡ Value-F.I64 n
out-I64 n = search (rules, the_lemmas)

pub tree-I128 : (n : _) → tree_of (I128 n) ≡ number 128 (zigzag n)
tree-I128 n = search (rules, the_lemmas)

pub out-I128 : (n : _) → out-Value (I128 n) ≡ Value-F.I128 n
out-I128 n = search (rules, the_lemmas)

pub tree-LE : (i : _) → tree_of (LE i) ≡ little_tree_of i
tree-LE i = search (rules, the_lemmas)

pub out-LE : (i : _) → out-Value (LE i) ≡ Value-F.LE i
out-LE i = search (rules, the_lemmas)

pub tree-BE : (i : _) → tree_of (BE i) ≡ big_tree_of i
tree-BE i = search (rules, the_lemmas)

pub out-BE : (i : _) → out-Value (BE i) ≡ Value-F.BE i
out-BE i = search (rules, the_lemmas)

pub tree-Char : (c : _) → tree_of (Char c) ≡ character c
tree-Char c = search (rules, the_lemmas)

pub out-Char : (c : _) → out-Value (Char c) ≡ Value-F.Char c
out-Char c = search (rules, the_lemmas)

pub tree-Text : (s : _) → tree_of (Text s) ≡ text_of (string_bytes s)
tree-Text s = search (rules, the_lemmas)

pub out-Text : (s : _) → out-Value (Text s) ≡ Value-F.Text s
out-Text s = search (rules, the_lemmas)

pub tree-Bytes : (v : _) → tree_of (Bytes v) ≡ text_of v.items
tree-Bytes v = search (rules, the_lemmas)

pub out-Bytes : (v : _) → out-Value (Bytes v) ≡ Value-F.Bytes v
out-Bytes v = search (rules, the_lemmas)

pub tree-Present : (v : _) → tree_of (Present v) ≡ group (part (byte 1) (part (tree_of v.value) end))
tree-Present v = search (rules, the_lemmas)

pub out-Present : (v : _) → out-Value (Present v) ≡ Value-F.Present v
out-Present v = search (rules, the_lemmas)

pub tree-Listed : (v : _) → tree_of (Listed v) ≡ sequence (trees_in v.items)
tree-Listed v = search (rules, the_lemmas)

pub out-Listed : (v : _) → out-Value (Listed v) ≡ Value-F.List v
out-Listed v = search (rules, the_lemmas)

pub tree-Group : (v : _) → tree_of (Group v) ≡ group (trees_in v.items)
tree-Group v = search (rules, the_lemmas)

pub out-Group : (v : _) → out-Value (Group v) ≡ Value-F.Group v
out-Group v = search (rules, the_lemmas)

pub tree-Variant : (i : _) (v : _) → tree_of (Variant i v) ≡ group (part (number 32 i) (part (tree_of v.value) end))
tree-Variant i v = search (rules, the_lemmas)

pub out-Variant : (i : _) (v : _) → out-Value (Variant i v) ≡ Value-F.Variant i v
out-Variant i v = search (rules, the_lemmas)

pub tree-Absent : tree_of Absent ≡ byte 0
tree-Absent = search (rules, the_lemmas)

pub out-Absent : out-Value Absent ≡ Value-F.Absent
out-Absent = search (rules, the_lemmas)

-- its kind

pub top-Truth : (b : Bool) → AtTop OfBool (Truth b)
top-Truth b = subst OfBool (sym (out-Truth b)) tt

pub top-U8 : (n : _) → AtTop OfU8 (U8 n)
top-U8 n = subst OfU8 (sym (out-U8 n)) tt

pub top-I8 : (n : _) → AtTop OfI8 (I8 n)
top-I8 n = subst OfI8 (sym (out-I8 n)) tt

pub top-U16 : (n : _) → AtTop OfU16 (U16 n)
top-U16 n = subst OfU16 (sym (out-U16 n)) tt

pub top-U32 : (n : _) → AtTop OfU32 (U32 n)
top-U32 n = subst OfU32 (sym (out-U32 n)) tt

pub top-U64 : (n : _) → AtTop OfU64 (U64 n)
top-U64 n = subst OfU64 (sym (out-U64 n)) tt

pub top-U128 : (n : _) → AtTop OfU128 (U128 n)
top-U128 n = subst OfU128 (sym (out-U128 n)) tt

pub top-I16 : (n : _) → AtTop OfI16 (I16 n)
top-I16 n = subst OfI16 (sym (out-I16 n)) tt

pub top-I32 : (n : _) → AtTop OfI32 (I32 n)
top-I32 n = subst OfI32 (sym (out-I32 n)) tt

pub top-I64 : (n : _) → AtTop OfI64 (I64 n)
top-I64 n = subst OfI64 (sym (out-I64 n)) tt

pub top-I128 : (n : _) → AtTop OfI128 (I128 n)
top-I128 n = subst OfI128 (sym (out-I128 n)) tt

pub top-LE : (k : IntegerType) (i : Integer) → type_of i ≡ k → AtTop (OfLE k) (LE i)
top-LE k i e = subst (OfLE k) (sym (out-LE i)) e

pub top-BE : (k : IntegerType) (i : Integer) → type_of i ≡ k → AtTop (OfBE k) (BE i)
top-BE k i e = subst (OfBE k) (sym (out-BE i)) e

pub top-Char : (c : _) → AtTop OfChar (Char c)
top-Char c = subst OfChar (sym (out-Char c)) tt

pub top-Text : (s : _) → AtTop OfText (Text s)
top-Text s = subst OfText (sym (out-Text s)) tt

pub top-Bytes : (v : _) → AtTop OfBytes (Bytes v)
top-Bytes v = subst OfBytes (sym (out-Bytes v)) tt

pub top-Absent : (H : Value → Type 0) → AtTop (OfOption H) Absent
top-Absent H = subst (OfOption H) (sym out-Absent) tt

pub top-Present : (H : Value → Type 0) (v : Box Value Global) → H v.value → AtTop (OfOption H) (Present v)
top-Present H v h = subst (OfOption H) (sym (out-Present v)) h

pub top-Listed : (H : List Value → Type 0) (v : Vec Value Global) → H v.items → AtTop (OfList H) (Listed v)
top-Listed H v h = subst (OfList H) (sym (out-Listed v)) h

pub top-Group : (H : List Value → Type 0) (v : Vec Value Global) → H v.items → AtTop (OfGroup H) (Group v)
top-Group H v h = subst (OfGroup H) (sym (out-Group v)) h

pub top-Variant : (H : ℕ → Value → Type 0) (i : ℕ) (v : Box Value Global) → H i v.value → AtTop (OfVariant H) (Variant i v)
top-Variant H i v h = subst (OfVariant H) (sym (out-Variant i v)) h
