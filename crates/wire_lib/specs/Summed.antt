-- Messages with a checksum after the value.
use Rattle.std.specs.Prelude.{◌≡◌, ℕ, ◌+◌, ◌-◌, Bool, true, false, List, [], ◌∷◌, ◌++◌, length, take, drop, Vec}
use Rattle.std.specs.Global.{Global}
use Rattle.postcard_tree.specs.Tree.{Tree}
use Rattle.postcard_tree.specs.Spelling.{short}
use Rattle.postcard_tree.specs.Fixed.{little_endian}
use Rattle.schema_table.specs.declared.integer.IntegerType.TheVariants as types
use Rattle.schema_table.specs.declared.node.Node.TheVariants as node
use Rattle.schema_table.specs.declared.schema.Names.TheVariants as names
use Rattle.schema_table.specs.declared.schema.Schema.{Schema}
use Rattle.link.specs.Judged.{FrontLaws}
use Rattle.sealed.specs.Checksum.{sum_of_bytes}

-- bytes followed by their CRC-32, in little-endian order
abbrev pub with_sum : List ℕ → List ℕ
with_sum bytes = bytes ++ little_endian 4 (sum_of_bytes bytes)

-- the last four bytes are the CRC-32 of those before them
abbrev pub EndsInSum : List ℕ → Type 0
EndsInSum bytes = drop (length bytes - 4) bytes ≡ little_endian 4 (sum_of_bytes (take (length bytes - 4) bytes))

-- a tree whose shortest encoding ends so, if a checksum is asked for
abbrev pub IsSummed : Bool → Tree → Type 0
IsSummed false t = Unit {0}
IsSummed true t = EndsInSum (short t)

-- a tree that is accepted, and ends so
abbrev pub TakesSummed : Bool → (Tree → Type 0) → Tree → Type 0
TakesSummed summed takes t = takes t × IsSummed summed t

-- the value that such a tree is read as
abbrev pub ReadsSummed : {V : Type 0} → Bool → (Tree → V → Type 0) → Tree → V → Type 0
ReadsSummed summed reads t v = reads t v × IsSummed summed t

-- the laws of reading such trees
pub summed_laws : {V : Type 0} {takes : Tree → Type 0} {reads : Tree → V → Type 0} (summed : Bool)
    → FrontLaws takes reads → FrontLaws (TakesSummed summed takes) (ReadsSummed summed reads)
summed_laws summed laws = record {
  taken = λ t v h. (laws.taken t v h.0, h.1);
  trees = λ t h. laws.trees t h.0;
  once = λ t u a b x y p q. laws.once t u a b x y p.0 q.0;
}

-- a message, followed by its checksum if one is asked for
abbrev pub message_with : Bool → List ℕ → List ℕ
message_with false bytes = bytes
message_with true bytes = with_sum bytes

-- The type of messages of another type, each followed by its checksum, was added to a table at this index.
pub record AddsSummed (old new : Schema) (place whole : ℕ) : Type 0 where
  -- the types of its parts: the other one, and four bytes
  pub parts : Vec ℕ Global
  pub parts_are : parts.items ≡ place ∷ length old.nodes.items ∷ []
  -- two types were added
  pub nodes : new.nodes.items ≡ old.nodes.items ++ node.LE types.U32 ∷ node.Struct parts ∷ []
  -- the second one is shown as the other
  pub named : new.names.items ≡ old.names.items ++ names.Nothing ∷ names.Newtype ∷ []
  -- the declared types are unchanged
  pub same : new.types ≡ old.types
  -- the index is that of the second one
  pub there : whole ≡ length old.nodes.items + 1
