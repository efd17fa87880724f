-- The maximum sizes of types, in bytes.
use Rattle.std.specs.Prelude.{◌≡◌, ℕ, zero, suc, ◌+◌, ◌*◌, ◌^◌, ◌≤◌, List, [], ◌∷◌, length, map, Option, Some, None}
use Rattle.std.specs.List.{slice_get}
use Rattle.postcard_tree.specs.Tree.{Tree}
use Rattle.postcard_tree.specs.Spelling.{varint, short}
use Rattle.postcard.specs.Greatest.{greater_of}
use Rattle.schema_table.specs.declared.node.Node.{Node}
use Rattle.schema_table.specs.declared.node.Node.TheVariants as node
use Rattle.schema_table.specs.Integers.{width_of}
use Rattle.schema_table.specs.Schemas.{SchemaTakes}

-- each tree that is accepted has a shortest encoding of at most n bytes
abbrev pub IsAtMost : (Tree → Type 0) → ℕ → Type 0
IsAtMost takes n = (t : Tree) → takes t → length (short t) ≤ n

-- the size at a place of a list, if the place and the size are there
abbrev pub size_in : Option (Option ℕ) → Option ℕ
size_in None = None
size_in (Some size) = size

-- the size at that index, if it is known
abbrev pub known_size : List (Option ℕ) → ℕ → Option ℕ
known_size sizes place = size_in (slice_get sizes place)

-- each size that is known bounds what the type at its index accepts
abbrev pub KnowsSizes : (ℕ → Tree → Type 0) → List (Option ℕ) → Type 0
KnowsSizes takes sizes = (place n : ℕ) → known_size sizes place ≡ Some n → IsAtMost (takes place) n

-- each size that is known bounds what the type at its index accepts, however deep it nests
abbrev pub AreSizesOf : List Node → List (Option ℕ) → Type 0
AreSizesOf nodes sizes = (depth : ℕ) → KnowsSizes (SchemaTakes depth nodes) sizes

-- the sum of two sizes; none if one isn't known
abbrev pub both : Option ℕ → Option ℕ → Option ℕ
both None b = None
both (Some a) None = None
both (Some a) (Some b) = Some (a + b)

-- n of this size
abbrev pub so_many : ℕ → Option ℕ → Option ℕ
so_many zero size = Some 0
so_many (suc n) None = None
so_many (suc n) (Some size) = Some (size * suc n)

-- the sum of the sizes at these indices
abbrev pub sum_size : List (Option ℕ) → List ℕ → Option ℕ
sum_size sizes [] = Some 0
sum_size sizes (i ∷ is) = both (known_size sizes i) (sum_size sizes is)

-- the greatest of the sizes at these indices, each with the index of its variant, counted from this one on
abbrev pub variant_size : List (Option ℕ) → ℕ → List ℕ → Option ℕ
variant_size sizes index [] = Some 0
variant_size sizes index (i ∷ is) =
    greater_of (both (Some (length (varint index))) (known_size sizes i)) (variant_size sizes (index + 1) is)

-- the size of n elements and their count
abbrev pub counted_size : ℕ → Option ℕ → Option ℕ
counted_size n element = both (so_many n element) (Some (length (varint n)))

-- the size of a node by those of the types inside
abbrev pub node_size : List (Option ℕ) → Node → Option ℕ
node_size sizes node.Bool = Some 1
node_size sizes node.U8 = Some 1
node_size sizes node.I8 = Some 1
node_size sizes node.U16 = Some 3
node_size sizes node.U32 = Some 5
node_size sizes node.U64 = Some 10
node_size sizes node.U128 = Some 19
node_size sizes node.I16 = Some 3
node_size sizes node.I32 = Some 5
node_size sizes node.I64 = Some 10
node_size sizes node.I128 = Some 19
node_size sizes (node.LE k) = Some (width_of k)
node_size sizes (node.BE k) = Some (width_of k)
node_size sizes node.Char = Some 5
node_size sizes node.Text = None
node_size sizes (node.TextUpTo n) = counted_size n (Some 1)
node_size sizes node.Bytes = None
node_size sizes (node.Option i) = both (known_size sizes i) (Some 1)
node_size sizes (node.List i) = None
node_size sizes (node.ListUpTo n i) = counted_size n (known_size sizes i)
node_size sizes (node.Array n i) = so_many n (known_size sizes i)
node_size sizes (node.Struct is) = sum_size sizes is.items
node_size sizes (node.Enum is) = variant_size sizes 0 is.items

-- a size is unknown, or it is 2^64 or more
abbrev pub IsPast64 : Option ℕ → Type 0
IsPast64 size = (n : ℕ) → size ≡ Some n → 2 ^ 64 ≤ n

-- Each size that is known is that of the node by the sizes of the types inside.
pub record AreByParts (nodes : List Node) (sizes : List (Option ℕ)) : Type 0 where
  -- of the node at each index
  pub each : (place m : ℕ) (n : Node) → slice_get nodes place ≡ Some n
      → known_size sizes place ≡ Some m → node_size sizes n ≡ Some m

-- the node at this index has a size, or by the sizes of the types inside it has none, or one of 2^64 or more
abbrev pub HasSizeAt : List Node → List (Option ℕ) → ℕ → Type 0
HasSizeAt nodes sizes place = (n : Node) → slice_get nodes place ≡ Some n → known_size sizes place ≡ None
    → IsPast64 (node_size sizes n)

-- This holds of each node: so no size is left out that the sizes of the types inside give.
abbrev pub HaveSizes : List Node → List (Option ℕ) → Type 0
HaveSizes nodes sizes = (place : ℕ) → HasSizeAt nodes sizes place

-- These are the maximum sizes of a table's types: one for each.
pub record AreMaximumSizes (nodes : List Node) (sizes : List (Option ℕ)) : Type 0 where
  -- one for each
  pub each : length sizes ≡ length nodes
  -- they are upper bounds
  pub bounds : AreSizesOf nodes sizes
  -- each is that by the types inside
  pub parts : AreByParts nodes sizes
  -- none is left out that the types inside give
  pub found : HaveSizes nodes sizes

-- how many sizes aren't known
abbrev pub unknown_among : List (Option ℕ) → ℕ
unknown_among [] = 0
unknown_among (None ∷ sizes) = unknown_among sizes + 1
unknown_among (Some n ∷ sizes) = unknown_among sizes

-- a list whose elements are known to have no bytes gets this maximum length; any other is unchanged
abbrev pub list_bounded : Option ℕ → ℕ → ℕ → Node
list_bounded None most i = node.List i
list_bounded (Some zero) most i = node.ListUpTo most i
list_bounded (Some (suc n)) most i = node.List i

-- the same for a node; one that isn't a list is unchanged
abbrev pub node_bounded : List (Option ℕ) → ℕ → Node → Node
node_bounded sizes most (node.List i) = list_bounded (known_size sizes i) most i
node_bounded sizes most n = n

-- Among these nodes each list whose elements are known to have no bytes got this maximum length, and every other is unchanged.
pub record AreListsBounded (most : ℕ) (nodes nodes' : List Node) : Type 0 where
  -- sizes of the types
  pub sizes : List (Option ℕ)
  -- they are upper bounds
  pub right : AreSizesOf nodes sizes
  -- none is left out that the types inside give
  pub found : HaveSizes nodes sizes
  -- the lists that they bound by 0 are changed
  pub changed : nodes' ≡ map (node_bounded sizes most) nodes
