-- The tree of bytes that are written as they are. A proof that follows a number of fixed width doesn't look into it: the
-- terms of a number's bytes are large from four bytes on.
use Rattle.std.specs.Prelude.{◌≡◌, ℕ, List, Option, Some, refl}
use Rattle.postcard_tree.specs.Tree.{Tree, group, bytes_of}
use Rattle.postcard_tree.specs.Fixed.{little_endian, big_endian}

-- the bytes of n, of any width
unfoldable pub little_tree : ℕ → ℕ → Option Tree
little_tree k n = Some (group (bytes_of (little_endian k n)))

-- the tree of k bytes of a number, the highest first
unfoldable pub big_tree : ℕ → ℕ → Option Tree
big_tree k n = Some (group (bytes_of (big_endian k n)))

pub little_tree_is : (k n : ℕ) → little_tree k n ≡ Some (group (bytes_of (little_endian k n)))
unfolding little_tree
little_tree_is k n = refl

pub big_tree_is : (k n : ℕ) → big_tree k n ≡ Some (group (bytes_of (big_endian k n)))
unfolding big_tree
big_tree_is k n = refl
