-- What is heard where a send of b broke off, by what had gone out of it.
use Rattle.std.specs.Prelude.{◌≡◌, ◌<◌, ◌≤◌, ℕ, List, length, Option, Some}
use Rattle.cobs.specs.Frames.{shortest_frame}
use Rattle.postcard_tree.specs.Tree.{Tree}
use Rattle.postcard_tree.specs.Spelling.{short}
use Rattle.link.specs.declared.receiver.Answer.{Answer}

-- Where so many bytes of its frame had gone out, none, some and not all, or all of them, the answers are the first, second or third
-- of these lists.
pub record HeardByFront {V : Type 0} (writes : V → Option Tree) (b : V) (answers none some whole : List (Answer V)) : Type 0 where
  pub tree : Tree
  pub writes_it : writes b ≡ Some tree
  pub out : ℕ
  pub at_most : out ≤ length (shortest_frame (short tree))
  pub where_none : out ≡ 0 → answers ≡ none
  pub where_some : 0 < out → out < length (shortest_frame (short tree)) → answers ≡ some
  pub where_whole : 0 < out → out ≡ length (shortest_frame (short tree)) → answers ≡ whole
