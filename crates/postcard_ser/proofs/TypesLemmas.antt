-- Bytes that stand for themselves.
use Rattle.std.proofs.Common.{ℕ, List, sym, subst, Some, Result}
use Rattle.postcard_tree.specs.declared.error.Error.{Error}
use Rattle.postcard_tree.specs.Tree.{group, bytes_of}
use Rattle.postcard_tree.specs.Texts.{are_bytes, short_bytes}
use Rattle.postcard_ser.specs.Flavor.{Pushes}
use Rattle.postcard_ser.specs.Writing.{Writes}
use Rattle.postcard_ser.proofs.PushingLemmas.{pushes_tree}

-- pushed without their count they are a group
pub bytes_write : {S T : Type 0} {took : S → List ℕ → S → Type 0} {refused : S → List ℕ → Error → S → Type 0} {s t : S} (bs : List ℕ) {r : Result T Error} → Pushes took refused s bs r t → Writes took refused s (Some (group (bytes_of bs))) r t
bytes_write {took = took} {refused = refused} {s = s} {t = t} bs {r = r} p =
    pushes_tree {tree = group (bytes_of bs)} (are_bytes bs) (subst (λ a. Pushes took refused s a r t) (sym (short_bytes bs)) p)
