-- A value was written, and then its sum.
use Rattle.std.proofs.Common.{◌≡◌, ℕ, List, ◌++◌, Option, Some, None, Result, Ok, Err, ap, sym, subst, append-nil, ◌∙◌}
use Rattle.std.specs.Prelude.{IfSome, bit_xor}
use Rattle.postcard_tree.specs.declared.error.Error.{Error}
use Rattle.postcard_tree.specs.Tree.{Tree, group, bytes_of, IsTree}
use Rattle.postcard_tree.specs.Spelling.{short}
use Rattle.postcard_tree.specs.Fixed.{little_endian}
use Rattle.postcard_ser.specs.Flavor.{FlavorLaws}
use Rattle.postcard_ser.specs.Writing.{Writes}
use Rattle.postcard_tree.specs.FixedTree.{little_tree, little_tree_is}
use Rattle.sealed.specs.Checksum.{sum_of_bytes}
use Rattle.sealed.specs.Seals.{seal_of, writes_sealed}

seal_is : (key : ℕ) (t : Tree) (n : ℕ) → n ≡ sum_of_bytes (short t) → group (bytes_of (little_endian 4 (bit_xor key n))) ≡ seal_of key t
unfolding seal_of
seal_is key t n e = ap (λ k. group (bytes_of (little_endian 4 (bit_xor key k)))) e

module _ {S : Type 0} {told : S → Option (List ℕ)} {took : S → List ℕ → S → Type 0} {refused : S → List ℕ → Error → S → Type 0} {has_room : S → List ℕ → Type 0} {same : S → S → Type 0} (laws : FlavorLaws told took refused has_room same) (key : ℕ) where
  behind : {T : Type 0} (x : T) (s t u : S) (tree seal : Tree) (r : Result (Unit {0}) Error) → seal ≡ seal_of key tree → Writes {T = T} took refused s (Some tree) (Ok x) t → Writes took refused t (Some seal) r u → Writes took refused s (writes_sealed key (Some tree)) r u
  behind x s t u tree seal (Ok y) e w v = record {
    ok = (
      (w.ok.0, (subst IsTree e v.ok.0, tt)),
      subst (λ z. took s z u) (ap (λ z. short tree ++ z) (ap short e ∙ sym (append-nil (short (seal_of key tree))))) (laws.more s t u (short tree) (short seal) w.ok.1 v.ok.1),
    );
    err = tt;
  }
  behind x s t u tree seal (Err f) e w v = record {
    ok = tt;
    err = record {
      cause = v.err.cause;
      was = subst (λ z. refused s z v.err.cause u) (ap (λ z. short tree ++ z) (ap short e ∙ sym (append-nil (short (seal_of key tree))))) (laws.refused_later s t u (short tree) (short seal) v.err.cause w.ok.1 v.err.was);
      passed_on = v.err.passed_on;
    };
  }

  pub seal_written : (s t u : S) (o : Option Tree) (n : ℕ) (r : Result (Unit {0}) Error) → IfSome o (λ tree. n ≡ sum_of_bytes (short tree)) → Writes {T = ℕ} took refused s o (Ok n) t
      → Writes took refused t (little_tree 4 (bit_xor key n)) r u → Writes took refused s (writes_sealed key o) r u
  seal_written s t u None n r e w v = absurd w.ok
  seal_written s t u (Some tree) n r e w v = behind n s t u tree (group (bytes_of (little_endian 4 (bit_xor key n)))) r (seal_is key tree n e) w (subst (λ z. Writes took refused t z r u) (little_tree_is 4 (bit_xor key n)) v)
