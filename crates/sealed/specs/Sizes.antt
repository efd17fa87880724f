-- The length of an encoding with its sum.
use Rattle.std.specs.Prelude.{◌≡◌, ℕ, ◌+◌, ◌≤◌, List, [], ◌∷◌, length, Option, Some, None, refl, bit_xor}
use Rattle.std.proofs.Common.{◌∙◌, subst, arith, length-append}
use Rattle.postcard_tree.specs.Tree.{Tree, part, end, bytes_of}
use Rattle.postcard_tree.specs.Spelling.{short, short_all, single}
use Rattle.postcard_tree.specs.Fixed.{little_endian}
use Rattle.postcard_tree.specs.FixedOnce.{length_little}
use Rattle.postcard.specs.Greatest.{SizeWithin, sum_of, sum_some}
use Rattle.sealed.specs.Checksum.{sum_of_bytes}
use Rattle.sealed.specs.Seals.{seal_of, with_seal, writes_sealed}

as_long : (bs : List ℕ) → length (short_all (bytes_of bs)) ≡ length bs
unfolding single
as_long [] = refl
as_long (b ∷ bs) = omega (arith, as_long bs)

pub length_seal : (key : ℕ) (t : Tree) → length (short (seal_of key t)) ≡ 4
unfolding seal_of
length_seal key t =
    let n = bit_xor key (sum_of_bytes (short t)) in
    as_long (little_endian 4 n) ∙ length_little 4 n

length_sealed : (key : ℕ) (t : Tree) → length (short (with_seal t (seal_of key t))) ≡ length (short t) + 4
length_sealed key t = omega (arith, length-append (short t) (short_all (part (seal_of key t) end)), length-append (short (seal_of key t)) [], length_seal key t)

pub sealed_within : (key : ℕ) (o : Option Tree) (g : Option ℕ) → SizeWithin o g → SizeWithin (writes_sealed key o) (sum_of g (Some 4))
sealed_within key None g one = record { at_most = λ t m e q. cc }
sealed_within key (Some u) g one = record {
  at_most = λ t m e q.
      let s = sum_some g (Some 4) m q in
      let four : s.1 ≡ 4 = (let k = s.3 in cc) in
      let same : with_seal u (seal_of key u) ≡ t = cc in
      subst (λ z. length (short z) ≤ m) same (omega (arith, length_sealed key u, one.at_most u s.0 refl s.2, s.4, four));
}
