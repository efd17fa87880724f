-- One seal is of one key.
use Rattle.std.proofs.Common.{◌≡◌, ℕ, ◌/◌, ◌%◌, ◌<◌, ◌^◌, List, ◌++◌, refl, sym, ap, ◌∙◌, subst, arith}
use Rattle.std.specs.Prelude.{bit_xor}
use Rattle.std.specs.Int.Bits.{xor_assoc, xor_self, xor_zero_r}
use Rattle.std.proofs.lemmas.Nat.{xor_mod}
use Rattle.postcard_tree.specs.declared.error.Error.{Error}
use Rattle.postcard_tree.specs.Tree.{Tree, group, part, end, bytes_of}
use Rattle.postcard_tree.specs.Spelling.{Spells, short}
use Rattle.postcard_tree.specs.Fixed.{little_endian, TakesFixed, ReadsFixed}
use Rattle.postcard_tree.specs.FixedOnce.{little_laws, unsigned_laws}
use Rattle.postcard_tree.specs.Reading.{TakesPair, ReadsPair, RefusesPair, IsShort}
use Rattle.postcard_tree.specs.Alike.{AlikePairs}
use Rattle.postcard_tree.specs.ReadingLaws.{ReadingLaws, pair_laws}
use Rattle.sealed.specs.Checksum.{sum_of_bytes}
use Rattle.sealed.specs.Seals.{seal_of, TakesSealed, KeysDiffer, as_pair}

numbers : ReadingLaws {A = ℕ} (TakesFixed 4) (ReadsFixed (λ n. little_endian 4 n) (λ n. n < 2 ^ 32)) (IsShort 4) (λ v w. v ≡ w)
numbers = little_laws (unsigned_laws 4 refl)

-- four bytes are those of the lowest 32 bits
low_bytes : (n : ℕ) → little_endian 4 n ≡ little_endian 4 (n % 2 ^ 32)
low_bytes n =
    let a : n % 256 ≡ n % 4294967296 % 256 = omega arith in
    let b : n / 256 % 256 ≡ n % 4294967296 / 256 % 256 = omega arith in
    let c : n / 256 / 256 % 256 ≡ n % 4294967296 / 256 / 256 % 256 = omega arith in
    let d : n / 256 / 256 / 256 % 256 ≡ n % 4294967296 / 256 / 256 / 256 % 256 = omega arith in
    cc

-- what is XORed with one number is XORed with it once
gone : (a b s : ℕ) → bit_xor a s ≡ bit_xor b s → a ≡ b
gone a b s e = sym (back a) ∙ ap (λ x. bit_xor x s) e ∙ back b
  where
    back : (x : ℕ) → bit_xor (bit_xor x s) s ≡ x
    back x = xor_assoc x s s ∙ ap (bit_xor x) (xor_self s) ∙ xor_zero_r x

small : (n : ℕ) → n < 2 ^ 32 → n % 2 ^ 32 ≡ n
small n l = omega (arith, l)

keys_are_one : (key other : ℕ) (t : Tree) → key < 2 ^ 32 → other < 2 ^ 32 → seal_of key t ≡ seal_of other t → key ≡ other
unfolding seal_of
keys_are_one key other t k l e =
    let s = sum_of_bytes (short t) in
    let a = bit_xor key s in
    let b = bit_xor other s in
    let ends : group (bytes_of (little_endian 4 (a % 2 ^ 32))) ≡ group (bytes_of (little_endian 4 (b % 2 ^ 32))) =
    ap (λ x. group (bytes_of x)) (sym (low_bytes a)) ∙ e ∙ ap (λ x. group (bytes_of x)) (low_bytes b) in
    let low : a % 2 ^ 32 ≡ b % 2 ^ 32 = numbers.one_value (group (bytes_of (little_endian 4 (a % 2 ^ 32)))) (a % 2 ^ 32) (b % 2 ^ 32) (refl, omega arith) (ends, omega arith) in
    let parted : bit_xor (key % 2 ^ 32) (s % 2 ^ 32) ≡ bit_xor (other % 2 ^ 32) (s % 2 ^ 32) = sym (xor_mod key s 32) ∙ low ∙ xor_mod other s 32 in
    sym (small key k) ∙ gone (key % 2 ^ 32) (other % 2 ^ 32) (s % 2 ^ 32) parted ∙ small other l

-- one tree under two keys
of_one_tree : (takes : Tree → Type 0) (key other : ℕ) (t : Tree) → key < 2 ^ 32 → other < 2 ^ 32 → TakesSealed key takes t → TakesSealed other takes t → key ≡ other
of_one_tree takes key other (group (part t (part u end))) k l h g = keys_are_one key other t k l (sym h.1 ∙ g.1)
of_one_tree takes key other _ k l h g = absurd h

pub one_key : {A : Type 0} {takes : Tree → Type 0} {reads : Tree → A → Type 0} {refuses : List ℕ → Error → Type 0} {alike : A → A → Type 0} → ReadingLaws takes reads refuses alike → KeysDiffer takes
one_key {A} {takes} {reads} {refuses} {alike} laws key other t u front before rest behind k l h g p q e =
    let pairs : ReadingLaws {A = A × ℕ} (TakesPair takes (TakesFixed 4)) (ReadsPair reads (ReadsFixed (λ n. little_endian 4 n) (λ n. n < 2 ^ 32))) (RefusesPair takes refuses (TakesFixed 4) (IsShort 4)) (AlikePairs alike (λ v w. v ≡ w)) = pair_laws laws numbers in
    let same = pairs.once t u front before rest behind (as_pair key takes t h) (as_pair other takes u g) p q e in
    of_one_tree takes key other u k l (subst (TakesSealed key takes) (let x : t ≡ u = cc in x) h) g
