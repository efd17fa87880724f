-- What bounds the sizes of trees.
use Rattle.std.proofs.Common.{◌≡◌, ◌∙◌, ℕ, zero, suc, ◌+◌, ◌*◌, ◌/◌, ◌<◌, ◌≤◌, ◌⊎◌, inl, inr, List, [], ◌∷◌, ◌++◌, length, get_or, take, drop, map, max, Option, Some, None, refl, sym, ap, subst, arith, ⊎_elim, length-append}
use Rattle.std.specs.Prelude.{◌^◌, IfSome, MatchOption, SomeIff, slice_set}
use Rattle.std.specs.List.{slice_get}
use Rattle.std.proofs.Math.Nat.{mul-le-mul_left}
use Rattle.std.proofs.lemmas.List.{append-nil, drop_all, length-take-le, take_all, take_more}
use Rattle.std.proofs.lemmas.Bool.{cases_lt}
use Rattle.std.proofs.lemmas.Option.{slice_get_within}
use Rattle.postcard_tree.specs.Tree.{Tree, Trees, byte, number, character, sequence, group, end, part, count_of}
use Rattle.postcard_tree.specs.Spelling.{groups_of, varint, single, short, short_all}
use Rattle.postcard_tree.specs.Reading.{TakesBool, TakesByte, TakesOctet, TakesNumber, TakesCharacter, TakesTextUpTo, ReadsByte, ReadsAll, TakesAll, TakesUpTo, TakesOption, TakesArray, GroupOf, TakesVariant}
use Rattle.postcard_tree.specs.Fixed.{TakesFixed}
use Rattle.postcard.specs.Greatest.{greater_of, byte_within, within_16, within_32, within_64, within_128, character_within}
use Rattle.schema_table.specs.declared.node.Node.{Node}
use Rattle.schema_table.specs.declared.node.Node.TheVariants as node
use Rattle.schema_table.specs.Integers.{width_of}
use Rattle.schema_table.specs.Schemas.{TakesFields, TakesPayload, TakesNode, TakesPlace, SchemaTakes}
use Rattle.wire_lib.specs.Sizes.{IsAtMost, known_size, KnowsSizes, AreSizesOf, both, so_many, sum_size, variant_size, counted_size, node_size, node_bounded, AreByParts, HasSizeAt, HaveSizes, unknown_among}

-- Sizes

pub both_some : (a b : Option ℕ) (m : ℕ) → both a b ≡ Some m
    → (x : ℕ) × (y : ℕ) × (a ≡ Some x) × (b ≡ Some y) × (x + y ≡ m)
both_some None b m e = cc
both_some (Some a) None m e = cc
both_some (Some a) (Some b) m e = (a, b, refl, refl, cc)

pub both_is : (a b : Option ℕ) (x y m : ℕ) → a ≡ Some x → b ≡ Some y → x + y ≡ m → both a b ≡ Some m
both_is None b x y m p q e = cc
both_is (Some a) None x y m p q e = cc
both_is (Some a) (Some b) x y m p q e = let r : a ≡ x = cc in let s : b ≡ y = cc in let k : a + b ≡ m = omega arith in ap Some k

greatest_some : (a b : Option ℕ) (m : ℕ) → greater_of a b ≡ Some m
    → (x : ℕ) × (y : ℕ) × (a ≡ Some x) × (b ≡ Some y) × (max x y ≡ m)
greatest_some None b m e = cc
greatest_some (Some a) None m e = cc
greatest_some (Some a) (Some b) m e = (a, b, refl, refl, cc)

greatest_is : (a b : Option ℕ) (x y m : ℕ) → a ≡ Some x → b ≡ Some y → max x y ≡ m → greater_of a b ≡ Some m
greatest_is None b x y m p q e = cc
greatest_is (Some a) None x y m p q e = cc
greatest_is (Some a) (Some b) x y m p q e = let r : a ≡ x = cc in let s : b ≡ y = cc in let k : max a b ≡ m = omega arith in ap Some k

at_some : (takes : Tree → Type 0) (a m : ℕ) → Some a ≡ Some m → IsAtMost takes a → IsAtMost takes m
at_some takes a m e h = let q : a ≡ m = cc in subst (λ z. IsAtMost takes z) q h

-- one place more

pub sum_then : (sizes : List (Option ℕ)) (xs : List ℕ) (f a b m : ℕ) → sum_size sizes xs ≡ Some a
    → known_size sizes f ≡ Some b → a + b ≡ m → sum_size sizes (xs ++ f ∷ []) ≡ Some m
sum_then sizes [] f a b m e g s = let q : 0 ≡ a = cc in both_is (known_size sizes f) (Some 0) b 0 m g refl (omega (arith, q, s))
sum_then sizes (x ∷ xs) f a b m e g s =
    let p = both_some (known_size sizes x) (sum_size sizes xs) a e in
    both_is (known_size sizes x) (sum_size sizes (xs ++ f ∷ [])) p.0 (p.1 + b) m p.2 (sum_then sizes xs f p.1 b (p.1 + b) p.3 g refl) (omega (arith, p.4, s))

varint_at : (a b : ℕ) → a ≡ b → length (varint a) ≡ length (varint b)
varint_at a b e = ap (λ j. length (varint j)) e

pub variant_then : (sizes : List (Option ℕ)) (xs : List ℕ) (from p a b m : ℕ) → variant_size sizes from xs ≡ Some a
    → known_size sizes p ≡ Some b → max a (length (varint (from + length xs)) + b) ≡ m
    → variant_size sizes from (xs ++ p ∷ []) ≡ Some m
variant_then sizes [] from p a b m e g s =
    let q : 0 ≡ a = cc in
    let v = varint_at (from + 0) from (omega arith) in
    greatest_is (both (Some (length (varint from))) (known_size sizes p)) (Some 0) (length (varint from) + b) 0 m
    (both_is (Some (length (varint from))) (known_size sizes p) (length (varint from)) b (length (varint from) + b) refl g refl)
    refl (omega (arith, q, s, v))
variant_then sizes (x ∷ xs) from p a b m e g s =
    let o = greatest_some (both (Some (length (varint from))) (known_size sizes x)) (variant_size sizes (from + 1) xs) a e in
    let v = varint_at (from + (length xs + 1)) ((from + 1) + length xs) (omega arith) in
    let w = varint_at (from + length (x ∷ xs)) ((from + 1) + length xs) (omega arith) in
    let n = max o.1 (length (varint ((from + 1) + length xs)) + b) in
    greatest_is (both (Some (length (varint from))) (known_size sizes x)) (variant_size sizes (from + 1) (xs ++ p ∷ [])) o.0 n m o.2
    (variant_then sizes xs (from + 1) p o.1 b n o.3 g refl) (omega (arith, o.4, s, v, w))

-- of the places so far

pub sum_on : (sizes : List (Option ℕ)) (fields : List ℕ) (i total a m : ℕ) → i < length fields
    → sum_size sizes (take i fields) ≡ Some total → known_size sizes (get_or fields i 0) ≡ Some a → total + a ≡ m
    → sum_size sizes (take (i + 1) fields) ≡ Some m
sum_on sizes fields i total a m h e g s =
    subst (λ xs. sum_size sizes xs ≡ Some m) (sym (take_more fields i 0 h)) (sum_then sizes (take i fields) (get_or fields i 0) total a m e g s)

pub variant_on : (sizes : List (Option ℕ)) (payloads : List ℕ) (i most a m : ℕ) → i < length payloads
    → variant_size sizes 0 (take i payloads) ≡ Some most → known_size sizes (get_or payloads i 0) ≡ Some a
    → max most (length (varint i) + a) ≡ m → variant_size sizes 0 (take (i + 1) payloads) ≡ Some m
variant_on sizes payloads i most a m h e g s =
    let v = varint_at (0 + length (take i payloads)) i (omega (arith, length-take-le i payloads (omega arith))) in
    subst (λ xs. variant_size sizes 0 xs ≡ Some m) (sym (take_more payloads i 0 h))
    (variant_then sizes (take i payloads) 0 (get_or payloads i 0) most a m e g (omega (arith, s, v)))

-- all of the places

pub some_same : (a b : ℕ) (o : Option ℕ) → o ≡ Some a → o ≡ Some b → a ≡ b
some_same a b o e f = let g : Some a ≡ Some b = sym e ∙ f in cc g

pub sum_within : (sizes : List (Option ℕ)) (is : List ℕ) (i total m : ℕ) → sum_size sizes is ≡ Some m → i < length is
    → sum_size sizes (take i is) ≡ Some total → (x : ℕ) × (known_size sizes (get_or is i 0) ≡ Some x) × (total + x ≤ m)
sum_within sizes [] i total m e l t = absurd (omega (arith, l))
sum_within sizes (j ∷ is) zero total m e l t =
    let b = both_some (known_size sizes j) (sum_size sizes is) m e in
    let z : 0 ≡ total = cc t in
    (b.0, b.2, omega (arith, b.4, z))
sum_within sizes (j ∷ is) (suc i) total m e l t =
    let b = both_some (known_size sizes j) (sum_size sizes is) m e in
    let c = both_some (known_size sizes j) (sum_size sizes (take i is)) total t in
    let r = sum_within sizes is i c.1 b.1 b.3 (omega (arith, l)) c.3 in
    (r.0, r.1, omega (arith, r.2, b.4, c.4, some_same b.0 c.0 (known_size sizes j) b.2 c.2))

variant_from : (sizes : List (Option ℕ)) (is : List ℕ) (from i m : ℕ) → variant_size sizes from is ≡ Some m → i < length is
    → (x : ℕ) × (known_size sizes (get_or is i 0) ≡ Some x) × (length (varint (from + i)) + x ≤ m)
variant_from sizes [] from i m e l = absurd (omega (arith, l))
variant_from sizes (j ∷ is) from zero m e l =
    let s = greatest_some (both (Some (length (varint from))) (known_size sizes j)) (variant_size sizes (from + 1) is) m e in
    let b = both_some (Some (length (varint from))) (known_size sizes j) s.0 s.2 in
    let y : length (varint from) ≡ b.0 = cc (b.2) in
    (b.1, b.3, omega (arith, b.4, s.4, y, varint_at (from + 0) from (omega arith)))
variant_from sizes (j ∷ is) from (suc i) m e l =
    let s = greatest_some (both (Some (length (varint from))) (known_size sizes j)) (variant_size sizes (from + 1) is) m e in
    let r = variant_from sizes is (from + 1) i s.1 s.3 (omega (arith, l)) in
    (r.0, r.1, omega (arith, r.2, s.4, varint_at (from + suc i) ((from + 1) + i) (omega arith)))

pub variant_within : (sizes : List (Option ℕ)) (is : List ℕ) (i m : ℕ) → variant_size sizes 0 is ≡ Some m → i < length is
    → (x : ℕ) × (known_size sizes (get_or is i 0) ≡ Some x) × (length (varint i) + x ≤ m)
variant_within sizes is i m e l =
    let r = variant_from sizes is 0 i m e l in (r.0, r.1, omega (arith, r.2, varint_at (0 + i) i (omega arith)))

pub counted_within : (most : ℕ) (element : Option ℕ) (m : ℕ) → 0 < most → counted_size most element ≡ Some m
    → (x : ℕ) × (element ≡ Some x) × (x * most + length (varint most) ≡ m)
counted_within zero element m l e = absurd (omega (arith, l))
counted_within (suc n) None m l e = cc
counted_within (suc n) (Some x) m l e = (x, refl, cc)

pub many_within : (count : ℕ) (inner : Option ℕ) (m : ℕ) → 0 < count → so_many count inner ≡ Some m
    → (x : ℕ) × (inner ≡ Some x) × (x * count ≡ m)
many_within zero inner m l e = absurd (omega (arith, l))
many_within (suc n) None m l e = cc
many_within (suc n) (Some x) m l e = (x, refl, cc)

pub optional_within : (inner : Option ℕ) (m : ℕ) → both inner (Some 1) ≡ Some m → (x : ℕ) × (inner ≡ Some x) × (x + 1 ≡ m)
optional_within None m e = cc
optional_within (Some x) m e = (x, refl, cc)

-- what a sum or a product is that 64 bits don't hold
pub past_is : (a : ℕ) → (a < 2 ^ 64 → ⊥) → 2 ^ 64 ≤ a
past_is a h = ⊎_elim (λ l. absurd (h l)) (λ m. m) (cases_lt a (2 ^ 64))

pub past_64 : (r : Option ℕ) (a : ℕ) → SomeIff r (a < 2 ^ 64) a → r ≡ None → 2 ^ 64 ≤ a
past_64 None a h e = past_is a h
past_64 (Some x) a h e = cc

pub many_is : (count a : ℕ) (inner r : Option ℕ) → 0 < count → inner ≡ Some a → SomeIff r (a * count < 2 ^ 64) (a * count)
    → IfSome r (λ n. so_many count inner ≡ Some n)
many_is zero a inner r l e h = absurd (omega (arith, l))
many_is (suc n) a None r l e h = cc
many_is (suc n) a (Some x) None l e h = tt
many_is (suc n) a (Some x) (Some y) l e h = let q : x ≡ a = cc e in ap Some (ap (λ z. z * suc n) q ∙ sym h.1)

pub optional_is : (a : ℕ) (inner r : Option ℕ) → inner ≡ Some a → SomeIff r (a + 1 < 2 ^ 64) (a + 1) → IfSome r (λ n. both inner (Some 1) ≡ Some n)
optional_is a inner None e h = tt
optional_is a inner (Some y) e h = both_is inner (Some 1) a 1 y e refl (sym h.1)

-- no size at this place
pub none_within : {P : Type 0} (o : Option ℕ) → o ≡ None → (x : ℕ) → o ≡ Some x → P
none_within o e x f = let g : ◌≡◌ {A = Option ℕ} None (Some x) = sym e ∙ f in cc g

-- Counts

groups_grow : (fuel a b : ℕ) → a ≤ b → length (groups_of fuel a) ≤ length (groups_of fuel b)
groups_grow zero a b h = omega arith
groups_grow (suc fuel) a b h =
    ⊎_elim
    (λ small. let s : a < 128 = small in ⊎_elim (λ x. let y : b < 128 = x in grind arith) (λ x. let y : 128 ≤ b = x in grind arith) (cases_lt b 128))
    (λ big. let s : 128 ≤ a = big in let r = groups_grow fuel (a / 128) (b / 128) (omega arith) in grind (arith, r))
    (cases_lt a 128)

varint_grows : (a b : ℕ) → a ≤ b → length (varint a) ≤ length (varint b)
unfolding varint
varint_grows a b h = groups_grow 18 a b h

pub varint_of_none : length (varint 0) ≡ 1
unfolding varint
varint_of_none = refl

-- Leaves

length_single : (b : ℕ) → length (single b) ≡ 1
unfolding single
length_single b = refl

bool_at_most : IsAtMost TakesBool 1
bool_at_most (byte b) h = (byte_within b).at_most (byte b) 1 refl refl
bool_at_most t h = absurd h

byte_at_most : IsAtMost TakesByte 1
byte_at_most (byte b) h = (byte_within b).at_most (byte b) 1 refl refl
byte_at_most t h = absurd h

octet_at_most : IsAtMost TakesOctet 1
octet_at_most (byte b) h = (byte_within b).at_most (byte b) 1 refl refl
octet_at_most t h = absurd h

at_most_16 : IsAtMost (TakesNumber 16) 3
at_most_16 (number w n) h = (within_16 n h.1).at_most (number 16 n) 3 refl refl
at_most_16 t h = absurd h

at_most_32 : IsAtMost (TakesNumber 32) 5
at_most_32 (number w n) h = (within_32 n h.1).at_most (number 32 n) 5 refl refl
at_most_32 t h = absurd h

at_most_64 : IsAtMost (TakesNumber 64) 10
at_most_64 (number w n) h = (within_64 n h.1).at_most (number 64 n) 10 refl refl
at_most_64 t h = absurd h

at_most_128 : IsAtMost (TakesNumber 128) 19
at_most_128 (number w n) h = (within_128 n h.1).at_most (number 128 n) 19 refl refl
at_most_128 t h = absurd h

character_at_most : IsAtMost TakesCharacter 5
character_at_most (character c) h = (character_within c).at_most (character c) 5 refl refl
character_at_most t h = absurd h

-- Parts of one kind

longer : (a n : ℕ) (s t : List ℕ) → length s ≤ a → length t ≤ a * n → length (s ++ t) ≤ a * (n + 1)
longer a n s t h k = let e : a * (n + 1) ≡ a + a * n = omega arith in omega (arith, length-append s t, h, k, e)

all_at_most : (takes : Tree → Type 0) (a : ℕ) → IsAtMost takes a → (ts : Trees) → TakesAll takes ts
    → length (short_all ts) ≤ a * count_of ts
all_at_most takes a h end k = omega arith
all_at_most takes a h (part t ts) k = longer a (count_of ts) (short t) (short_all ts) (h t k.0) (all_at_most takes a h ts k.1)

none_left : (ts : Trees) → count_of ts ≤ 0 → length (short_all ts) ≤ 0
none_left end h = omega arith
none_left (part t ts) h = absurd (omega arith)

elements_at_most : (takes : Tree → Type 0) (size : Option ℕ) (n m : ℕ) → ((a : ℕ) → size ≡ Some a → IsAtMost takes a)
    → so_many n size ≡ Some m → (ts : Trees) → TakesAll takes ts → count_of ts ≤ n → length (short_all ts) ≤ m
elements_at_most takes size zero m h e ts k l = omega (arith, none_left ts l)
elements_at_most takes None (suc n) m h e ts k l = cc
elements_at_most takes (Some a) (suc n) m h e ts k l =
    let q : a * suc n ≡ m = cc in
    let r : a * count_of ts ≤ a * suc n = mul-le-mul_left a l in
    omega (arith, all_at_most takes a (h a refl) ts k, r, q)

counted_at_most : (takes : Tree → Type 0) (size : Option ℕ) (n m : ℕ) → ((a : ℕ) → size ≡ Some a → IsAtMost takes a)
    → counted_size n size ≡ Some m → (ts : Trees) → TakesAll takes ts → count_of ts ≤ n → length (short (sequence ts)) ≤ m
counted_at_most takes size n m h e ts k l =
    let s = both_some (so_many n size) (Some (length (varint n))) m e in
    let y : length (varint n) ≡ s.1 = cc (s.3) in
    omega (arith, length-append (varint (count_of ts)) (short_all ts), varint_grows (count_of ts) n l, elements_at_most takes size n s.0 h s.2 ts k l, y, s.4)

byte_taken : (t : Tree) (n : ℕ) → ReadsByte t n → TakesByte t
byte_taken (byte b) n h = tt
byte_taken t n h = absurd h

bytes_taken : (ts : Trees) (s : List ℕ) → ReadsAll ReadsByte ts s → TakesAll TakesByte ts
bytes_taken end [] h = tt
bytes_taken end (x ∷ xs) h = absurd h
bytes_taken (part t ts) [] h = absurd h
bytes_taken (part t ts) (x ∷ xs) h = (byte_taken t x h.0, bytes_taken ts xs h.1)

text_at_most : (n m : ℕ) → counted_size n (Some 1) ≡ Some m → IsAtMost (TakesTextUpTo n) m
text_at_most n m e (sequence ts) h = counted_at_most TakesByte (Some 1) n m (λ a q. at_some TakesByte 1 a q byte_at_most) e ts (bytes_taken ts h.0.0 h.0.1.1) h.1
text_at_most n m e t h = absurd h.1

upto_at_most : (takes : Tree → Type 0) (size : Option ℕ) (n m : ℕ) → ((a : ℕ) → size ≡ Some a → IsAtMost takes a)
    → counted_size n size ≡ Some m → IsAtMost (TakesUpTo n takes) m
upto_at_most takes size n m h e (sequence ts) k = counted_at_most takes size n m h e ts k.0.1 k.1
upto_at_most takes size n m h e t k = absurd k.1

array_at_most : (takes : Tree → Type 0) (size : Option ℕ) (n m : ℕ) → ((a : ℕ) → size ≡ Some a → IsAtMost takes a)
    → so_many n size ≡ Some m → IsAtMost (TakesArray n takes) m
array_at_most takes size n m h e (group ts) k = elements_at_most takes size n m h e ts k.0 (omega (arith, k.1))
array_at_most takes size n m h e t k = absurd k

fixed_at_most : (n : ℕ) → IsAtMost (TakesFixed n) n
fixed_at_most n (group ts) k = omega (arith, all_at_most TakesOctet 1 octet_at_most ts k.0, k.1)
fixed_at_most n t k = absurd k

-- Options, variants, fields

option_at_most : (takes : Tree → Type 0) (size : Option ℕ) (m : ℕ) → ((a : ℕ) → size ≡ Some a → IsAtMost takes a)
    → both size (Some 1) ≡ Some m → IsAtMost (TakesOption takes) m
option_at_most takes size m h e (byte b) k =
    let s = both_some size (Some 1) m e in
    let y : 1 ≡ s.1 = cc (s.3) in
    omega (arith, length_single b, y, s.4)
option_at_most takes size m h e (group (part (byte b) (part t end))) k =
    let s = both_some size (Some 1) m e in
    let y : 1 ≡ s.1 = cc (s.3) in
    omega (arith, length-append (single b) (short t ++ []), length-append (short t) [], length_single b, h s.0 s.2 t k.1, y, s.4)
option_at_most takes size m h e t k = absurd k

payload_at_most : (takes : ℕ → Tree → Type 0) (sizes : List (Option ℕ)) → KnowsSizes takes sizes → (is : List ℕ) (from m : ℕ)
    → variant_size sizes from is ≡ Some m → (i : ℕ) (t : Tree) → TakesPayload takes is i t
    → length (varint (from + i)) + length (short t) ≤ m
payload_at_most takes sizes k [] from m e i t h = absurd h
payload_at_most takes sizes k (p ∷ ps) from m e zero t h =
    let s = greatest_some (both (Some (length (varint from))) (known_size sizes p)) (variant_size sizes (from + 1) ps) m e in
    let b = both_some (Some (length (varint from))) (known_size sizes p) s.0 s.2 in
    let x : length (varint from) ≡ b.0 = cc (b.2) in
    let z = varint_at (from + 0) from (omega arith) in
    omega (arith, k p b.1 b.3 t h, x, z, b.4, s.4)
payload_at_most takes sizes k (p ∷ ps) from m e (suc i) t h =
    let s = greatest_some (both (Some (length (varint from))) (known_size sizes p)) (variant_size sizes (from + 1) ps) m e in
    let z = varint_at (from + suc i) ((from + 1) + i) (omega arith) in
    omega (arith, payload_at_most takes sizes k ps (from + 1) s.1 s.3 i t h, z, s.4)

variant_at_most : (takes : ℕ → Tree → Type 0) (sizes : List (Option ℕ)) → KnowsSizes takes sizes → (is : List ℕ) (m : ℕ)
    → variant_size sizes 0 is ≡ Some m → IsAtMost (TakesVariant (TakesPayload takes is)) m
variant_at_most takes sizes k is m e (group (part (number w i) (part t end))) h =
    let z = varint_at (0 + i) i (omega arith) in
    omega (arith, length-append (varint i) (short t ++ []), length-append (short t) [], payload_at_most takes sizes k is 0 m e i t h.2, z)
variant_at_most takes sizes k is m e t h = absurd h

fields_at_most : (takes : ℕ → Tree → Type 0) (sizes : List (Option ℕ)) → KnowsSizes takes sizes → (is : List ℕ) (m : ℕ)
    → sum_size sizes is ≡ Some m → (ts : Trees) → TakesFields takes is ts → length (short_all ts) ≤ m
fields_at_most takes sizes k [] m e end h = omega arith
fields_at_most takes sizes k [] m e (part t ts) h = absurd h
fields_at_most takes sizes k (i ∷ is) m e end h = absurd h
fields_at_most takes sizes k (i ∷ is) m e (part t ts) h =
    let b = both_some (known_size sizes i) (sum_size sizes is) m e in
    omega (arith, length-append (short t) (short_all ts), k i b.0 b.2 t h.0, fields_at_most takes sizes k is b.1 b.3 ts h.1, b.4)

struct_at_most : (takes : ℕ → Tree → Type 0) (sizes : List (Option ℕ)) → KnowsSizes takes sizes → (is : List ℕ) (m : ℕ)
    → sum_size sizes is ≡ Some m → IsAtMost (GroupOf (TakesFields takes is)) m
struct_at_most takes sizes k is m e (group ts) h = fields_at_most takes sizes k is m e ts h
struct_at_most takes sizes k is m e t h = absurd h

-- Nodes

pub node_at_most : (takes : ℕ → Tree → Type 0) (sizes : List (Option ℕ)) → KnowsSizes takes sizes → (n : Node) (m : ℕ)
    → node_size sizes n ≡ Some m → IsAtMost (TakesNode takes n) m
node_at_most takes sizes k node.Bool m e = at_some TakesBool 1 m e bool_at_most
node_at_most takes sizes k node.U8 m e = at_some TakesByte 1 m e byte_at_most
node_at_most takes sizes k node.I8 m e = at_some TakesOctet 1 m e octet_at_most
node_at_most takes sizes k node.U16 m e = at_some (TakesNumber 16) 3 m e at_most_16
node_at_most takes sizes k node.U32 m e = at_some (TakesNumber 32) 5 m e at_most_32
node_at_most takes sizes k node.U64 m e = at_some (TakesNumber 64) 10 m e at_most_64
node_at_most takes sizes k node.U128 m e = at_some (TakesNumber 128) 19 m e at_most_128
node_at_most takes sizes k node.I16 m e = at_some (TakesNumber 16) 3 m e at_most_16
node_at_most takes sizes k node.I32 m e = at_some (TakesNumber 32) 5 m e at_most_32
node_at_most takes sizes k node.I64 m e = at_some (TakesNumber 64) 10 m e at_most_64
node_at_most takes sizes k node.I128 m e = at_some (TakesNumber 128) 19 m e at_most_128
node_at_most takes sizes k (node.LE i) m e = at_some (TakesFixed (width_of i)) (width_of i) m e (fixed_at_most (width_of i))
node_at_most takes sizes k (node.BE i) m e = at_some (TakesFixed (width_of i)) (width_of i) m e (fixed_at_most (width_of i))
node_at_most takes sizes k node.Char m e = at_some TakesCharacter 5 m e character_at_most
node_at_most takes sizes k node.Text m e = cc
node_at_most takes sizes k (node.TextUpTo n) m e = text_at_most n m e
node_at_most takes sizes k node.Bytes m e = cc
node_at_most takes sizes k (node.Option i) m e = option_at_most (takes i) (known_size sizes i) m (k i) e
node_at_most takes sizes k (node.List i) m e = cc
node_at_most takes sizes k (node.ListUpTo n i) m e = upto_at_most (takes i) (known_size sizes i) n m (k i) e
node_at_most takes sizes k (node.Array n i) m e = array_at_most (takes i) (known_size sizes i) n m (k i) e
node_at_most takes sizes k (node.Struct is) m e = struct_at_most takes sizes k is.items m e
node_at_most takes sizes k (node.Enum is) m e = variant_at_most takes sizes k is.items m e

-- Tables

pub none_then : (sizes : List (Option ℕ)) → ((place : ℕ) → known_size sizes place ≡ None)
    → (place : ℕ) → known_size (sizes ++ None ∷ []) place ≡ None
none_then [] h zero = refl
none_then [] h (suc place) = refl
none_then (x ∷ xs) h zero = h 0
none_then (x ∷ xs) h (suc place) = none_then xs (λ p. h (suc p)) place

set_known : (sizes : List (Option ℕ)) (place : ℕ) (size : Option ℕ) (p m : ℕ) → known_size (slice_set sizes place size) p ≡ Some m
    → ((place ≡ p) × (size ≡ Some m)) ⊎ (known_size sizes p ≡ Some m)
set_known [] place size p m e = inr e
set_known (x ∷ xs) zero size zero m e = inl (refl, e)
set_known (x ∷ xs) zero size (suc p) m e = inr e
set_known (x ∷ xs) (suc place) size zero m e = inr e
set_known (x ∷ xs) (suc place) size (suc p) m e =
    ⊎_elim (λ s. inl (ap suc s.0, s.1)) (λ r. inr r) (set_known xs place size p m e)

-- sizes that are known in one table are so in another
abbrev Extends : List (Option ℕ) → List (Option ℕ) → Type 0
Extends old new = (p m : ℕ) → known_size old p ≡ Some m → known_size new p ≡ Some m

many_on : (count m : ℕ) (old new : Option ℕ) → ((x : ℕ) → old ≡ Some x → new ≡ Some x) → so_many count old ≡ Some m → so_many count new ≡ Some m
many_on zero m old new h e = e
many_on (suc n) m None new h e = cc
many_on (suc n) m (Some x) new h e = subst (λ o. so_many (suc n) o ≡ Some m) (sym (h x refl)) e

counted_on : (count m : ℕ) (old new : Option ℕ) → ((x : ℕ) → old ≡ Some x → new ≡ Some x) → counted_size count old ≡ Some m → counted_size count new ≡ Some m
counted_on count m old new h e =
    let b = both_some (so_many count old) (Some (length (varint count))) m e in
    both_is (so_many count new) (Some (length (varint count))) b.0 b.1 m (many_on count b.0 old new h b.2) b.3 b.4

optional_on : (m : ℕ) (old new : Option ℕ) → ((x : ℕ) → old ≡ Some x → new ≡ Some x) → both old (Some 1) ≡ Some m → both new (Some 1) ≡ Some m
optional_on m old new h e = let b = both_some old (Some 1) m e in both_is new (Some 1) b.0 b.1 m (h b.0 b.2) b.3 b.4

sum_kept : (old new : List (Option ℕ)) → Extends old new → (is : List ℕ) (m : ℕ) → sum_size old is ≡ Some m → sum_size new is ≡ Some m
sum_kept old new h [] m e = e
sum_kept old new h (i ∷ is) m e =
    let b = both_some (known_size old i) (sum_size old is) m e in
    both_is (known_size new i) (sum_size new is) b.0 b.1 m (h i b.0 b.2) (sum_kept old new h is b.1 b.3) b.4

variant_kept : (old new : List (Option ℕ)) → Extends old new → (is : List ℕ) (from m : ℕ) → variant_size old from is ≡ Some m → variant_size new from is ≡ Some m
variant_kept old new h [] from m e = e
variant_kept old new h (i ∷ is) from m e =
    let s = greatest_some (both (Some (length (varint from))) (known_size old i)) (variant_size old (from + 1) is) m e in
    let b = both_some (Some (length (varint from))) (known_size old i) s.0 s.2 in
    greatest_is (both (Some (length (varint from))) (known_size new i)) (variant_size new (from + 1) is) s.0 s.1 m
    (both_is (Some (length (varint from))) (known_size new i) b.0 b.1 s.0 b.2 (h i b.1 b.3) b.4)
    (variant_kept old new h is (from + 1) s.1 s.3) s.4

node_kept : (old new : List (Option ℕ)) → Extends old new → (n : Node) (m : ℕ) → node_size old n ≡ Some m → node_size new n ≡ Some m
node_kept old new h node.Bool m e = e
node_kept old new h node.U8 m e = e
node_kept old new h node.I8 m e = e
node_kept old new h node.U16 m e = e
node_kept old new h node.U32 m e = e
node_kept old new h node.U64 m e = e
node_kept old new h node.U128 m e = e
node_kept old new h node.I16 m e = e
node_kept old new h node.I32 m e = e
node_kept old new h node.I64 m e = e
node_kept old new h node.I128 m e = e
node_kept old new h (node.LE k) m e = e
node_kept old new h (node.BE k) m e = e
node_kept old new h node.Char m e = e
node_kept old new h node.Text m e = e
node_kept old new h (node.TextUpTo n) m e = e
node_kept old new h node.Bytes m e = e
node_kept old new h (node.Option i) m e = optional_on m (known_size old i) (known_size new i) (h i) e
node_kept old new h (node.List i) m e = e
node_kept old new h (node.ListUpTo n i) m e = counted_on n m (known_size old i) (known_size new i) (h i) e
node_kept old new h (node.Array n i) m e = many_on n m (known_size old i) (known_size new i) (h i) e
node_kept old new h (node.Struct is) m e = sum_kept old new h is.items m e
node_kept old new h (node.Enum is) m e = variant_kept old new h is.items 0 m e

-- one that wasn't known was set
set_extends : (sizes : List (Option ℕ)) (place : ℕ) (size : Option ℕ) → known_size sizes place ≡ None → Extends sizes (slice_set sizes place size)
set_extends [] place size e p m f = f
set_extends (x ∷ xs) zero size e zero m f = none_within x e m f
set_extends (x ∷ xs) zero size e (suc p) m f = f
set_extends (x ∷ xs) (suc place) size e zero m f = f
set_extends (x ∷ xs) (suc place) size e (suc p) m f = set_extends xs place size e p m f

pub set_fewer : (sizes : List (Option ℕ)) (place n : ℕ) → place < length sizes → known_size sizes place ≡ None
    → unknown_among (slice_set sizes place (Some n)) < unknown_among sizes
set_fewer [] place n l e = absurd (omega (arith, l))
set_fewer (None ∷ xs) zero n l e = omega arith
set_fewer (Some x ∷ xs) zero n l e = cc
set_fewer (None ∷ xs) (suc place) n l e = omega (arith, set_fewer xs place n (omega (arith, l)) e)
set_fewer (Some x ∷ xs) (suc place) n l e = set_fewer xs place n (omega (arith, l)) e

same_node : (a b : Node) (o : Option Node) → o ≡ Some a → o ≡ Some b → a ≡ b
same_node a b o e f = let g : Some a ≡ Some b = sym e ∙ f in cc g

-- a size was found by those of the types inside
pub parts_then : (nodes : List Node) (sizes : List (Option ℕ)) (place : ℕ) (n : Node) (m : ℕ) → AreByParts nodes sizes
    → slice_get nodes place ≡ Some n → known_size sizes place ≡ None → node_size sizes n ≡ Some m
    → AreByParts nodes (slice_set sizes place (Some m))
parts_then nodes sizes place n m h g none is = record {
  each = λ p q k at e.
      let new = slice_set sizes place (Some m) in
      let on = set_extends sizes place (Some m) none in
      ⊎_elim
      (λ here.
      let same : n ≡ k = same_node n k (slice_get nodes p) (subst (λ z. slice_get nodes z ≡ Some n) here.0 g) at in
      let size : node_size sizes k ≡ Some q = subst (λ z. node_size sizes z ≡ Some q) same (is ∙ here.1) in
      node_kept sizes new on k q size)
      (λ there. node_kept sizes new on k q (h.each p q k at there))
      (set_known sizes place (Some m) p q e);
}

-- sizes by those of the types inside are bounds
right_here : (nodes : List Node) (sizes : List (Option ℕ)) (depth p m : ℕ) (o : Option Node) → slice_get nodes p ≡ o → AreByParts nodes sizes
    → KnowsSizes (SchemaTakes depth nodes) sizes → known_size sizes p ≡ Some m → IsAtMost (TakesPlace (SchemaTakes depth nodes) o) m
right_here nodes sizes depth p m None g h k e t x = absurd x
right_here nodes sizes depth p m (Some n) g h k e t x = node_at_most (SchemaTakes depth nodes) sizes k n m (h.each p m n g e) t x

pub parts_right : (nodes : List Node) (sizes : List (Option ℕ)) → AreByParts nodes sizes → AreSizesOf nodes sizes
unfolding SchemaTakes
parts_right nodes sizes h zero p m e = λ t k. absurd k
parts_right nodes sizes h (suc depth) p m e = right_here nodes sizes depth p m (slice_get nodes p) refl h (parts_right nodes sizes h depth) e

-- the nodes so far, and one more
pub one_more_has : (nodes : List Node) (sizes : List (Option ℕ)) (place : ℕ) → ((p : ℕ) → p < place → HasSizeAt nodes sizes p) → HasSizeAt nodes sizes place
    → (p : ℕ) → p < place + 1 → HasSizeAt nodes sizes p
one_more_has nodes sizes place h k p l =
    ⊎_elim (λ b. h p b) (λ b. let e : place ≡ p = omega (arith, b, l) in subst (λ q. HasSizeAt nodes sizes q) e k) (cases_lt p place)

-- all nodes
pub all_have : (nodes : List Node) (sizes : List (Option ℕ)) (n : ℕ) → length nodes ≤ n → ((p : ℕ) → p < n → HasSizeAt nodes sizes p) → HaveSizes nodes sizes
all_have nodes sizes n l h p k g none = h p (omega (arith, l, slice_get_within nodes p k g)) k g none

-- Lists that are bounded

pub bounded_is : (s sizes : List (Option ℕ)) (most : ℕ) (r : Option ℕ) (n : Node) → s ≡ sizes
    → ((m : ℕ) → MatchOption r (node_bounded s m n ≡ n) (λ i. node_bounded s m n ≡ node.ListUpTo m i))
    → MatchOption r (node_bounded sizes most n ≡ n) (λ i. node_bounded sizes most n ≡ node.ListUpTo most i)
bounded_is s sizes most r n e h = subst (λ z. MatchOption r (node_bounded z most n ≡ n) (λ i. node_bounded z most n ≡ node.ListUpTo most i)) e (h most)

pub at_this : (r : Option ℕ) (P : Type 0) (Q : ℕ → Type 0) (i : ℕ) → MatchOption r P Q → r ≡ Some i → Q i
at_this r P Q i h e = subst (λ z. MatchOption z P Q) e h

pub at_none : (r : Option ℕ) (P : Type 0) (Q : ℕ → Type 0) → MatchOption r P Q → r ≡ None → P
at_none r P Q h e = subst (λ z. MatchOption z P Q) e h

pub all_mapped : (f : Node → Node) (len : ℕ) (loop items : List Node) (i : ℕ) → length loop ≡ length items → len ≡ length items
    → length items ≤ i → loop ≡ map f (take i items) ++ drop i items → take len (loop ++ drop (length loop) items) ≡ map f items
all_mapped f len loop items i a b c h =
    ap (λ d. take len (loop ++ d)) (drop_all (length loop) items (omega arith))
    ∙ ap (λ d. take len d) (append-nil loop)
    ∙ take_all len loop (omega arith)
    ∙ h
    ∙ ap (λ t. map f t ++ drop i items) (take_all i items c)
    ∙ ap (λ d. map f items ++ d) (drop_all i items c)
    ∙ append-nil (map f items)
