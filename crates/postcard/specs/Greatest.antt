-- How long the encoding of a value is at most.
use Rattle.std.specs.Prelude.{◌≡◌, ℕ, zero, suc, ◌+◌, ◌*◌, ◌/◌, ◌^◌, ◌<◌, ◌≤◌, List, [], ◌∷◌, ◌++◌, length, map, max, Option, Some, None, Result, Ok, Err, if◌then◌else◌, nat_lt, refl, MatchResult, IfSome}
use Rattle.std.specs.List.{All}
use Rattle.std.specs.Char.{encode_utf8}
use Rattle.std.proofs.Common.{◌∙◌, ap, subst, arith, ⊎_elim, length-append}
use Rattle.std.proofs.Math.Nat.{pow-suc, div-lt_iff_lt-mul, mul-le-mul_left}
use Rattle.std.proofs.lemmas.Bool.{cases_lt}
use Rattle.postcard_tree.specs.Tree.{Tree, Trees, byte, number, character, sequence, group, end, part, count_of, parts, with_part, group_of, sequence_of, option_writes, result_writes, bytes_of, text_of}
use Rattle.postcard_tree.specs.Spelling.{groups_of, varint, single, short, short_all}

-- a size, if `usize` holds it
abbrev pub size_of : ℕ → Option ℕ
size_of n = if nat_lt n (2 ^ 64) then Some n else None

-- the size of two parts together; none if one has none, or it exceeds `usize`
abbrev pub sum_of : Option ℕ → Option ℕ → Option ℕ
sum_of None b = None
sum_of (Some a) None = None
sum_of (Some a) (Some b) = size_of (a + b)

-- the greater of two sizes; none if one has none
abbrev pub greater_of : Option ℕ → Option ℕ → Option ℕ
greater_of None b = None
greater_of (Some a) None = None
greater_of (Some a) (Some b) = Some (max a b)

-- so many of this size
abbrev pub times : Option ℕ → ℕ → Option ℕ
times None n = None
times (Some a) n = size_of (a * n)

-- the sum of all
abbrev pub total : List (Option ℕ) → Option ℕ
total [] = Some 0
total (g ∷ gs) = sum_of g (total gs)

-- a value that writes this is encoded in at most so many bytes
pub record SizeWithin (o : Option Tree) (g : Option ℕ) : Type 0 where
  -- the shortest encoding of the tree is at most so long
  pub at_most : (t : Tree) (m : ℕ) → o ≡ Some t → g ≡ Some m → length (short t) ≤ m

-- the same for parts one after another
pub record AllWithin (os : List (Option Tree)) (gs : List (Option ℕ)) : Type 0 where
  -- the shortest encodings of the trees together are at most so long
  pub at_most : (ts : Trees) (m : ℕ) → parts os ≡ Some ts → total gs ≡ Some m
      → length (short_all ts) ≤ m

-- Sizes

size_of_is : (n m : ℕ) → size_of n ≡ Some m → n ≡ m
size_of_is n m e = grind (arith, e)

pub sum_some : (a b : Option ℕ) (m : ℕ) → sum_of a b ≡ Some m
    → (x : ℕ) × (y : ℕ) × (a ≡ Some x) × (b ≡ Some y) × (x + y ≡ m)
sum_some None b m e = cc
sum_some (Some a) None m e = cc
sum_some (Some a) (Some b) m e = (a, b, refl, refl, size_of_is (a + b) m e)

pub greater_some : (a b : Option ℕ) (m : ℕ) → greater_of a b ≡ Some m
    → (x : ℕ) × (y : ℕ) × (a ≡ Some x) × (b ≡ Some y) × (x ≤ m) × (y ≤ m)
greater_some None b m e = cc
greater_some (Some a) None m e = cc
greater_some (Some a) (Some b) m e = let k : max a b ≡ m = cc in (a, b, refl, refl, omega (arith, k), omega (arith, k))

times_some : (a : Option ℕ) (n m : ℕ) → times a n ≡ Some m → (x : ℕ) × (a ≡ Some x) × (x * n ≡ m)
times_some None n m e = cc
times_some (Some a) n m e = (a, refl, size_of_is (a * n) m e)

-- a tree that is no longer than so many bytes
tree_within : (u : Tree) (n : ℕ) → length (short u) ≤ n → SizeWithin (Some u) (Some n)
tree_within u n h = record { at_most = λ t m e g. let q : u ≡ t = cc in let r : n ≡ m = cc in subst (λ z. length (short z) ≤ m) q (omega (arith, h, r)) }

-- Bytes

length_single : (b : ℕ) → length (single b) ≡ 1
unfolding single
length_single b = refl

pub byte_within : (b : ℕ) → SizeWithin (Some (byte b)) (Some 1)
byte_within b = tree_within (byte b) 1 (omega (arith, length_single b))

-- Numbers

-- a number below 128 ^ suc k has at most suc k groups
groups_few : (fuel k n : ℕ) → n < 128 ^ suc k → length (groups_of fuel n) ≤ suc k
groups_few zero k n h = omega arith
groups_few (suc fuel) zero n h = let small : n < 128 = h in grind arith
groups_few (suc fuel) (suc k) n h =
    ⊎_elim
    (λ small. let s : n < 128 = small in grind arith)
    (λ big. let b : 128 ≤ n = big in let r = groups_few fuel k (n / 128) ((div-lt_iff_lt-mul {k = 128} {x = n} {y = 128 ^ suc k} (omega arith)).1 (rw (pow-suc 128 (suc k)) at h)) in grind (arith, r))
    (cases_lt n 128)

-- a greater number has no fewer groups
groups_grow : (fuel a b : ℕ) → a ≤ b → length (groups_of fuel a) ≤ length (groups_of fuel b)
groups_grow zero a b h = omega arith
groups_grow (suc fuel) a b h =
    ⊎_elim
    (λ small. let s : a < 128 = small in ⊎_elim (λ x. let y : b < 128 = x in grind arith) (λ x. let y : 128 ≤ b = x in grind arith) (cases_lt b 128))
    (λ big. let s : 128 ≤ a = big in let r = groups_grow fuel (a / 128) (b / 128) (omega arith) in grind (arith, r))
    (cases_lt a 128)

varint_few : (k n : ℕ) → n < 128 ^ suc k → length (varint n) ≤ suc k
unfolding varint
varint_few k n h = groups_few 18 k n h

varint_grows : (a b : ℕ) → a ≤ b → length (varint a) ≤ length (varint b)
unfolding varint
varint_grows a b h = groups_grow 18 a b h

pub within_16 : (n : ℕ) → n < 2 ^ 16 → SizeWithin (Some (number 16 n)) (Some 3)
within_16 n h = tree_within (number 16 n) 3 (varint_few 2 n (omega arith))

pub within_32 : (n : ℕ) → n < 2 ^ 32 → SizeWithin (Some (number 32 n)) (Some 5)
within_32 n h = tree_within (number 32 n) 5 (varint_few 4 n (omega arith))

pub within_64 : (n : ℕ) → n < 2 ^ 64 → SizeWithin (Some (number 64 n)) (Some 10)
within_64 n h = tree_within (number 64 n) 10 (varint_few 9 n (omega arith))

pub within_128 : (n : ℕ) → n < 2 ^ 128 → SizeWithin (Some (number 128 n)) (Some 19)
within_128 n h = tree_within (number 128 n) 19 (varint_few 18 n (omega arith))

-- Characters

length_encode : (c : ℕ) → length (encode_utf8 c) ≤ 4
unfolding encode_utf8
length_encode c = grind arith

pub character_within : (c : ℕ) → SizeWithin (Some (character c)) (Some 5)
character_within c =
    tree_within (character c) 5
    (omega (arith, length-append (varint (length (encode_utf8 c))) (encode_utf8 c), varint_few 0 (length (encode_utf8 c)) (omega (arith, length_encode c)), length_encode c))

-- Groups

pub none_within : AllWithin [] []
none_within = record { at_most = λ ts m e g. let q : end ≡ ts = cc in subst (λ u. length (short_all u) ≤ m) q (omega arith) }

with_part_some : (t : Tree) (p : Option Trees) (ts : Trees) → with_part t p ≡ Some ts
    → (us : Trees) × (p ≡ Some us) × (part t us ≡ ts)
with_part_some t None ts e = cc
with_part_some t (Some us) ts e = (us, refl, cc)

parts_some : (o : Option Tree) (os : List (Option Tree)) (ts : Trees) → parts (o ∷ os) ≡ Some ts
    → (t : Tree) × (us : Trees) × (o ≡ Some t) × (parts os ≡ Some us) × (part t us ≡ ts)
parts_some None os ts e = cc
parts_some (Some t) os ts e = let p = with_part_some t (parts os) ts e in (t, p.0, refl, p.1, p.2)

pub part_within : {o : Option Tree} {os : List (Option Tree)} {g : Option ℕ} {gs : List (Option ℕ)}
    → SizeWithin o g → AllWithin os gs → AllWithin (o ∷ os) (g ∷ gs)
part_within {o} {os} {g} {gs} one more = record {
  at_most = λ ts m e q.
      let p = parts_some o os ts e in
      let s = sum_some g (total gs) m q in
      subst (λ u. length (short_all u) ≤ m) p.4 (omega (arith, length-append (short p.0) (short_all p.1), one.at_most p.0 s.0 p.2 s.2, more.at_most p.1 s.1 p.3 s.3, s.4));
}

group_some : (p : Option Trees) (t : Tree) → group_of p ≡ Some t
    → (ts : Trees) × (p ≡ Some ts) × (group ts ≡ t)
group_some None t e = cc
group_some (Some ts) t e = (ts, refl, cc)

pub group_within : {os : List (Option Tree)} {gs : List (Option ℕ)} → AllWithin os gs
    → SizeWithin (group_of (parts os)) (total gs)
group_within {os} {gs} all = record {
  at_most = λ t m e q. let p = group_some (parts os) t e in subst (λ u. length (short u) ≤ m) p.2 (all.at_most p.0 m p.1 q);
}

pub end_within : SizeWithin (Some (group end)) (Some 0)
end_within = tree_within (group end) 0 (omega arith)

-- a part of known size before a value
pub first_then : (u : Tree) (n : ℕ) {o : Option Tree} {g : Option ℕ} → length (short u) ≤ n
    → SizeWithin o g → (t : Tree) (x m : ℕ) → group_of (parts (Some u ∷ o ∷ [])) ≡ Some t
    → g ≡ Some x → x + n ≤ m → length (short t) ≤ m
first_then u n {o} {g} h one t x m e q l =
    let p = group_some (parts (Some u ∷ o ∷ [])) t e in
    let f = parts_some (Some u) (o ∷ []) p.0 p.1 in
    let i : u ≡ f.0 = cc (f.2) in
    let s = parts_some o [] f.1 f.3 in
    let j : end ≡ s.1 = cc (s.3) in
    let a : length (short f.0) ≤ n = subst (λ z. length (short z) ≤ n) i h in
    let b : length (short_all s.1) ≤ 0 = subst (λ z. length (short_all z) ≤ 0) j (omega arith) in
    let c : length (short_all f.1) ≤ x = subst (λ z. length (short_all z) ≤ x) s.4 (omega (arith, length-append (short s.0) (short_all s.1), one.at_most s.0 x s.2 q, b)) in
    let d : length (short_all p.0) ≤ m = subst (λ z. length (short_all z) ≤ m) f.4 (omega (arith, length-append (short f.0) (short_all f.1), a, c, l)) in
    subst (λ z. length (short z) ≤ m) p.2 d

pub option_within : {A : Type 0} (V : A → Type 0) (w : A → Option Tree) (g : Option ℕ)
    → ((v : A) → V v → SizeWithin (w v) g) → (o : Option A) → IfSome o V
    → SizeWithin (option_writes w o) (sum_of g (Some 1))
option_within V w g one None h = record {
  at_most = λ t m e q. let s = sum_some g (Some 1) m q in let k : byte 0 ≡ t = cc in let y : 1 ≡ s.1 = cc (s.3) in subst (λ u. length (short u) ≤ m) k (omega (arith, length_single 0, s.4, y));
}
option_within V w g one (Some v) h = record {
  at_most = λ t m e q. let s = sum_some g (Some 1) m q in let y : 1 ≡ s.1 = cc (s.3) in first_then (byte 1) 1 (omega (arith, length_single 1)) (one v h) t s.0 m e s.2 (omega (arith, s.4, y));
}

pub result_within : {A B : Type 0} (V : A → Type 0) (W : B → Type 0) (wa : A → Option Tree)
    (wb : B → Option Tree) (g h : Option ℕ)
    → ((v : A) → V v → SizeWithin (wa v) g) → ((v : B) → W v → SizeWithin (wb v) h)
    → (r : Result A B) → MatchResult r V W
    → SizeWithin (result_writes wa wb r) (sum_of (greater_of g h) (Some 1))
result_within V W wa wb g h one two (Ok v) k = record {
  at_most = λ t m e q.
      let s = sum_some (greater_of g h) (Some 1) m q in
      let y : 1 ≡ s.1 = cc (s.3) in
      let b = greater_some g h s.0 s.2 in
      first_then (number 32 0) 1 (varint_few 0 0 (omega arith)) (one v k) t b.0 m e b.2 (omega (arith, s.4, y, b.4));
}
result_within V W wa wb g h one two (Err v) k = record {
  at_most = λ t m e q.
      let s = sum_some (greater_of g h) (Some 1) m q in
      let y : 1 ≡ s.1 = cc (s.3) in
      let b = greater_some g h s.0 s.2 in
      first_then (number 32 1) 1 (varint_few 0 1 (omega arith)) (two v k) t b.1 m e b.3 (omega (arith, s.4, y, b.5));
}

-- Elements

first_valid : {A : Type 0} (V : A → Type 0) (x : A) (xs : List A) → All V (x ∷ xs) → V x
first_valid V x xs h = h 0 x (omega arith)

rest_valid : {A : Type 0} (V : A → Type 0) (x : A) (xs : List A) → All V (x ∷ xs) → All V xs
rest_valid V x xs h = λ k d l. h (suc k) d (omega (arith, l))

longer : (a n : ℕ) (s t : List ℕ) → length s ≤ a → length t ≤ a * n → length (s ++ t) ≤ a * suc n
longer a n s t h k = let e : a * suc n ≡ a + a * n = omega arith in omega (arith, length-append s t, h, k, e)

elements_within : {A : Type 0} (V : A → Type 0) (w : A → Option Tree) (g : Option ℕ) (a : ℕ)
    → g ≡ Some a → ((v : A) → V v → SizeWithin (w v) g) → (xs : List A) → All V xs
    → (ts : Trees) → parts (map w xs) ≡ Some ts
    → (length (short_all ts) ≤ a * length xs) × (count_of ts ≡ length xs)
elements_within V w g a k one [] h ts e = let q : end ≡ ts = cc in subst (λ u. (length (short_all u) ≤ a * 0) × (count_of u ≡ 0)) q (omega arith, refl)
elements_within V w g a k one (x ∷ xs) h ts e =
    let p = parts_some (w x) (map w xs) ts e in
    let r = elements_within V w g a k one xs (rest_valid V x xs h) p.1 p.3 in
    let f = (one x (first_valid V x xs h)).at_most p.0 a p.2 k in
    subst (λ u. (length (short_all u) ≤ a * length (x ∷ xs)) × (count_of u ≡ length (x ∷ xs))) p.4 (longer a (length xs) (short p.0) (short_all p.1) f r.0, omega (arith, r.1))

pub array_within : {A : Type 0} (V : A → Type 0) (w : A → Option Tree) (g : Option ℕ) (n : ℕ)
    → ((v : A) → V v → SizeWithin (w v) g) → (xs : List A) → length xs ≡ n → All V xs
    → SizeWithin (group_of (parts (map w xs))) (times g n)
array_within V w g n one xs l h = record {
  at_most = λ t m e q.
      let s = times_some g n m q in
      let p = group_some (parts (map w xs)) t e in
      let r = (elements_within V w g s.0 s.1 one xs h p.0 p.1).0 in
      subst (λ z. length (short z) ≤ m) p.2 (subst (λ z. length (short_all p.0) ≤ z) (ap (λ z. s.0 * z) l ∙ s.2) r);
}

sequence_some : (p : Option Trees) (t : Tree) → sequence_of p ≡ Some t
    → (ts : Trees) × (p ≡ Some ts) × (sequence ts ≡ t)
sequence_some None t e = cc
sequence_some (Some ts) t e = (ts, refl, cc)

fewer_times : (a b n : ℕ) → b ≤ n → a * b ≤ a * n
fewer_times a b n h = mul-le-mul_left a h

pub sequence_within : {A : Type 0} (V : A → Type 0) (w : A → Option Tree) (g : Option ℕ) (n : ℕ)
    → ((v : A) → V v → SizeWithin (w v) g) → (xs : List A) → length xs ≤ n → All V xs
    → SizeWithin (sequence_of (parts (map w xs))) (sum_of (times g n) (Some (length (varint n))))
sequence_within V w g n one xs l h = record {
  at_most = λ t m e q.
      let s = sum_some (times g n) (Some (length (varint n))) m q in
      let y : length (varint n) ≡ s.1 = cc (s.3) in
      let u = times_some g n s.0 s.2 in
      let p = sequence_some (parts (map w xs)) t e in
      let r = elements_within V w g u.0 u.1 one xs h p.0 p.1 in
      subst (λ z. length (short z) ≤ m) p.2
      (omega (arith, length-append (varint (count_of p.0)) (short_all p.0), varint_grows (count_of p.0) n (omega (arith, r.1, l)), r.0, fewer_times u.0 (length xs) n l, u.2, s.4, y));
}

bytes_short : (bs : List ℕ) → length (short_all (bytes_of bs)) ≡ length bs
bytes_short [] = refl
bytes_short (b ∷ bs) = omega (arith, length-append (single b) (short_all (bytes_of bs)), length_single b, bytes_short bs)

bytes_count : (bs : List ℕ) → count_of (bytes_of bs) ≡ length bs
bytes_count [] = refl
bytes_count (b ∷ bs) = omega (arith, bytes_count bs)

pub text_within : (n : ℕ) (bs : List ℕ) → length bs ≤ n
    → SizeWithin (Some (text_of bs)) (sum_of (Some n) (Some (length (varint n))))
text_within n bs l = record {
  at_most = λ t m e q.
      let s = sum_some (Some n) (Some (length (varint n))) m q in
      let x : n ≡ s.0 = cc (s.2) in
      let y : length (varint n) ≡ s.1 = cc (s.3) in
      let k : text_of bs ≡ t = cc in
      subst (λ z. length (short z) ≤ m) k
      (omega (arith, length-append (varint (count_of (bytes_of bs))) (short_all (bytes_of bs)), bytes_short bs, varint_grows (count_of (bytes_of bs)) n (omega (arith, bytes_count bs, l)), l, x, y, s.4));
}

pub fixed_within : (bs : List ℕ) (n : ℕ) → length bs ≡ n
    → SizeWithin (Some (group (bytes_of bs))) (Some n)
fixed_within bs n l = tree_within (group (bytes_of bs)) n (omega (arith, bytes_short bs, l))
