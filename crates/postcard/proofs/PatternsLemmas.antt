-- The bytes of a short spelling are among those of any other.
use Rattle.std.proofs.Common.{◌≡◌, ℕ, zero, suc, ◌+◌, ◌*◌, ◌/◌, ◌%◌, ◌^◌, ◌<◌, ◌≤◌, List, [], ◌∷◌, ◌++◌, length, refl, sym, ◌∙◌, ap, subst, arith, inl, inr, append-nil, length-append}
use Rattle.std.specs.Char.{encode_utf8}
use Rattle.std.proofs.Math.Nat.{pow-suc, div-lt_iff_lt-mul}
use Rattle.std.proofs.lemmas.Bool.{cases_lt}
use Rattle.cobs.specs.Thinner.{IsThinner}
use Rattle.postcard_tree.specs.Number.{IsGrouped, grouped_value, Number}
use Rattle.postcard_tree.specs.Tree.{Tree, Trees, byte, number, character, sequence, group, end, part, IsWidth, IsTree, AreTrees, count_of}
use Rattle.postcard_tree.specs.Spelling.{groups_of, varint, single, short, short_all, Spells, SpellsAll}

-- a byte of the same kind on both sides
within_same : (x : ℕ) (a b : List ℕ) → IsThinner a b → IsThinner (x ∷ a) (x ∷ b)
within_same zero a b w = inl (inl (refl, refl, w))
within_same (suc x) a b w = inl (inr (omega arith, omega arith, w))

within_itself : (a : List ℕ) → IsThinner a a
within_itself [] = tt
within_itself (x ∷ a) = within_same x a a (within_itself a)

within_behind : (a x b : List ℕ) → IsThinner a b → IsThinner a (x ++ b)
within_behind a [] b w = w
within_behind [] (y ∷ x) b w = tt
within_behind (c ∷ a) (y ∷ x) b w = inr (within_behind (c ∷ a) x b w)

within_joined : (x y a b : List ℕ) → IsThinner a x → IsThinner b y → IsThinner (a ++ b) (x ++ y)
within_joined x y [] b w v = within_behind b x y v
within_joined [] y (c ∷ a) b w v = absurd w
within_joined (d ∷ x) y (c ∷ a) b (inl (inl w)) v = inl (inl (w.0, w.1, within_joined x y a b w.2 v))
within_joined (d ∷ x) y (c ∷ a) b (inl (inr w)) v = inl (inr (w.0, w.1, within_joined x y a b w.2 v))
within_joined (d ∷ x) y (c ∷ a) b (inr w) v = inr (within_joined x y (c ∷ a) b w v)

-- for one byte that isn't zero any other does
within_other : (s : List ℕ) (x y : ℕ) → 0 < x → 0 < y → IsThinner (x ∷ []) s → IsThinner (y ∷ []) s
within_other [] x y p q w = absurd w
within_other (d ∷ s) x y p q (inl (inl w)) = absurd (omega (arith, w.0))
within_other (d ∷ s) x y p q (inl (inr w)) = inl (inr (q, w.1, tt))
within_other (d ∷ s) x y p q (inr w) = inr (within_other s x y p q w)

-- Numbers

last_group : (fuel n : ℕ) → n < 128 → groups_of fuel n ≡ n ∷ []
last_group zero n h = refl
last_group (suc fuel) n h = grind arith

first_group : (fuel n : ℕ) → 128 ≤ n → groups_of (suc fuel) n ≡ (n % 128 + 128) ∷ groups_of fuel (n / 128)
first_group fuel n h = grind arith

-- one group, which stands first or, as a zero, behind padding
within_last : (b c n : ℕ) (bs : List ℕ) → 128 ≤ b → b % 128 + 128 * grouped_value (c ∷ bs) ≡ n → n < 128 → (grouped_value (c ∷ bs) ≡ 0 → IsThinner (0 ∷ []) (c ∷ bs)) → IsThinner (n ∷ []) (b ∷ c ∷ bs)
within_last b c zero bs h v l k = inr (k (omega (arith, v)))
within_last b c (suc n) bs h v l k = inl (inr (omega arith, omega arith, tt))

groups_within : (s : List ℕ) (fuel n : ℕ) → n < 128 ^ suc fuel → IsGrouped s → grouped_value s ≡ n → IsThinner (groups_of fuel n) s
groups_within [] fuel n h g v = absurd g
groups_within (b ∷ []) fuel n h g v =
    let e : b ≡ n = omega (arith, g, v) in
    let small : n < 128 = omega (arith, g, e) in
    subst (λ x. IsThinner x (b ∷ [])) (ap (λ x. x ∷ []) e ∙ sym (last_group fuel n small)) (within_itself (b ∷ []))
groups_within (b ∷ c ∷ bs) zero n h g v =
    let small : n < 128 = h in
    let v1 : b % 128 + 128 * grouped_value (c ∷ bs) ≡ n = v in
    subst (λ x. IsThinner x (b ∷ c ∷ bs)) (sym (last_group zero n small)) (within_last b c n bs g.0 v1 small
    (λ z. subst (λ x. IsThinner x (c ∷ bs)) (last_group zero 0 (omega arith)) (groups_within (c ∷ bs) zero 0 (omega arith) g.2 z)))
groups_within (b ∷ c ∷ bs) (suc fuel) n h g v =
    let v1 : b % 128 + 128 * grouped_value (c ∷ bs) ≡ n = v in
    elim (cases_lt n 128) [
      | inl small ↦ subst (λ x. IsThinner x (b ∷ c ∷ bs)) (sym (last_group (suc fuel) n small)) (within_last b c n bs g.0 v1 small
          (λ z. subst (λ x. IsThinner x (c ∷ bs)) (last_group zero 0 (omega arith)) (groups_within (c ∷ bs) zero 0 (omega arith) g.2 z)))
      | inr big ↦ (
          let q : grouped_value (c ∷ bs) ≡ n / 128 = omega (arith, v1) in
          let r : b ≡ n % 128 + 128 = omega (arith, v1, g.0, g.1) in
          let below : n / 128 < 128 ^ suc fuel = (div-lt_iff_lt-mul {k = 128} {x = n} {y = 128 ^ suc fuel} (omega arith)).1 (rw (pow-suc 128 (suc fuel)) at h) in
          subst (λ x. IsThinner x (b ∷ c ∷ bs)) (ap (λ x. x ∷ groups_of fuel (n / 128)) r ∙ sym (first_group fuel n big)) (within_same b (groups_of fuel (n / 128)) (c ∷ bs) (groups_within (c ∷ bs) fuel (n / 128) below g.2 q)))
    ]

fits_widest : (bits n : ℕ) → IsWidth bits → n < 2 ^ bits → n < 2 ^ 128
fits_widest bits n (inl e) h = let f : n < 2 ^ 16 = subst (λ w. n < 2 ^ w) e h in omega arith
fits_widest bits n (inr (inl e)) h = let f : n < 2 ^ 32 = subst (λ w. n < 2 ^ w) e h in omega arith
fits_widest bits n (inr (inr (inl e))) h = let f : n < 2 ^ 64 = subst (λ w. n < 2 ^ w) e h in omega arith
fits_widest bits n (inr (inr (inr e))) h = subst (λ w. n < 2 ^ w) e h

number_within : (bits n : ℕ) (s : List ℕ) → n < 2 ^ 128 → Number bits n s → IsThinner (varint n) s
unfolding varint
number_within bits n s w m = groups_within s 18 n (omega arith) m.grouped m.value

varint_one : (n : ℕ) → n < 128 → varint n ≡ n ∷ []
unfolding varint
varint_one n h = last_group 18 n h

-- Characters

length_encode : (c : ℕ) → length (encode_utf8 c) ≤ 4
unfolding encode_utf8
length_encode c = grind arith

some_encode : (c : ℕ) → 0 < length (encode_utf8 c)
unfolding encode_utf8
some_encode c = grind arith

character_within : (c : ℕ) (count text rest : List ℕ) → Number 64 (length text) count → length text ≤ 4 → text ≡ encode_utf8 c ++ rest → IsThinner (varint (length (encode_utf8 c)) ++ encode_utf8 c) (count ++ text)
character_within c count text rest m l e =
    let k = length (encode_utf8 c) in
    let most : k ≤ 4 = length_encode c in
    let some : 0 < k = some_encode c in
    let long : length text ≡ k + length rest = ap length e ∙ length-append (encode_utf8 c) rest in
    let one : IsThinner (length text ∷ []) count = subst (λ x. IsThinner x count) (varint_one (length text) (omega arith)) (number_within 64 (length text) count (omega arith) m) in
    let same : IsThinner (varint k) count = subst (λ x. IsThinner x count) (sym (varint_one k (omega arith))) (within_other count (length text) k (omega arith) some one) in
    let all : IsThinner (encode_utf8 c) text = subst (IsThinner (encode_utf8 c)) (sym e) (front (encode_utf8 c) rest) in
    within_joined count text (varint k) (encode_utf8 c) same all
  where
    front : (a x : List ℕ) → IsThinner a (a ++ x)
    front a x = subst (λ y. IsThinner y (a ++ x)) (append-nil a) (within_joined a x a [] (within_itself a) tt)

byte_within : (b : ℕ) → IsThinner (single b) (b ∷ [])
unfolding single
byte_within b = within_itself (b ∷ [])

mutual
  unfolding Spells SpellsAll

  pub keeps_pattern : (t : Tree) (s : List ℕ) → IsTree t → Spells t s → IsThinner (short t) s
  keeps_pattern (byte b) s i p = subst (IsThinner (single b)) (sym p) (byte_within b)
  keeps_pattern (number bits n) s i p = number_within bits n s (fits_widest bits n i.0 i.1) p
  keeps_pattern (character c) s i p = subst (IsThinner (short (character c))) (sym p.whole) (character_within c p.count p.text p.rest p.counted p.short p.first)
  keeps_pattern (sequence ts) s i p =
      subst (IsThinner (varint (count_of ts) ++ short_all ts)) (sym p.2) (within_joined p.0 p.1 (varint (count_of ts)) (short_all ts) (number_within 64 (count_of ts) p.0 (omega (arith, i.0)) p.3) (keeps_all ts p.1 i.1 p.4))
  keeps_pattern (group ts) s i p = keeps_all ts s i p

  keeps_all : (ts : Trees) (s : List ℕ) → AreTrees ts → SpellsAll ts s → IsThinner (short_all ts) s
  keeps_all end s i p = tt
  keeps_all (part t ts) s i p =
      subst (IsThinner (short t ++ short_all ts)) (sym p.2) (within_joined p.0 p.1 (short t) (short_all ts) (keeps_pattern t p.0 i.0 p.3) (keeps_all ts p.1 i.1 p.4))
