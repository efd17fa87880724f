-- A map whose entries are ranges in order, and what looking, inserting and removing make of it.
use Rattle.std.proofs.Common.{◌≡◌, ℕ, min, ◌^◌, ◌+◌, ◌-◌, ◌<◌, ◌≤◌, Bool, true, false, not, List, [], ◌∷◌, ◌++◌, Some, None, refl, sym, ap, ◌∙◌, subst, inl, inr, append_assoc, append-nil, arith}
use Rattle.std.specs.Cmp.{nat_cmp_is}
use Rattle.std.specs.Ordering.{nat_cmp, is_lt}
use Rattle.std.specs.declared.cmp.Ordering.TheVariants.{Less, Equal, Greater}
use Rattle.std.specs.Map.{lookup, remove_entry}
use Rattle.std.specs.List.{All, Contains}
use Rattle.std.specs.BTreeMap.{insert_entry, is_at}
use Rattle.std.specs.BTreeMap.Range.{range_contains, entries_between}
use Rattle.std.specs.declared.ops.Bound.TheVariants.{Included, Unbounded}
use Rattle.std.proofs.lemmas.Bool.{cases_lt}
use Rattle.std.proofs.lemmas.List.Elements.{filter_passes, All-contains, Contains-push}
use Rattle.std.proofs.lemmas.Map.Keys.{ge_from_not_lt}
use Rattle.journal_scan.specs.Tallies.{Gap, gap, gaps_of, LiesIn, AreApart, IsGapAt, KeysBelow, Tallies, behind_ranges, gap_before, gaps_without}
use Rattle.journal_scan.proofs.GapsLemmas.{one_late, lies_here, behind_more, lies_behind, lies_before, lies_joined, apart_front, gap_is, no_gap}

is_less : (x y : ℕ) → x < y → nat_cmp x y ≡ Less
is_less x y l = sym (nat_cmp_is x y Less l)

is_same : (x : ℕ) → nat_cmp x x ≡ Equal
is_same x = sym (nat_cmp_is x x Equal refl)

is_greater : (x y : ℕ) → y < x → nat_cmp x y ≡ Greater
is_greater x y l = sym (nat_cmp_is x y Greater l)

pub gaps_joined : (xs ys : List (ℕ × ℕ)) → gaps_of (xs ++ ys) ≡ gaps_of xs ++ gaps_of ys
gaps_joined [] ys = refl
gaps_joined (e ∷ xs) ys = ap (λ z. gap e ∷ z) (gaps_joined xs ys)

-- the first key of what stands behind is above this number
abbrev pub IsBefore : ℕ → List (ℕ × ℕ) → Type 0
IsBefore k [] = Unit {0}
IsBefore k (e ∷ es) = k < e.0

pub keys_below : (n k : ℕ) (xs : List (ℕ × ℕ)) → AreApart n (gaps_of xs) → behind_ranges n (gaps_of xs) ≤ k + 1 → KeysBelow k xs
keys_below n k [] a b = tt
keys_below n k (e ∷ xs) a b = (omega (arith, a.1, behind_more (e.1 + 2) (gaps_of xs) a.2, b), keys_below (e.1 + 2) k xs a.2 b)

pub keys_more : (k : ℕ) (xs : List (ℕ × ℕ)) (e : ℕ × ℕ) → KeysBelow k xs → e.0 < k → KeysBelow k (xs ++ (e ∷ []))
keys_more k [] e a l = (l, tt)
keys_more k (x ∷ xs) e a l = (a.0, keys_more k xs e a.1 l)

pub keys_up : (k m : ℕ) (xs : List (ℕ × ℕ)) → KeysBelow k xs → k ≤ m → KeysBelow m xs
keys_up k m [] a l = tt
keys_up k m (x ∷ xs) a l = (omega (arith, a.0, l), keys_up k m xs a.1 l)

module _ (k v : ℕ) where
  -- a new key between others
  pub inserted : (xs ys : List (ℕ × ℕ)) → KeysBelow k xs → IsBefore k ys → insert_entry nat_cmp (xs ++ ys) k v ≡ xs ++ ((k, v) ∷ ys)
  inserted [] [] a c = refl
  inserted [] (e ∷ ys) a c = rw (is_less k e.0 c) refl
  inserted (e ∷ xs) ys a c = rw (is_greater k e.0 a.0) (ap (λ z. e ∷ z) (inserted xs ys a.1 c))

  -- a key that is there
  pub replaced : (w : ℕ) (xs ys : List (ℕ × ℕ)) → KeysBelow k xs → insert_entry nat_cmp (xs ++ ((k, w) ∷ ys)) k v ≡ xs ++ ((k, v) ∷ ys)
  replaced w [] ys a = rw (is_same k) refl
  replaced w (e ∷ xs) ys a = rw (is_greater k e.0 a.0) (ap (λ z. e ∷ z) (replaced w xs ys a.1))

  pub removed : (xs ys : List (ℕ × ℕ)) → KeysBelow k xs → remove_entry (is_at (nat_cmp k)) (xs ++ ((k, v) ∷ ys)) ≡ xs ++ ys
  removed [] ys a = rw (is_same k) refl
  removed (e ∷ xs) ys a = rw (is_greater k e.0 a.0) (ap (λ z. e ∷ z) (removed xs ys a.1))

  pub found : (xs ys : List (ℕ × ℕ)) → KeysBelow k xs → lookup (is_at (nat_cmp k)) (xs ++ ((k, v) ∷ ys)) ≡ Some v
  found [] ys a = rw (is_same k) refl
  found (e ∷ xs) ys a = rw (is_greater k e.0 a.0) (found xs ys a.1)

-- what a range of the map up to a number is: a front of it, and the number lies in none of the others
abbrev up_to : ℕ → List (ℕ × ℕ) → List (ℕ × ℕ)
up_to n xs = entries_between nat_cmp Unbounded (Included n) xs

record Splits (n : ℕ) (xs : List (ℕ × ℕ)) : Type 0 where
  rest : List (ℕ × ℕ)
  are : xs ≡ up_to n xs ++ rest
  none : LiesIn (gaps_of rest) n → ⊥

none_up_to : (n m : ℕ) (xs : List (ℕ × ℕ)) → AreApart m (gaps_of xs) → n < m → up_to n xs ≡ []
none_up_to n m [] a l = refl
none_up_to n m (e ∷ xs) a l = rw (is_less n e.0 (omega (arith, a.0, l))) (none_up_to n (e.1 + 2) xs a.2 (omega (arith, a.0, a.1, l)))

not_less : (n k : ℕ) → k ≤ n → is_lt (nat_cmp n k) ≡ false
not_less n k l = elim (cases_lt k n) [
  | inl q ↦ rw (is_greater n k q) refl
  | inr q ↦ (let e : k ≡ n = omega (arith, l, q) in subst (λ z. is_lt (nat_cmp n z) ≡ false) (sym e) (rw (is_same n) refl))
]

splits : (n m : ℕ) (xs : List (ℕ × ℕ)) → AreApart m (gaps_of xs) → Splits n xs
splits n m [] a = record { rest = []; are = refl; none = λ h. h }
splits n m (e ∷ xs) a = elim (cases_lt n e.0) [
  | inl l ↦ record {
    rest = e ∷ xs;
    are = rw (is_less n e.0 l) (sym (ap (λ z. z ++ (e ∷ xs)) (none_up_to n (e.1 + 2) xs a.2 (omega (arith, a.1, l)))));
    none = λ h. (let q = lies_behind e.0 (gaps_of (e ∷ xs)) n (omega arith, a.1, a.2) h in omega (arith, q, l));
  }
  | inr l ↦ (let s = splits n (e.1 + 2) xs a.2 in record {
    rest = s.rest;
    are = rw (not_less n e.0 l) (ap (λ z. e ∷ z) s.are);
    none = s.none;
  })
]

last_of : (P : ℕ × ℕ → Type 0) (t : List (ℕ × ℕ)) (e : ℕ × ℕ) → All P (t ++ (e ∷ [])) → P e
last_of P t e h = All-contains P (t ++ (e ∷ [])) e h (Contains-push t e)

passed : (n k : ℕ) → range_contains nat_cmp Unbounded (Included n) k ≡ true → is_lt (nat_cmp n k) ≡ false
passed n k = go (is_lt (nat_cmp n k))
  where
    go : (b : Bool) → not b ≡ true → b ≡ false
    go false h = refl
    go true h = cc

pub last_up_to : (n : ℕ) (xs t : List (ℕ × ℕ)) (e : ℕ × ℕ) → up_to n xs ≡ t ++ (e ∷ []) → e.0 ≤ n
last_up_to n xs t e last = ge_from_not_lt n e.0 (passed n e.0 (last_of (λ x. range_contains nat_cmp Unbounded (Included n) x.0 ≡ true) t e (subst (All (λ x. range_contains nat_cmp Unbounded (Included n) x.0 ≡ true)) last (filter_passes (λ x. range_contains nat_cmp Unbounded (Included n) x.0) xs))))

-- the last range of those that begin up to a number
module _ (n : ℕ) (xs t : List (ℕ × ℕ)) (e : ℕ × ℕ) (a : AreApart 0 (gaps_of xs)) (last : up_to n xs ≡ t ++ (e ∷ [])) where
  s : Splits n xs
  s = splits n 0 xs a

  are : xs ≡ t ++ (e ∷ s.rest)
  are = s.are ∙ ap (λ z. z ++ s.rest) last ∙ append_assoc t (e ∷ []) s.rest

  parts : AreApart 0 (gaps_of t) × AreApart (behind_ranges 0 (gaps_of t)) (gap e ∷ gaps_of s.rest)
  parts = apart_front 0 (gaps_of t) (gap e ∷ gaps_of s.rest) (subst (AreApart 0) (ap gaps_of are ∙ gaps_joined t (e ∷ s.rest)) a)

  pub lies_at : n ≤ e.1 → IsGapAt xs e n
  lies_at l = record { front = t; rest = s.rest; are = are; from = last_up_to n xs t e last; to = l }

  pub lies_past : e.1 < n → LiesIn (gaps_of xs) n → ⊥
  lies_past l h = elim ((lies_joined (gaps_of t) (gap e ∷ gaps_of s.rest) n).0 (subst (λ z. LiesIn z n) (ap gaps_of are ∙ gaps_joined t (e ∷ s.rest)) h)) [
    | inl y ↦ (let q = lies_before 0 (gaps_of t) n parts.0 y in omega (arith, q, parts.1.0, last_up_to n xs t e last))
    | inr y ↦ elim y [ inl z ↦ omega (arith, z.1, l) | inr z ↦ s.none z ]
  ]

pub lies_nowhere : (n : ℕ) (xs : List (ℕ × ℕ)) → AreApart 0 (gaps_of xs) → up_to n xs ≡ [] → LiesIn (gaps_of xs) n → ⊥
lies_nowhere n xs a none h = (let s = splits n 0 xs a in s.none (subst (λ z. LiesIn (gaps_of z) n) (s.are ∙ ap (λ z. z ++ s.rest) none) h))

-- a range that is left of one whose first number stays
pub shortened : (first n last : ℕ) (front rest old new : List (ℕ × ℕ)) → KeysBelow first front → old ≡ front ++ ((first, last) ∷ rest) → first < n → new ≡ insert_entry nat_cmp old first (n - 1)
    → gaps_of new ≡ gaps_of front ++ (gap_before first n ++ gaps_of rest)
shortened first n last front rest old new below are l is =
    ap gaps_of (is ∙ ap (λ z. insert_entry nat_cmp z first (n - 1)) are ∙ replaced first (n - 1) last front rest below) ∙ gaps_joined front ((first, n - 1) ∷ rest)
    ∙ ap (λ z. gaps_of front ++ (z ++ gaps_of rest)) (sym (gap_is first n l))

pub is_there : (first n last : ℕ) (front rest old : List (ℕ × ℕ)) → KeysBelow first front → old ≡ front ++ ((first, last) ∷ rest) → lookup (is_at (nat_cmp first)) old ≡ None → ⊥
is_there first n last front rest old below are none = (let e : Some last ≡ None = sym (found first last front rest below) ∙ ap (lookup (is_at (nat_cmp first))) (sym are) ∙ none in cc)

pub taken_out : (first n last : ℕ) (front rest old new : List (ℕ × ℕ)) → KeysBelow first front → old ≡ front ++ ((first, last) ∷ rest) → n ≤ first → new ≡ remove_entry (is_at (nat_cmp first)) old
    → gaps_of new ≡ gaps_of front ++ (gap_before first n ++ gaps_of rest)
taken_out first n last front rest old new below are l is =
    ap gaps_of (is ∙ ap (remove_entry (is_at (nat_cmp first))) are ∙ removed first last front rest below) ∙ gaps_joined front rest
    ∙ ap (λ z. gaps_of front ++ (z ++ gaps_of rest)) (sym (no_gap first n l))

-- the parts of ranges round one
module _ (first last : ℕ) (front rest old : List (ℕ × ℕ)) (a : AreApart 0 (gaps_of old)) (are : old ≡ front ++ ((first, last) ∷ rest)) where
  around : AreApart 0 (gaps_of front) × AreApart (behind_ranges 0 (gaps_of front)) (gap (first, last) ∷ gaps_of rest)
  around = apart_front 0 (gaps_of front) (gap (first, last) ∷ gaps_of rest) (subst (AreApart 0) (ap gaps_of are ∙ gaps_joined front ((first, last) ∷ rest)) a)

  pub below : KeysBelow first front
  below = keys_below 0 first (front) around.0 (omega (arith, around.1.0))

  before_rest : (n : ℕ) (xs : List (ℕ × ℕ)) → n < last → AreApart (last + 2) (gaps_of xs) → IsBefore (n + 1) xs
  before_rest n [] l q = tt
  before_rest n (e ∷ xs) l q = omega (arith, q.0, l)

  -- with a range behind a number in it
  pub parted : (n : ℕ) (mid : List (ℕ × ℕ)) → first ≤ n → n < last → mid ≡ insert_entry nat_cmp old (n + 1) last
      → mid ≡ front ++ ((first, last) ∷ ((n + 1, last) ∷ rest))
  parted n mid f l is =
      is ∙ ap (λ z. insert_entry nat_cmp z (n + 1) last) (are ∙ sym (append_assoc front ((first, last) ∷ []) rest))
      ∙ inserted (n + 1) last (front ++ ((first, last) ∷ [])) rest (keys_more (n + 1) front (first, last) (keys_up first (n + 1) front below (omega (arith, f))) (omega (arith, f))) (before_rest n rest l around.1.2)
      ∙ append_assoc front ((first, last) ∷ []) ((n + 1, last) ∷ rest)

  pub cut_inside : (n : ℕ) (new : List Gap) → n < last → new ≡ gaps_of front ++ (gap_before first n ++ gaps_of ((n + 1, last) ∷ rest))
      → new ≡ gaps_of front ++ (gaps_without (gap (first, last)) n ++ gaps_of rest)
  cut_inside n new l is =
      let high : gap_before (n + 1) (last + 1) ≡ gap (n + 1, last) ∷ [] = gap_is (n + 1) (last + 1) (omega (arith, l)) ∙ ap (λ m. gap (n + 1, m) ∷ []) (let e : (last + 1) - 1 ≡ last = omega arith in e) in
      is ∙ ap (λ z. gaps_of front ++ z) (ap (λ z. gap_before first n ++ (z ++ gaps_of rest)) (sym high) ∙ sym (append_assoc (gap_before first n) (gap_before (n + 1) (last + 1)) (gaps_of rest)))

  pub cut_end : (n : ℕ) (new : List Gap) → n ≤ last → last ≤ n → new ≡ gaps_of front ++ (gap_before first n ++ gaps_of rest)
      → new ≡ gaps_of front ++ (gaps_without (gap (first, last)) n ++ gaps_of rest)
  cut_end n new f l is =
      is ∙ ap (λ z. gaps_of front ++ z) (ap (λ z. z ++ gaps_of rest) (sym (ap (λ z. gap_before first n ++ z) (no_gap (n + 1) (last + 1) (omega (arith, l))) ∙ append-nil (gap_before first n))))

-- a range behind all
pub passed_to : (next n : ℕ) (old new : List (ℕ × ℕ)) → AreApart 0 (gaps_of old) → behind_ranges 0 (gaps_of old) ≤ next → next < n → new ≡ insert_entry nat_cmp old next (n - 1)
    → gaps_of new ≡ gaps_of old ++ gap_before next n
passed_to next n old new a b l is =
    ap gaps_of (is ∙ ap (λ z. insert_entry nat_cmp z next (n - 1)) (sym (append-nil old)) ∙ inserted next (n - 1) old [] (keys_below 0 next old a (omega (arith, b))) tt) ∙ gaps_joined old ((next, n - 1) ∷ [])
    ∙ ap (λ z. gaps_of old ++ z) (sym (gap_is next n l))

-- a number that one of the ranges has
module _ {ns : List ℕ} {next : ℕ} {entries : List (ℕ × ℕ)} {count : ℕ} (t : Tallies ns next (gaps_of entries) count) (g : ℕ × ℕ) (n : ℕ) (at : IsGapAt entries g n) where
  gaps : gaps_of entries ≡ gaps_of at.front ++ (gap g ∷ gaps_of at.rest)
  gaps = ap gaps_of at.are ∙ gaps_joined at.front (g ∷ at.rest)

  stands : Tallies ns next (gaps_of at.front ++ (gap g ∷ gaps_of at.rest)) count
  stands = subst (λ z. Tallies ns next z count) gaps t

  pub counted_late : (later : ℕ) (now : List Gap) → later ≡ next
      → ((front rest : List (ℕ × ℕ)) → AreApart 0 (gaps_of entries) → entries ≡ front ++ (g ∷ rest) → now ≡ gaps_of front ++ (gaps_without (gap g) n ++ gaps_of rest))
      → Tallies (ns ++ n ∷ []) later now (min (count + 1) (2 ^ 64 - 1))
  counted_late later now e h = rw e (rw (h at.front at.rest t.apart at.are) (one_late (gaps_of at.front) (gaps_of at.rest) (gap g) n stands at.from at.to))

  pub not_counted_late : Contains ns n → ⊥
  not_counted_late = ((stands.missing n).0 (lies_here (gaps_of at.front) (gaps_of at.rest) (gap g) n stands at.from at.to)).1
