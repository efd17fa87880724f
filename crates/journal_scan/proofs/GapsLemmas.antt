-- Ranges of numbers, and what one number more makes of them.
use Rattle.std.proofs.Common.{◌≡◌, ◌↔◌, ◌⊎◌, ℕ, ◌+◌, ◌-◌, ◌^◌, ◌<◌, ◌≤◌, max, min, List, [], ◌∷◌, ◌++◌, Result, Ok, Err, refl, sym, ◌∙◌, subst, inl, inr, arith}
use Rattle.std.specs.Prelude.{OnErr}
use Rattle.std.specs.List.{Contains}
use Rattle.std.proofs.lemmas.Bool.{lt-ltb, le-ltb, cases_lt, cases_eq}
use Rattle.std.proofs.lemmas.List.{length-append}
use Rattle.std.proofs.lemmas.List.Elements.{Contains-push, Contains-push_cases, Contains-append_left, Contains-append_right, Contains-append_cases}
use Rattle.journal_scan.specs.Tallies.{Gap, behind_greatest, LiesIn, AreApart, behind_ranges, Tallies, gaps_without, gap_before}

-- ranges of two lists
pub lies_joined : (a b : List Gap) (k : ℕ) → LiesIn (a ++ b) k ↔ (LiesIn a k ⊎ LiesIn b k)
lies_joined [] b k = (λ h. inr h, λ h. elim h [ inl e ↦ absurd e | inr e ↦ e ])
lies_joined (g ∷ a) b k =
    let h = lies_joined a b k in (
      λ x. elim x [ inl e ↦ inl (inl e) | inr e ↦ elim (h.0 e) [ inl y ↦ inl (inr y) | inr y ↦ inr y ] ],
      λ x. elim x [ inl e ↦ elim e [ inl y ↦ inl y | inr y ↦ inr (h.1 (inl y)) ] | inr e ↦ inr (h.1 (inr e)) ],
    )

pub apart_front : (n : ℕ) (a b : List Gap) → AreApart n (a ++ b) → AreApart n a × AreApart (behind_ranges n a) b
apart_front n [] b h = (tt, h)
apart_front n (g ∷ a) b h = let k = apart_front (g.last + 2) a b h.2 in ((h.0, h.1, k.0), k.1)

pub apart_joined : (n : ℕ) (a b : List Gap) → AreApart n a → AreApart (behind_ranges n a) b → AreApart n (a ++ b)
apart_joined n [] b h k = k
apart_joined n (g ∷ a) b h k = (h.0, h.1, apart_joined (g.last + 2) a b h.2 k)

pub behind_joined : (n : ℕ) (a b : List Gap) → behind_ranges n (a ++ b) ≡ behind_ranges (behind_ranges n a) b
behind_joined n [] b = refl
behind_joined n (g ∷ a) b = behind_joined (g.last + 2) a b

pub apart_earlier : (n m : ℕ) (a : List Gap) → m ≤ n → AreApart n a → AreApart m a
apart_earlier n m [] l h = tt
apart_earlier n m (g ∷ a) l h = (omega (arith, l, h.0), h.1, h.2)

pub behind_earlier : (n m : ℕ) (a : List Gap) → m ≤ n → behind_ranges m a ≤ behind_ranges n a
behind_earlier n m [] l = l
behind_earlier n m (g ∷ a) l = omega arith

pub lies_behind : (n : ℕ) (a : List Gap) (k : ℕ) → AreApart n a → LiesIn a k → n ≤ k
lies_behind n [] k h l = absurd l
lies_behind n (g ∷ a) k h (inl e) = omega (arith, h.0, e.0)
lies_behind n (g ∷ a) k h (inr e) = omega (arith, h.0, h.1, lies_behind (g.last + 2) a k h.2 e)

pub behind_more : (n : ℕ) (a : List Gap) → AreApart n a → n ≤ behind_ranges n a
behind_more n [] h = omega arith
behind_more n (g ∷ a) h = omega (arith, h.0, h.1, behind_more (g.last + 2) a h.2)

pub lies_before : (n : ℕ) (a : List Gap) (k : ℕ) → AreApart n a → LiesIn a k → k + 2 ≤ behind_ranges n a
lies_before n [] k h l = absurd l
lies_before n (g ∷ a) k h (inl e) = omega (arith, e.1, behind_more (g.last + 2) a h.2)
lies_before n (g ∷ a) k h (inr e) = lies_before (g.last + 2) a k h.2 e

pub behind_push : (ns : List ℕ) (n : ℕ) → behind_greatest (ns ++ n ∷ []) ≡ max (behind_greatest ns) (min (n + 1) (2 ^ 64 - 1))
behind_push [] n = omega arith
behind_push (m ∷ ns) n = omega (arith, behind_push ns n)

not_in_none : (k : ℕ) → Contains {X = ℕ} [] k → ⊥
not_in_none k h = omega (arith, h.1)

contains_cases : (x : ℕ) (xs : List ℕ) (k : ℕ) → Contains (x ∷ xs) k → (x ≡ k) ⊎ Contains xs k
contains_cases x xs k h = elim (Contains-append_cases (x ∷ []) xs k h) [
  | inl e ↦ elim (Contains-push_cases [] x k e) [ inl y ↦ absurd (not_in_none k y) | inr y ↦ inl y ]
  | inr e ↦ inr e
]

-- a number is among these, or isn't
pub contains_or : (xs : List ℕ) (k : ℕ) → Contains xs k ⊎ (Contains xs k → ⊥)
contains_or [] k = inr (not_in_none k)
contains_or (x ∷ xs) k = elim (contains_or xs k) [
  | inl e ↦ inl (Contains-append_right (x ∷ []) xs k e)
  | inr e ↦ elim (cases_eq x k) [
    | inl y ↦ inl (subst (Contains (x ∷ xs)) y (Contains-append_left (x ∷ []) xs x (Contains-push [] x)))
    | inr y ↦ inr (λ h. elim (contains_cases x xs k h) [ inl z ↦ y z | inr z ↦ e z ])
  ]
]

-- the next number is behind each of them
pub contains_below : (ns : List ℕ) (k : ℕ) → Contains ns k → k < 2 ^ 64 - 1 → k < behind_greatest ns
contains_below [] k h l = absurd (not_in_none k h)
contains_below (n ∷ ns) k h l = elim (contains_cases n ns k h) [ inl e ↦ omega (arith, e, l) | inr e ↦ omega (arith, contains_below ns k e l) ]

-- the range of the numbers from one up to another
pub gap_is : (a b : ℕ) → a < b → gap_before a b ≡ record { first = a; last = b - 1 } ∷ []
gap_is a b l = rw (lt-ltb a b l) refl

pub no_gap : (a b : ℕ) → b ≤ a → gap_before a b ≡ []
no_gap a b l = rw (le-ltb a b l) refl

record IsRange (a b : ℕ) (w : List Gap) : Type 0 where
  inside : (k : ℕ) → LiesIn w k → (a ≤ k) × (k < b)
  all : (k : ℕ) → a ≤ k → k < b → LiesIn w k
  apart : (from : ℕ) → (a < b → from ≤ a) → AreApart from w
  behind : (from : ℕ) → (b ≤ a → from ≤ b + 1) → behind_ranges from w ≤ b + 1

is_range : (a b : ℕ) → IsRange a b (gap_before a b)
is_range a b = elim (cases_lt a b) [
  | inl l ↦ rw (gap_is a b l) record {
    inside = λ k. elim [ inl z ↦ (z.0, omega (arith, z, l)) | inr z ↦ absurd z ];
    all = λ k p q. inl (p, omega (arith, q));
    apart = λ from h. (h l, omega (arith, l), tt);
    behind = λ from h. omega (arith, l);
  }
  | inr l ↦ rw (no_gap a b l) record {
    inside = λ k z. absurd z;
    all = λ k p q. absurd (omega (arith, p, q, l));
    apart = λ from h. tt;
    behind = λ from h. h l;
  }
]

-- what is left of a range
record IsLeft (from n : ℕ) (g : Gap) (w : List Gap) : Type 0 where
  apart : AreApart from w
  behind : behind_ranges from w ≤ g.last + 2
  inside : (k : ℕ) → LiesIn w k → (g.first ≤ k) × (k ≤ g.last) × (k ≡ n → ⊥)
  all : (k : ℕ) → g.first ≤ k → k ≤ g.last → (k ≡ n → ⊥) → LiesIn w k

is_left : (from n : ℕ) (g : Gap) → from ≤ g.first → g.first ≤ n → n ≤ g.last → IsLeft from n g (gaps_without g n)
is_left from n g f l m =
    let low = gap_before g.first n in
    let high = gap_before (n + 1) (g.last + 1) in
    let a = is_range g.first n in
    let b = is_range (n + 1) (g.last + 1) in
    let before : behind_ranges from low ≤ n + 1 = a.behind from (λ _. omega (arith, f, l)) in
    let behind : behind_ranges (behind_ranges from low) high ≤ (g.last + 1) + 1 = b.behind (behind_ranges from low) (λ _. omega (arith, before, m)) in
    record {
      apart = apart_joined from low high (a.apart from (λ _. f)) (b.apart (behind_ranges from low) (λ _. before));
      behind = omega (arith, behind_joined from low high, behind);
      inside = λ k h. elim ((lies_joined low high k).0 h) [
        | inl z ↦ (let i = a.inside k z in (i.0, omega (arith, i, m), λ e. omega (arith, i, e)))
        | inr z ↦ (let i = b.inside k z in (omega (arith, i, l), omega (arith, i), λ e. omega (arith, i, e)))
      ];
      all = λ k p q r. elim (cases_lt k n) [
        | inl z ↦ (lies_joined low high k).1 (inl (a.all k p z))
        | inr z ↦ (lies_joined low high k).1 (inr (b.all k (omega (arith, z, r)) (omega (arith, q))))
      ];
    }

module _ {ns : List ℕ} {next : ℕ} {gaps : List Gap} {count : ℕ} (t : Tallies ns next gaps count) (n : ℕ) where
  -- with one number more
  tallied : (later : ℕ) (now : List Gap) → later ≡ max next (min (n + 1) (2 ^ 64 - 1)) → ((k : ℕ) → LiesIn now k → (k < later) × (Contains ns k → ⊥) × (n ≡ k → ⊥))
      → ((k : ℕ) → k < later → (Contains ns k → ⊥) → (n ≡ k → ⊥) → LiesIn now k) → AreApart 0 now → (later < 2 ^ 64 - 1 → behind_ranges 0 now ≤ later)
      → Tallies (ns ++ n ∷ []) later now (min (count + 1) (2 ^ 64 - 1))
  tallied later now e only all apart under = record {
    next_is = omega (arith, e, t.next_is, behind_push ns n);
    missing = λ k. (
      λ h. (let q = only k h in (q.0, λ c. elim (Contains-push_cases ns n k c) [ inl x ↦ q.1 x | inr x ↦ q.2 x ])),
      λ h. all k h.0 (λ c. h.1 (Contains-append_left ns (n ∷ []) k c)) (λ x. h.1 (subst (Contains (ns ++ n ∷ [])) x (Contains-push ns n))),
    );
    apart = apart;
    under = under;
    count_is = omega (arith, t.count_is, length-append ns (n ∷ []));
  }

  -- one that was counted before
  pub one_again : n < next → (LiesIn gaps n → ⊥) → Tallies (ns ++ n ∷ []) next gaps (min (count + 1) (2 ^ 64 - 1))
  one_again l none =
      tallied next gaps (omega (arith, l)) (λ k h. (let m = (t.missing k).0 h in (m.0, m.1, λ e. none (subst (LiesIn gaps) (sym e) h)))) (λ k p q r. (t.missing k).1 (p, q)) t.apart t.under

  pub was_counted : n < next → (LiesIn gaps n → ⊥) → Contains ns n
  was_counted l none = elim (contains_or ns n) [ inl e ↦ e | inr e ↦ absurd (none ((t.missing n).1 (l, e))) ]

  pub not_counted : next ≤ n → n < 2 ^ 64 - 1 → Contains ns n → ⊥
  not_counted l m h = omega (arith, l, t.next_is, contains_below ns n h m)

  -- one that isn't below the next one
  pub one_next : (later : ℕ) (now : List Gap) → next ≤ n → n < 2 ^ 64 → later ≡ min (n + 1) (2 ^ 64 - 1) → now ≡ gaps ++ gap_before next n → Tallies (ns ++ n ∷ []) later now (min (count + 1) (2 ^ 64 - 1))
  one_next later now l m later_is now_is =
      let w = gap_before next n in
      let a = is_range next n in
      rw now_is (tallied later (gaps ++ w) (omega (arith, later_is, l, m))
      (λ k h. elim ((lies_joined gaps w k).0 h) [
        | inl e ↦ (let q = (t.missing k).0 e in (omega (arith, later_is, q.0, l, m), q.1, λ x. omega (arith, x, q.0, l)))
        | inr e ↦ (let q = a.inside k e in (omega (arith, later_is, q, m), λ c. omega (arith, q, t.next_is, contains_below ns k c (omega (arith, q, m))), λ x. omega (arith, x, q)))
      ])
      (λ k p q r. elim (cases_lt k next) [
        | inl y ↦ (lies_joined gaps w k).1 (inl ((t.missing k).1 (y, q)))
        | inr y ↦ (lies_joined gaps w k).1 (inr (a.all k y (omega (arith, later_is, p, r))))
      ])
      (apart_joined 0 gaps w t.apart (a.apart (behind_ranges 0 gaps) (λ x. t.under (omega (arith, x, m)))))
      (λ x. (
      let b = behind_joined 0 gaps w in
      let c = a.behind (behind_ranges 0 gaps) (λ y. (let u = t.under (omega (arith, later_is, x, y, l)) in omega (arith, u, l))) in
      omega (arith, later_is, b, c, x))))

pub on_err_any : {T E : Type 0} (r : Result T E) (P : Type 0) → P → OnErr r P
on_err_any (Ok x) P p = tt
on_err_any (Err e) P p = p

-- a number in one of the ranges
module _ {ns : List ℕ} {next count : ℕ} (front rest : List Gap) (g : Gap) (n : ℕ) (t : Tallies ns next (front ++ (g ∷ rest)) count) (f : g.first ≤ n) (m : n ≤ g.last) where
  pub lies_here : LiesIn (front ++ (g ∷ rest)) n
  lies_here = (lies_joined front (g ∷ rest) n).1 (inr (inl (f, m)))

  pub one_late : Tallies (ns ++ n ∷ []) next (front ++ (gaps_without g n ++ rest)) (min (count + 1) (2 ^ 64 - 1))
  one_late =
      tallied t n next (front ++ (w ++ rest)) (omega (arith, ((t.missing n).0 lies_here).0)) (λ k h. (let q = old k h in let r = (t.missing k).0 q.0 in (r.0, r.1, λ e. q.1 (sym e)))) (λ k p q r. new k ((t.missing k).1 (p, q)) (λ e. r (sym e)))
      (apart_joined 0 front (w ++ rest) parts.0 (apart_joined (behind_ranges 0 front) w rest left.apart (apart_earlier (g.last + 2) (behind_ranges (behind_ranges 0 front) w) rest left.behind parts.1.2)))
      (λ x. (
      let b : behind_ranges 0 (front ++ (g ∷ rest)) ≡ behind_ranges (g.last + 2) rest = behind_joined 0 front (g ∷ rest) in
      let c : behind_ranges 0 (front ++ (w ++ rest)) ≡ behind_ranges (behind_ranges (behind_ranges 0 front) w) rest = behind_joined 0 front (w ++ rest) ∙ behind_joined (behind_ranges 0 front) w rest in
      let d = behind_earlier (g.last + 2) (behind_ranges (behind_ranges 0 front) w) rest left.behind in
      omega (arith, t.under x, b, c, d)))
    where
      w : List Gap
      w = gaps_without g n

      parts : AreApart 0 front × AreApart (behind_ranges 0 front) (g ∷ rest)
      parts = apart_front 0 front (g ∷ rest) t.apart

      left : IsLeft (behind_ranges 0 front) n g w
      left = is_left (behind_ranges 0 front) n g parts.1.0 f m

      old : (k : ℕ) → LiesIn (front ++ (w ++ rest)) k → LiesIn (front ++ (g ∷ rest)) k × (k ≡ n → ⊥)
      old k h = elim ((lies_joined front (w ++ rest) k).0 h) [
        | inl e ↦ ((lies_joined front (g ∷ rest) k).1 (inl e), λ q. omega (arith, q, lies_before 0 front k parts.0 e, parts.1.0, f))
        | inr e ↦ elim ((lies_joined w rest k).0 e) [
          | inl y ↦ (let z = left.inside k y in ((lies_joined front (g ∷ rest) k).1 (inr (inl (z.0, z.1))), z.2))
          | inr y ↦ ((lies_joined front (g ∷ rest) k).1 (inr (inr y)), λ q. omega (arith, q, lies_behind (g.last + 2) rest k parts.1.2 y, m))
        ]
      ]

      new : (k : ℕ) → LiesIn (front ++ (g ∷ rest)) k → (k ≡ n → ⊥) → LiesIn (front ++ (w ++ rest)) k
      new k h other = elim ((lies_joined front (g ∷ rest) k).0 h) [
        | inl e ↦ (lies_joined front (w ++ rest) k).1 (inl e)
        | inr e ↦ elim e [
          | inl y ↦ (lies_joined front (w ++ rest) k).1 (inr ((lies_joined w rest k).1 (inl (left.all k y.0 y.1 other))))
          | inr y ↦ (lies_joined front (w ++ rest) k).1 (inr ((lies_joined w rest k).1 (inr y)))
        ]
      ]
