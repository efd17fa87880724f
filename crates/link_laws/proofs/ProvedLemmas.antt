-- The laws of a link.
use Rattle.std.proofs.Common.{◌≡◌, ℕ, ◌+◌, ◌-◌, ◌≤◌, List, [], ◌∷◌, ◌++◌, length, take, refl, sym, ap, ◌∙◌, subst, inl, inr, ◌⊎◌, arith, append_assoc}
use Rattle.std.specs.Prelude.{◌==◌, bit_xor, cond}
use Rattle.std.specs.List.{AllZip}
use Rattle.std.proofs.lemmas.Bool.{le-ltb, lt-ltb, eq-eqb, ne_eqb, cases_lt, cases_eq}
use Rattle.std.proofs.lemmas.List.{append-nil, length-append, length-map, take_at}
use Rattle.std.proofs.lemmas.List.Sums.{sum_by-cons}
use Rattle.std.proofs.lemmas.Slice.Zip.{AllZip-long}
use Rattle.cobs.specs.Frames.{NoZero}
use Rattle.cobs.specs.Sentinel.{masked}
use Rattle.postcard_tree.specs.Tree.{Tree}
use Rattle.postcard.specs.Frames.{Holds}
use Rattle.link.specs.Stream.{Verdict, damaged, HoldsExactly, IsAnswer, Given, Answers, begun_answers, ended, unfinished}
use Rattle.link.specs.Run.{line, told}
use Rattle.link.specs.Laws.{IsTold, HasOneAnswer, EndsBetween, Appends, through_last, behind_first, sentinels, HasBetween, IsLocal, StartsAnywhere, IsDamagedInFronts}
use Rattle.link.specs.Lemmas.Facts.{Facts, Breaking, front_holds_nothing, holds_it, exactly_holds, one_tree, one_tree_exactly, one_answer}
use Rattle.link.specs.Lemmas.Pieces.{UpToLast, ends_at, ended_count, none_unfinished, isn't_sentinel}
use Rattle.link.specs.Lemmas.HeardLaws.{IsOne, heard_once, heard_joined, heard_parts, at_end, empty_ending}
use Rattle.link_laws.proofs.TellingLemmas.{Holding, told_of_run}

pub once : (holds : List ℕ → Tree → Type 0) (limit s : ℕ) → IsOne holds → HasOneAnswer holds limit s
once holds limit s one = record {
  given = heard_once (IsAnswer holds limit) _ s (one_answer holds limit one);
  whole = heard_once (IsAnswer holds limit) _ s (one_answer holds limit one);
}

ordinarily : (takes : Tree → Type 0) → Facts takes → Holding takes (Holds takes)
ordinarily takes facts = record { whole = holds_it takes facts; ordinary = λ p t h. h }

exactly : (takes : Tree → Type 0) → Facts takes → Holding takes (HoldsExactly takes)
exactly takes facts = record { whole = λ t h. (h, refl); ordinary = exactly_holds takes facts }

module _ (takes : Tree → Type 0) (facts : Facts takes) (breaking : Breaking takes) (limit s : ℕ) where
  pub is_told : IsTold takes (Holds takes) limit s
  is_told run answers d =
      let h = told_of_run takes facts breaking (Holds takes) (ordinarily takes facts) limit s run d in (
        λ k. (once (Holds takes) limit s (one_tree takes facts)).whole (line s run) answers (told s run) k h,
        λ e. subst (λ x. Answers (Holds takes) limit s (line s run) x) (sym e) h,
      )

  pub is_told_exactly : IsTold takes (HoldsExactly takes) limit s
  is_told_exactly run answers d =
      let h = told_of_run takes facts breaking (HoldsExactly takes) (exactly takes facts) limit s run d in (
        λ k. (once (HoldsExactly takes) limit s (one_tree_exactly takes facts)).whole (line s run) answers (told s run) k h,
        λ e. subst (λ x. Answers (HoldsExactly takes) limit s (line s run) x) (sym e) h,
      )

  pub fronts_damaged : IsDamagedInFronts takes limit
  fronts_damaged t front rest answer h e n m l =
      let d : IsAnswer (Holds takes) limit front damaged = (l, front_holds_nothing takes facts breaking t front rest h e m) in (
        λ k. one_answer (Holds takes) limit (one_tree takes facts) front answer damaged k d,
        λ k. subst (λ y. IsAnswer (Holds takes) limit front y) (sym k) d,
      )

pub none_begun : (limit : ℕ) → begun_answers limit [] ≡ []
none_begun limit = rw (le-ltb limit 0 (omega arith)) refl

short_end : (limit : ℕ) (p : List ℕ) → length (at_end limit p) ≤ 1
short_end limit [] = omega (arith, ap length (empty_ending limit))
short_end limit (b ∷ p) = elim (cases_lt limit (length (b ∷ p))) [
  | inl l ↦ rw (lt-ltb limit (length (b ∷ p)) l) (omega arith)
  | inr l ↦ rw (le-ltb limit (length (b ∷ p)) l) (omega arith)
]

module _ (s : ℕ) where
  sentinels_cons : (b : ℕ) (x : List ℕ) → sentinels s (b ∷ x) ≡ cond (b == s) 1 0 + sentinels s x
  sentinels_cons b x = sum_by-cons (λ y. cond (y == s) 1 0) b x

  sentinels_joined : (x y : List ℕ) → sentinels s (x ++ y) ≡ sentinels s x + sentinels s y
  sentinels_joined [] y = omega arith
  sentinels_joined (b ∷ x) y = omega (arith, sentinels_cons b x, sentinels_cons b (x ++ y), sentinels_joined x y)

  none_masked : (p : List ℕ) → NoZero p → sentinels s (masked s p) ≡ 0
  none_masked [] z = refl
  none_masked (b ∷ p) z = sentinels_cons (bit_xor s b) (masked s p) ∙ ap (λ c. cond c 1 0 + sentinels s (masked s p)) (isn't_sentinel s b z.0) ∙ ap (λ n. 0 + n) (none_masked p z.1) ∙ omega arith

  one_sentinel : sentinels s (s ∷ []) ≡ 1
  one_sentinel = sentinels_cons s [] ∙ ap (λ c. cond c 1 0 + sentinels s []) (eq-eqb s s refl)

  -- the bytes before the first sentinel, and it, where there is one
  record First (b : List ℕ) : Type 0 where
    pub left : List ℕ
    pub lacks : sentinels s left ≡ 0
    pub either : ((b ≡ left) × (behind_first s b ≡ [])) ⊎ (b ≡ left ++ (s ∷ behind_first s b))

  behind_yes : (c : ℕ) (b : List ℕ) → c ≡ s → behind_first s (c ∷ b) ≡ b
  behind_yes c b e = rw (eq-eqb c s e) refl

  behind_no : (c : ℕ) (b : List ℕ) → (c ≡ s → ⊥) → behind_first s (c ∷ b) ≡ behind_first s b
  behind_no c b n = rw (ne_eqb c s n) (grind arith)

  first_of : (b : List ℕ) → First b
  first_of [] = record { left = []; lacks = refl; either = inl (refl, refl) }
  first_of (c ∷ b) = elim (cases_eq c s) [
    | inl e ↦ record { left = []; lacks = refl; either = inr (ap (λ x. x ∷ b) e ∙ ap (λ x. s ∷ x) (sym (behind_yes c b e))) }
    | inr n ↦ (let h = first_of b in record {
      left = c ∷ h.left;
      lacks = sentinels_cons c h.left ∙ ap (λ d. cond d 1 0 + sentinels s h.left) (ne_eqb c s n) ∙ omega (arith, h.lacks);
      either = elim h.either [
        | inl k ↦ inl (ap (λ x. c ∷ x) k.0, behind_no c b n ∙ k.1)
        | inr k ↦ inr (ap (λ x. c ∷ x) k ∙ ap (λ x. c ∷ (h.left ++ (s ∷ x))) (sym (behind_no c b n)))
      ];
    })
  ]

  through_is : (a : List ℕ) (h : UpToLast s a) → through_last s a ≡ h.front
  through_is a h =
      let long : length a ≡ length h.front + length (unfinished s a) = ap length h.whole ∙ length-append h.front (masked s (unfinished s a)) ∙ ap (λ n. length h.front + n) (length-map (unfinished s a) (bit_xor s)) in
      let n : length a - length (unfinished s a) ≡ length h.front = omega arith in
      ap (λ k. take k a) n ∙ ap (take (length h.front)) h.whole ∙ take_at h.front (masked s (unfinished s a)) (length h.front) refl

module _ (holds : List ℕ → Tree → Type 0) (limit s : ℕ) where
  pub appends : Appends holds limit s
  appends a b answers e = (
    λ h. heard_parts (IsAnswer holds limit) (at_end limit) s (begun_answers limit) (none_begun limit) a b answers e h,
    λ (us, vs, g, h, w). subst (λ x. Answers holds limit s (a ++ b) x) (sym w) (heard_joined (IsAnswer holds limit) (at_end limit) s (begun_answers limit) (none_begun limit) a b us vs e g h),
  )

  pub starts_anywhere : StartsAnywhere holds limit s
  starts_anywhere x b answers h =
      let k = (appends (x ++ (s ∷ [])) b answers (inr (x, refl))).0 (subst (λ y. Answers holds limit s y answers) (sym (append_assoc x (s ∷ []) b)) h) in
      (k.0, k.1, k.3, k.4)

  given_length : (a : List ℕ) (us : List Verdict) → EndsBetween s a → Given holds limit s a us → length us ≤ sentinels s a
  given_length a us e g =
      omega (
        arith,
        ap length g.whole,
        length-append g.done (begun_answers limit (unfinished s a)),
        ap (λ p. length (begun_answers limit p)) (none_unfinished s a e),
        ap length (none_begun limit),
        AllZip-long (IsAnswer holds limit) (ended s a) g.done g.each,
        ended_count s a,
      )

  answers_length : (a : List ℕ) (us : List Verdict) → Answers holds limit s a us → length us ≤ sentinels s a + 1
  answers_length a us h =
      omega (
        arith,
        ap length h.whole,
        length-append h.done (at_end limit (unfinished s a)),
        short_end limit (unfinished s a),
        AllZip-long (IsAnswer holds limit) (ended s a) h.done h.each,
        ended_count s a,
      )

  -- the answers on either side, and how many are between
  record Sided (a x b : List ℕ) (p : List Verdict) : Type 0 where
    pub us : List Verdict
    pub ws : List Verdict
    pub given : Given holds limit s (through_last s a) us
    pub behind : Answers holds limit s (behind_first s b) ws
    pub between : HasBetween (sentinels s x + 1) us ws p

  sided : (a x b : List ℕ) (p : List Verdict) → Answers holds limit s (a ++ (x ++ b)) p → Sided a x b p
  sided a x b p h =
      let d = ends_at s a in
      let begun = masked s (unfinished s a) in
      let whole : a ++ (x ++ b) ≡ d.front ++ (begun ++ (x ++ b)) = ap (λ y. y ++ (x ++ b)) d.whole ∙ append_assoc d.front begun (x ++ b) in
      let k = (appends d.front (begun ++ (x ++ b)) p d.between).0 (subst (λ y. Answers holds limit s y p) whole h) in
      let g : Given holds limit s (through_last s a) k.0 = subst (λ y. Given holds limit s y k.0) (sym (through_is s a d)) k.2 in
      let f = first_of s b in
      let few : sentinels s (begun ++ (x ++ f.left)) ≡ sentinels s x =
      omega (arith, sentinels_joined s begun (x ++ f.left), sentinels_joined s x f.left, none_masked s (unfinished s a) d.nonzero, f.lacks) in
      elim f.either [
        | inl e ↦ record {
          us = k.0;
          ws = [];
          given = g;
          behind = record { done = []; each = subst (λ y. AllZip (IsAnswer holds limit) (ended s y) []) (sym e.1) tt; whole = sym (ap (λ y. at_end limit (unfinished s y)) e.1 ∙ empty_ending limit) };
          between = (k.1, k.4 ∙ ap (λ y. k.0 ++ y) (sym (append-nil k.1)), omega (arith, few, answers_length (begun ++ (x ++ b)) k.1 k.3, ap (λ y. sentinels s (begun ++ (x ++ y))) e.0));
        }
        | inr e ↦ (
            let mid = begun ++ (x ++ f.left) in
            let rest = behind_first s b in
            let split : begun ++ (x ++ b) ≡ (mid ++ (s ∷ [])) ++ rest =
            ap (λ y. begun ++ (x ++ y)) e ∙ ap (λ y. begun ++ y) (sym (append_assoc x f.left (s ∷ rest))) ∙ sym (append_assoc begun (x ++ f.left) (s ∷ rest)) ∙ sym (append_assoc mid (s ∷ []) rest) in
            let j = (appends (mid ++ (s ∷ [])) rest k.1 (inr (mid, refl))).0 (subst (λ y. Answers holds limit s y k.1) split k.3) in
            record {
              us = k.0;
              ws = j.1;
              given = g;
              behind = j.3;
              between = (j.0, k.4 ∙ ap (λ y. k.0 ++ y) j.4, omega (arith, few, given_length (mid ++ (s ∷ [])) j.0 (inr (mid, refl)) j.2, sentinels_joined s mid (s ∷ []), one_sentinel s));
            })
      ]

  pub is_local : IsOne holds → IsLocal holds limit s
  is_local one a x y b p q h k =
      let m = sided a x b p h in
      let n = sided a y b q k in
      let o = once holds limit s one in
      let us : n.us ≡ m.us = o.given (through_last s a) n.us m.us n.given m.given in
      let ws : n.ws ≡ m.ws = o.whole (behind_first s b) n.ws m.ws n.behind m.behind in
      (m.us, m.ws, m.given, m.behind, m.between, subst (λ u. HasBetween (sentinels s y + 1) u m.ws q) us (subst (λ w. HasBetween (sentinels s y + 1) n.us w q) ws n.between))
