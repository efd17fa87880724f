-- What a byte more, or a push, makes of the stretches of a stream, at the sentinel zero.
use Rattle.std.proofs.Common.{◌≡◌, ℕ, zero, suc, ◌+◌, ◌-◌, ◌<◌, ◌≤◌, nat_lt, Bool, true, false, List, [], ◌∷◌, ◌++◌, length, take, drop, Some, None, refl, sym, ap, ◌∙◌, subst, inl, inr, ◌⊎◌, append_assoc, arith}
use Rattle.std.specs.Prelude.{if◌then◌else◌, get_or}
use Rattle.std.specs.List.{AllZip}
use Rattle.std.proofs.lemmas.Bool.{le-ltb}
use Rattle.std.proofs.lemmas.List.{append-nil, take-append-drop, length-drop, length-append, take-append-le, take_all}
use Rattle.std.proofs.Math.Seq.{take-add}
use Rattle.cobs.specs.Frames.{NoZero, block, spelled}
use Rattle.postcard_tree.specs.Tree.{Tree}
use Rattle.link.specs.Stream.{Verdict, too_long, ended, unfinished, IsAnswer, Given, begun_answers}
use Rattle.link.specs.Laws.{EndsBetween}
use Rattle.link.specs.Pushes.{IsPush, IsLost}
use Rattle.link.specs.Lemmas.MaskLaws.{unmasked}
use Rattle.link.specs.Lemmas.RoadLaws.{no_ended}
use Rattle.link.specs.Lemmas.Pieces.{Parted, alone, more, parted, ends_at, ended_at, unfinished_at, unfinished_alone, ended_behind, unfinished_behind}

pub no_zero_more : (p : List ℕ) (b : ℕ) → NoZero p → 0 < b → NoZero (p ++ b ∷ [])
no_zero_more [] b z l = (l, tt)
no_zero_more (c ∷ p) b z l = (z.0, no_zero_more p b z.1 l)

-- a stretch alone, and one with a zero behind it
pub alone_unfinished : (p : List ℕ) → NoZero p → unfinished 0 p ≡ p
alone_unfinished p z = ap (unfinished 0) (sym (unmasked p)) ∙ unfinished_alone 0 p z

pub zero_ended : (p : List ℕ) → NoZero p → 0 < length p → ended 0 (p ++ 0 ∷ []) ≡ p ∷ []
zero_ended [] z l = absurd (omega (arith, l))
zero_ended (b ∷ p) z l = ap (λ x. ended 0 (x ++ 0 ∷ [])) (sym (unmasked (b ∷ p))) ∙ ended_at 0 b p [] z

pub zero_unfinished : (p : List ℕ) → NoZero p → unfinished 0 (p ++ 0 ∷ []) ≡ []
zero_unfinished p z = ap (λ x. unfinished 0 (x ++ 0 ∷ [])) (sym (unmasked p)) ∙ unfinished_at 0 p [] z

-- what stands behind a stream goes on with its unfinished stretch
pub record Behind (stream x : List ℕ) : Type 0 where
  pub front : List ℕ
  pub between : EndsBetween 0 front
  pub nonzero : NoZero (unfinished 0 stream)
  pub whole : stream ≡ front ++ unfinished 0 stream
  pub more_unfinished : unfinished 0 (stream ++ x) ≡ unfinished 0 (unfinished 0 stream ++ x)
  pub more_ended : ended 0 (stream ++ x) ≡ ended 0 stream ++ ended 0 (unfinished 0 stream ++ x)

pub behind_of : (stream x : List ℕ) → Behind stream x
behind_of stream x =
    let k = ends_at 0 stream in
    let u = unfinished 0 stream in
    let whole : stream ≡ k.front ++ u = k.whole ∙ ap (λ y. k.front ++ y) (unmasked u) in
    let all : stream ++ x ≡ k.front ++ (u ++ x) = ap (λ y. y ++ x) whole ∙ append_assoc k.front u x in
    let front : ended 0 stream ≡ ended 0 k.front = ap (ended 0) whole ∙ ended_behind 0 k.front u k.between ∙ ap (λ y. ended 0 k.front ++ y) (no_ended u k.nonzero) ∙ append-nil (ended 0 k.front) in
    record {
      front = k.front;
      between = k.between;
      nonzero = k.nonzero;
      whole = whole;
      more_unfinished = ap (unfinished 0) all ∙ unfinished_behind 0 k.front (u ++ x) k.between;
      more_ended = ap (ended 0) all ∙ ended_behind 0 k.front (u ++ x) k.between ∙ ap (λ y. y ++ ended 0 (u ++ x)) (sym front);
    }

nonempty : {A : Type 0} (x : A) (xs : List A) → x ∷ xs ≡ [] → ⊥
nonempty x xs e = omega (arith, ap length e)

-- a stream that doesn't begin with a zero, and in which no stretch ends, has no zero
pub no_zero : (w : List ℕ) → ((rest : List ℕ) → w ≡ 0 ∷ rest → ⊥) → ended 0 w ≡ [] → NoZero w
no_zero w first e = go (parted 0 w)
  where
    go : Parted 0 w → NoZero w
    go (alone p z eq) = subst NoZero (sym (eq ∙ unmasked p)) z
    go (more [] rest z eq k) = absurd (first rest eq)
    go (more (b ∷ p) rest z eq k) = absurd (nonempty (b ∷ p) (ended 0 rest) (sym (ended_at 0 b p rest z) ∙ ap (ended 0) (sym eq) ∙ e))

-- it doesn't where the unfinished stretch has bytes, or what comes doesn't
pub first_of : (u rest : List ℕ) → NoZero u → (u ≡ [] → (r : List ℕ) → rest ≡ 0 ∷ r → ⊥) → (r : List ℕ) → u ++ rest ≡ 0 ∷ r → ⊥
first_of [] rest z f r e = f refl r e
first_of (b ∷ u) rest z f r e = omega (arith, z.0, head_of e)
  where
    head_of : b ∷ (u ++ rest) ≡ 0 ∷ r → b ≡ 0
    head_of h = ap (λ l. get_or l 0 0) h

-- nothing was said of a stream
said_none : (R : List ℕ → Verdict → Type 0) (es : List (List ℕ)) (done : List Verdict) (b : Bool) → AllZip R es done → [] ≡ done ++ (if b then too_long ∷ [] else []) → (es ≡ []) × (b ≡ false)
said_none R [] [] false z e = (refl, refl)
said_none R [] [] true z e = absurd (nonempty too_long [] (sym e))
said_none R (x ∷ es) [] b z e = absurd z
said_none R es (d ∷ done) b z e = absurd (nonempty d (done ++ (if b then too_long ∷ [] else [])) (sym e))

-- one answer was given, where none ends
said_over : (R : List ℕ → Verdict → Type 0) (done : List Verdict) (b : Bool) (v : Verdict) → AllZip R [] done → v ∷ [] ≡ done ++ (if b then too_long ∷ [] else []) → (v ≡ too_long) × (b ≡ true)
said_over R [] true v z e = (ap (λ l. get_or l 0 too_long) e, refl)
said_over R [] false v z e = absurd (nonempty v [] e)
said_over R (d ∷ done) b v z e = absurd z

-- and where one does
said_one : (R : List ℕ → Verdict → Type 0) (p : List ℕ) (done : List Verdict) (v : Verdict) → AllZip R (p ∷ []) done → v ∷ [] ≡ done ++ [] → R p v
said_one R p [] v z e = absurd z
said_one R p (d ∷ []) v z e = subst (R p) (sym (ap (λ l. get_or l 0 too_long) e)) z.0
said_one R p (d ∷ c ∷ done) v z e = absurd z.1

pub lt_zero : (n : ℕ) → nat_lt n 0 ≡ false
lt_zero n = le-ltb n 0 (omega arith)

module _ (holds : List ℕ → Tree → Type 0) (limit : ℕ) where
  pub none_said : (w : List ℕ) → Given holds limit 0 w [] → (ended 0 w ≡ []) × (nat_lt limit (length (unfinished 0 w)) ≡ false)
  none_said w h = said_none (IsAnswer holds limit) (ended 0 w) h.done (nat_lt limit (length (unfinished 0 w))) h.each h.whole

  over_said : (w : List ℕ) (v : Verdict) → ended 0 w ≡ [] → Given holds limit 0 w (v ∷ []) → (v ≡ too_long) × (nat_lt limit (length (unfinished 0 w)) ≡ true)
  over_said w v e h = said_over (IsAnswer holds limit) h.done (nat_lt limit (length (unfinished 0 w))) v (subst (λ es. AllZip (IsAnswer holds limit) es h.done) e h.each) h.whole

  one_said : (w p : List ℕ) (v : Verdict) → ended 0 w ≡ p ∷ [] → unfinished 0 w ≡ [] → Given holds limit 0 w (v ∷ []) → IsAnswer holds limit p v
  one_said w p v e u h =
      said_one (IsAnswer holds limit) p h.done v (subst (λ es. AllZip (IsAnswer holds limit) es h.done) e h.each) (h.whole ∙ ap (λ x. h.done ++ begun_answers limit x) u ∙ ap (λ b. h.done ++ (if b then too_long ∷ [] else [])) (lt_zero limit))

  -- nothing is said of a stretch within the limit
  pub given_none : (u : List ℕ) → NoZero u → nat_lt limit (length u) ≡ false → Given holds limit 0 u []
  given_none u z l = record {
    done = [];
    each = subst (λ es. AllZip (IsAnswer holds limit) es []) (sym (no_ended u z)) tt;
    whole = sym (ap (begun_answers limit) (alone_unfinished u z) ∙ ap (λ b. if b then too_long ∷ [] else []) l);
  }

-- the last of the first bytes
pub record Last (rest : List ℕ) (used : ℕ) : Type 0 where
  pub byte : ℕ
  pub are : take used rest ≡ take (used - 1) rest ++ byte ∷ []

-- what stands before the last byte
pub but_last : (xs ys : List ℕ) (b c : ℕ) → xs ++ b ∷ [] ≡ ys ++ c ∷ [] → xs ≡ ys
but_last xs ys b c e =
    let same : length xs ≡ length ys = omega (arith, ap length e, length-append xs (b ∷ []), length-append ys (c ∷ [])) in
    sym (take_all (length xs) xs (omega arith)) ∙ sym (take-append-le (length xs) xs (b ∷ []) (omega arith)) ∙ ap (take (length xs)) e ∙ take-append-le (length xs) ys (c ∷ []) (omega (arith, same)) ∙ take_all (length xs) ys (omega (arith, same))

-- a frame has bytes
pub spelled_some : (run : List ℕ) (runs : List (List ℕ)) → 0 < length (spelled run runs)
spelled_some run [] = omega arith
spelled_some run (next ∷ runs) = omega (arith, length-append (block run) (spelled next runs))

pub last_of : (rest : List ℕ) (used : ℕ) → 0 < used → used ≤ length rest → Last rest used
last_of rest used some within = go (drop (used - 1) rest) refl
  where
    sum : (used - 1) + 1 ≡ used
    sum = omega (arith, some)

    go : (d : List ℕ) → drop (used - 1) rest ≡ d → Last rest used
    go [] e = absurd (omega (arith, some, within, length-drop (used - 1) rest, ap length e))
    go (b ∷ d) e = record { byte = b; are = ap (λ n. take n rest) (sym sum) ∙ take-add (used - 1) 1 rest ∙ ap (λ x. take (used - 1) rest ++ take 1 x) e }

-- What a push says that answers: a stretch within the limit ends with the last byte, a zero; or one is past the limit.
pub record Ends (holds : List ℕ → Tree → Type 0) (limit : ℕ) (u rest : List ℕ) (used : ℕ) (v : Verdict) : Type 0 where
  pub are : take used rest ≡ take (used - 1) rest ++ 0 ∷ []
  pub nonzero : NoZero (u ++ take (used - 1) rest)
  pub some : 0 < length (u ++ take (used - 1) rest)
  pub is : IsAnswer holds limit (u ++ take (used - 1) rest) v
  pub fits : nat_lt limit (length (u ++ take (used - 1) rest)) ≡ false

pub record Passes (limit : ℕ) (u rest : List ℕ) (used : ℕ) (v : Verdict) : Type 0 where
  pub nonzero : NoZero (u ++ take used rest)
  pub long : nat_lt limit (length (u ++ take used rest)) ≡ true
  pub is : v ≡ too_long

module _ (holds : List ℕ → Tree → Type 0) (limit : ℕ) (u rest : List ℕ) (used : ℕ) (z : NoZero u) (fits : nat_lt limit (length u) ≡ false) (first : (r : List ℕ) → u ++ rest ≡ 0 ∷ r → ⊥) where
  none : Given holds limit 0 u []
  none = given_none holds limit u z fits

  first_at : (k : ℕ) (r : List ℕ) → u ++ take k rest ≡ 0 ∷ r → ⊥
  first_at k r e = first (r ++ drop k rest) (sym (ap (λ y. u ++ y) (take-append-drop k rest)) ∙ sym (append_assoc u (take k rest) (drop k rest)) ∙ ap (λ y. y ++ drop k rest) e)

  within : (k : ℕ) → Given holds limit 0 (u ++ take k rest) [] → NoZero (u ++ take k rest) × (nat_lt limit (length (u ++ take k rest)) ≡ false)
  within k h =
      let s = none_said holds limit (u ++ take k rest) h in
      let n = no_zero (u ++ take k rest) (first_at k) s.0 in
      (n, ap (λ y. nat_lt limit (length y)) (sym (alone_unfinished (u ++ take k rest) n)) ∙ s.1)

  -- no answer
  pub push_quiet : IsPush holds limit 0 u rest used None → NoZero (u ++ take used rest) × (nat_lt limit (length (u ++ take used rest)) ≡ false)
  push_quiet p = within used (p.gives [] none)

  -- a value that was lost
  pub push_lost : 0 < used → IsLost holds limit 0 u rest used → NoZero (u ++ take (used - 1) rest) × (nat_lt limit (length (u ++ take (used - 1) rest)) ≡ false)
  push_lost some h = within (used - 1) (h.least.same [] none (used - 1) (omega (arith, some)))

  -- an answer
  pub push_answer : (v : Verdict) → 0 < used → used ≤ length rest → IsPush holds limit 0 u rest used (Some v) → Ends holds limit u rest used v ⊎ Passes limit u rest used v
  push_answer v some bound p = go l.byte refl
    where
      w : List ℕ
      w = u ++ take (used - 1) rest

      l : Last rest used
      l = last_of rest used some bound

      before : NoZero w × (nat_lt limit (length w) ≡ false)
      before = within (used - 1) (p.least.same [] none (used - 1) (omega (arith, some)))

      whole : u ++ take used rest ≡ w ++ l.byte ∷ []
      whole = ap (λ y. u ++ y) l.are ∙ sym (append_assoc u (take (used - 1) rest) (l.byte ∷ []))

      given : Given holds limit 0 (u ++ take used rest) (v ∷ [])
      given = p.gives [] none

      some_of : (x : List ℕ) → w ≡ x → l.byte ≡ 0 → 0 < length x
      some_of [] e b = absurd (first_at used [] (whole ∙ ap (λ y. y ++ l.byte ∷ []) e ∙ ap (λ c. c ∷ []) b))
      some_of (c ∷ x) e b = omega arith

      go : (b : ℕ) → l.byte ≡ b → Ends holds limit u rest used v ⊎ Passes limit u rest used v
      go zero b =
          let more : 0 < length w = some_of w refl b in
          let zero_behind : u ++ take used rest ≡ w ++ 0 ∷ [] = whole ∙ ap (λ c. w ++ c ∷ []) b in
          inl record {
            are = l.are ∙ ap (λ c. take (used - 1) rest ++ c ∷ []) b;
            nonzero = before.0;
            some = more;
            is = one_said holds limit (u ++ take used rest) w v (ap (ended 0) zero_behind ∙ zero_ended w before.0 more) (ap (unfinished 0) zero_behind ∙ zero_unfinished w before.0) given;
            fits = before.1;
          }
      go (suc n) b =
          let n_zero : NoZero (u ++ take used rest) = subst NoZero (sym whole) (no_zero_more w l.byte before.0 (omega (arith, b))) in
          let s = over_said holds limit (u ++ take used rest) v (no_ended (u ++ take used rest) n_zero) given in
          inr record {
            nonzero = n_zero;
            long = ap (λ y. nat_lt limit (length y)) (sym (alone_unfinished (u ++ take used rest) n_zero)) ∙ s.1;
            is = s.0;
          }
