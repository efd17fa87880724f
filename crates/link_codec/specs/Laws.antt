-- The laws of a decoder, of what a decoder of answers gives.
use Rattle.std.proofs.Common.{◌≡◌, ℕ, ◌≤◌, Bool, List, [], ◌∷◌, ◌++◌, length, take, Some, None, Result, Ok, Err, refl, sym, ap, ◌∙◌, subst, inl, inr, arith, length-append, append-nil}
use Rattle.std.specs.List.{AllZip}
use Rattle.std.proofs.Math.Logic.{∥∥₁_elim}
use Rattle.std.proofs.lemmas.Bool.{cases_lt}
use Rattle.std.proofs.lemmas.List.{take-append-le, drop-append-le}
use Rattle.postcard_tree.specs.Tree.{Tree}
use Rattle.link.specs.Stream.{Verdict, value, damaged, too_long, IsAnswer, begun_answers, Given, ended, unfinished}
use Rattle.link.specs.Pushes.{IsPush, IsLost, IsLeast, Answered}
use Rattle.link.specs.declared.receiver.Answer.{Answer}
use Rattle.std.proofs.lemmas.Slice.Zip.{AllZip-long}
use Rattle.link_codec.specs.declared.error.DecodeError.{DecodeError}
use Rattle.link_codec.specs.declared.error.DecodeError.TheVariants.{NoMemory, Io}
use Rattle.link_codec.specs.Gives.{GivenBy, AddsAnswer, gives_answers}
use Rattle.tokio_util.specs.Codec.Next.{decoded, partial, IsStable, EndIsPartial}

-- lists of answers of a stream are equally long
same_count : (holds : List ℕ → Tree → Type 0) (limit s : ℕ) (stream : List ℕ) (us vs : List Verdict)
    → Given holds limit s stream us → Given holds limit s stream vs → length us ≡ length vs
same_count holds limit s stream us vs g h =
    let first = AllZip-long (IsAnswer holds limit) (ended s stream) g.done g.each in
    let second = AllZip-long (IsAnswer holds limit) (ended s stream) h.done h.each in
    omega (arith, ap length g.whole, ap length h.whole, length-append g.done (begun_answers limit (unfinished s stream)), length-append h.done (begun_answers limit (unfinished s stream)), first, second)

-- that stretches have no answers is absurd
some_each : (holds : List ℕ → Tree → Type 0) (limit : ℕ) (ps : List (List ℕ))
    → (((answers : List Verdict) × AllZip (IsAnswer holds limit) ps answers) → ⊥) → ⊥
some_each holds limit [] never = never ([], tt)
some_each holds limit (p ∷ ps) never = some_each holds limit ps (λ h. elim (cases_lt limit (length p)) [
  | inl l ↦ never (too_long ∷ h.0, (l, h.1))
  | inr l ↦ never (damaged ∷ h.0, ((l, λ t x. never (value t ∷ h.0, ((l, x), h.1))), h.1))
])

some_given : (holds : List ℕ → Tree → Type 0) (limit s : ℕ) (stream : List ℕ)
    → (((answers : List Verdict) × Given holds limit s stream answers) → ⊥) → ⊥
some_given holds limit s stream never = some_each holds limit (ended s stream) (λ h. never (h.0 ++ begun_answers limit (unfinished s stream), record { done = h.0; each = h.1; whole = refl }))

-- a push that adds an answer within bytes that add none
pub no_push : (holds : List ℕ → Tree → Type 0) (limit s : ℕ) (stream xs : List ℕ) (used : ℕ)
    (a : Verdict) → used ≤ length xs → IsPush holds limit s stream xs (length xs) None
    → IsPush holds limit s stream xs used (Some a) → ⊥
no_push holds limit s stream xs used a within nothing push = some_given holds limit s stream (λ g.
    let more : Given holds limit s (stream ++ take used xs) (g.0 ++ a ∷ []) = push.gives g.0 g.1 in
    let count = length-append g.0 (a ∷ []) in
    elim (cases_lt used (length xs)) [
      | inl l ↦ (let e = same_count holds limit s (stream ++ take used xs) (g.0 ++ a ∷ []) g.0 more (nothing.least.same g.0 g.1 used l) in omega (arith, e, count))
      | inr l ↦ (
          let same : length xs ≡ used = omega (arith, l, within) in
          let none : Given holds limit s (stream ++ take used xs) (g.0 ++ []) = subst (λ n. Given holds limit s (stream ++ take n xs) (g.0 ++ [])) same (nothing.gives g.0 g.1) in
          let e = same_count holds limit s (stream ++ take used xs) (g.0 ++ a ∷ []) (g.0 ++ []) more none in omega (arith, e, count, ap length (append-nil g.0)))
    ])

-- bytes behind those that are used
least_append : (holds : List ℕ → Tree → Type 0) (limit s : ℕ) (stream xs more : List ℕ) (used : ℕ)
    → used ≤ length xs → IsLeast holds limit s stream xs used
    → IsLeast holds limit s stream (xs ++ more) used
least_append holds limit s stream xs more used within h = record {
  same = λ answers g u l. subst (λ x. Given holds limit s (stream ++ x) answers) (sym (take-append-le u xs more (omega (arith, l, within)))) (h.same answers g u l);
}

push_append : (holds : List ℕ → Tree → Type 0) (limit s : ℕ) (stream xs more : List ℕ) (used : ℕ)
    (a : Verdict) → used ≤ length xs → IsPush holds limit s stream xs used (Some a)
    → IsPush holds limit s stream (xs ++ more) used (Some a)
push_append holds limit s stream xs more used a within h = record {
  gives = λ answers g. subst (λ x. Given holds limit s (stream ++ x) (answers ++ a ∷ [])) (sym (take-append-le used xs more within)) (h.gives answers g);
  least = least_append holds limit s stream xs more used within h.least;
  whole = λ e. cc;
}

lost_append : (holds : List ℕ → Tree → Type 0) (limit s : ℕ) (stream xs more : List ℕ) (used : ℕ)
    → used ≤ length xs → IsLost holds limit s stream xs used
    → IsLost holds limit s stream (xs ++ more) used
lost_append holds limit s stream xs more used within h =
    let same = take-append-le used xs more within in
    record {
      front = h.front;
      stretch = h.stretch;
      message = h.message;
      bytes = same ∙ h.bytes;
      begun = h.begun;
      frame = h.frame;
      after = rw same h.after;
      least = least_append holds limit s stream xs more used within h.least;
    }

module _ {V : Type 0} (holds : List ℕ → Tree → Type 0) (reads : Tree → V → Type 0) where
  answered_append : (limit s : ℕ) (stream xs more : List ℕ) (used : ℕ) (x : Answer V)
      → used ≤ length xs → Answered holds reads limit s stream xs used (Ok (Some x))
      → Answered holds reads limit s stream (xs ++ more) used (Ok (Some x))
  answered_append limit s stream xs more used x within (a, says, push) =
      (Some says.0, (says.0, says.1, refl), push_append holds limit s stream xs more used says.0 within (subst (λ o. IsPush holds limit s stream xs used o) says.2 push))

module _ {C V : Type 0} (IsGiven : GivenBy C) (holds : List ℕ → Tree → Type 0) (reads : Tree → V → Type 0) (growing : Bool) where
  adds_append : (d : C) (xs more : List ℕ) (used : ℕ) (r : Result (Answer V) DecodeError)
      → used ≤ length xs → AddsAnswer IsGiven holds reads growing d xs used r
      → AddsAnswer IsGiven holds reads growing d (xs ++ more) used r
  adds_append d xs more used (Ok a) within h = λ limit s stream i. answered_append holds reads limit s stream xs more used a within (h limit s stream i)
  adds_append d xs more used (Err NoMemory) within h = (h.0, λ limit s stream i. lost_append holds limit s stream xs more used within (h.1 limit s stream i))
  adds_append d xs more used (Err (Io e)) within h = absurd h

  pub answers_stable : IsStable {D = C} (gives_answers IsGiven holds reads growing)
  answers_stable d xs r t ys more (used, k, h) = (
    used,
    record {
      within = omega (arith, k.within, length-append xs more);
      rest = ap (λ zs. zs ++ more) k.rest ∙ sym (drop-append-le used xs more k.within);
      given = λ limit s stream i. subst (λ x. IsGiven limit s t (stream ++ x)) (sym (take-append-le used xs more k.within)) (k.given limit s stream i);
    },
    adds_append d xs more used r k.within h,
  )

  -- a decoder that was given some stream
  pub answers_partial : (d : C) → ∥ ((limit : ℕ) × (s : ℕ) × (stream : List ℕ) × IsGiven limit s d stream) ∥₁
      → (xs : List ℕ) (x : Answer V) (t : C) (ys : List ℕ) → gives_answers IsGiven holds reads growing d xs partial
      → gives_answers IsGiven holds reads growing d xs (decoded (Ok x) t ys) → ⊥
  answers_partial d stands xs x t ys nothing (used, k, h) = ∥∥₁_elim stands (λ a b. absurd a) (λ b.
      let (a, says, push) = h b.0 b.1 b.2 b.3 in
      no_push holds b.0 b.1 b.2 xs used says.0 k.within (nothing b.0 b.1 b.2 b.3) (subst (λ o. IsPush holds b.0 b.1 b.2 xs used o) says.2 push))

  pub answers_end : EndIsPartial {D = C} (gives_answers IsGiven holds reads growing)
  answers_end d xs r t ys h = h.nothing
