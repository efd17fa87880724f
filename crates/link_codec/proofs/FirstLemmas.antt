-- The items of a framed reader however it goes on: the answers given of a front of its bytes, or all answers.
use Rattle.std.proofs.Common.{◌≡◌, ℕ, ◌⊎◌, true, List, [], ◌∷◌, ◌++◌, All, IsOk, is_ok, Option, Some, Result, Ok, Err, refl, subst, inl, inr, append-nil, append_assoc}
use Rattle.std.proofs.lemmas.List.Elements.{All-head, All-tail}
use Rattle.std.specs.declared.io.Error.{Error}
use Rattle.futures.specs.declared.task.Poll.{Poll}
use Rattle.link.specs.declared.decoding.Decoding.{Ghosts}
use Rattle.link.specs.Judged.{Judging}
use Rattle.link_codec.specs.Decoders.{IsGiven as Given, IsGivenTo, messages_in, gives_judged, judged_stable}
use Rattle.link_codec.specs.declared.decoder.AnswerDecoder.{AnswerDecoder}
use Rattle.link_codec.specs.Whole.{IsOfReader, IsHeardOf, IsAnsweredSoFar}
use Rattle.link.specs.Lemmas.Givens.{none_given}
use Rattle.link_codec.proofs.WholeLemmas.{ReadsFirst, whole, last, stopped, as_judged, read_first}
use Rattle.tokio.specs.Io.Moved.{Passes, PassesInOrder}
use Rattle.tokio.specs.Io.Steps.{Yields, answers, passes, waits}
use Rattle.tokio_util.specs.Codec.Next.{Gives, decoded, at_end, Resumes, IsStable}
use Rattle.tokio_util.specs.Codec.Framing.{unframed, as_last, IsReading, SawEnd}
use Rattle.tokio_util.specs.Codec.Framed.{Reads, PollsFrame}
use Rattle.tokio_util.specs.Codec.Whole.{EndIsFinal}
use Rattle.tokio_util.proofs.CodecLemmas.Next.{Resumes-append, Resumes_now}

-- what is yielded begins with what stands in front of it
pub yields_front : {S X : Type 0} (step : S → Poll (Option X) → S → Type 0) (s : S) (items : List X) (end : Option X) → Yields step s items end → (front behind : List X) → items ≡ front ++ behind → (next : Option X) × Yields step s front next
yields_front step _ _ _ (answers s t end h) [] behind e = (end, answers s t end h)
yields_front step _ _ _ (answers s t end h) (y ∷ front) behind e = cc
yields_front step _ _ _ (passes s t x xs end h later) [] behind e = (Some x, answers s t (Some x) h)
yields_front step _ _ _ (passes s t x xs end h later) (y ∷ front) behind e =
    let head : x ≡ y = cc in
    let tail : xs ≡ front ++ behind = cc in
    let next = yields_front step t xs end later front behind tail in
    (next.0, subst (λ z. Yields step s (z ∷ front) next.0) head (passes s t x front next.0 h next.1))
yields_front step _ _ _ (waits s t xs end h later) front behind e =
    let next = yields_front step t xs end later front behind e in
    (next.0, waits s t front next.0 h next.1)

-- it stops anywhere
abbrev ReadsSome : {D X E : Type 0} → Gives D X E → D → List ℕ → List (Result X E) → Type 0
ReadsSome gives = ReadsFirst gives (λ c xs. Unit {0})

resumed : {D X E : Type 0} (gives : Gives D X E) (c : D) (xs : List ℕ) (t : D) (ys : List ℕ) (items : List (Result X E)) → ReadsSome gives t ys items → Resumes gives c xs t ys → ReadsSome gives c xs items
resumed gives c xs _ _ _ (whole t ys r u zs rest h later) resumes = whole c xs r u zs rest (Resumes_now gives c xs t ys (decoded r u zs) resumes h) later
resumed gives c xs _ _ _ (last t ys r u zs rest h later) resumes = last c xs r u zs rest (Resumes_now gives c xs t ys (at_end (as_last r) u zs) resumes h) later
resumed gives c xs _ _ _ (stopped t ys h) resumes = stopped c xs tt

module _ {T D X E : Type 0} (reads : Passes T) (is_at_end : T → Type 0) (fails : T → Error → Type 0) (gives : Gives D X E) (F : Error → E → Type 0) (in_order : PassesInOrder reads) (final : EndIsFinal reads is_at_end) (stable : IsStable gives) where
  -- it reads, or it has seen the end of its reader
  abbrev IsGoing : Reads T D → Type 0
  IsGoing s = IsReading s.frame ⊎ (SawEnd s.frame × is_at_end s.io)

  -- the items are the first of what is buffered and what the reader gave
  abbrev AreFirstOf : Reads T D → List (Result X E) → Type 0
  AreFirstOf s items = (bytes : List ℕ) × (last : T) × reads s.io bytes last × ReadsSome gives s.codec (unframed s.frame ++ bytes) items

  ends_at : (s t : Reads T D) (more : List ℕ) → IsGoing s → reads s.io more t.io → (SawEnd s.frame × (more ≡ [])) ⊎ is_at_end t.io → is_at_end t.io
  ends_at s t more going read (inr end) = end
  ends_at s t more (inl reading) read (inl saw) = let seen = saw.0 in cc
  ends_at s t more (inr seen) read (inl saw) = (final s.io more t.io seen.1 read).1

  after : (s t : Reads T D) (more : List ℕ) (items rest : List (Result X E)) → reads s.io more t.io → (later : AreFirstOf t rest) → ReadsSome gives s.codec (unframed s.frame ++ more ++ later.0) items → AreFirstOf s items
  after s t more items rest read later all = (
    more ++ later.0,
    later.1,
    in_order s.io more t.io later.0 later.1 read later.2,
    subst (λ zs. ReadsSome gives s.codec zs items) (append_assoc (unframed s.frame) more later.0) all,
  )

  first_frames : (s : Reads T D) (items : List (Result X E)) (end : Option (Result X E)) → Yields (PollsFrame reads is_at_end fails gives F) s items end → All IsOk items → IsGoing s → AreFirstOf s items
  first_frames _ _ _ (answers s t end step) oks going = (step.0, t.io, step.1, stopped s.codec _ tt)
  first_frames _ _ _ (passes s t (Err e) items end step rest) oks going = let wrong : is_ok {T = X} (Err e) ≡ true = All-head IsOk (Err e) items oks in cc
  first_frames _ _ _ (passes s t (Ok x) items end step rest) oks going =
      let next : IsGoing t = elim step.3 [ inl reading ↦ inl reading | inr saw ↦ inr (saw.0, ends_at s t step.0 going step.1 saw.1) ] in
      let later = first_frames t items end rest (All-tail IsOk (Ok x) items oks) next in
      after s t step.0 (Ok x ∷ items) items step.1 later (elim step.2 [
        | inl found ↦ elim found [
          | inl h ↦ whole _ _ (Ok x) t.codec _ items (stable _ _ (Ok x) t.codec _ later.0 h) later.3
          | inr other ↦ elim other [
            | inl h ↦
                let none = (final t.io later.0 later.1 (ends_at s t step.0 going step.1 h.0) later.2).0 in
                rw (none, append-nil (unframed s.frame ++ step.0))
                (last _ _ (Ok x) t.codec (unframed t.frame) items h.1 (rw (none, append-nil (unframed t.frame)) at later.3))
            | inr failed ↦ absurd failed.0
          ]
        ]
        | inr rests ↦ absurd rests
      ])
  first_frames _ _ _ (waits s t items end step rest) oks going =
      let next : IsGoing t = elim step.3 [
        | inl reading ↦ inl reading
        | inr rests ↦ let same = rests.1 in elim going [
          | inl reading ↦ elim rests.0 [ inl a ↦ cc | inr b ↦ cc ]
          | inr seen ↦ let saw = seen.0 in elim rests.0 [ inl a ↦ cc | inr b ↦ cc ]
        ]
      ] in
      let later = first_frames t items end rest oks next in
      after s t step.0 items items step.1 later (elim step.2 [
        | inl resumes ↦ resumed gives _ _ t.codec _ items later.3 (Resumes-append gives _ _ t.codec _ later.0 resumes)
        | inr rests ↦ absurd rests
      ])

module _ {V M D R : Type 0} {g : Ghosts D} (judging : M → Judging V) (gave : Passes R) (is_at_end : R → Type 0) (fails : R → Error → Type 0) (in_order : PassesInOrder gave) where
  pub answered_so_far : (f : Reads R (AnswerDecoder V M D g)) → IsAnsweredSoFar gave is_at_end fails (λ d. d) Given (gives_judged judging) (λ d. judging (messages_in d)) f
  answered_so_far f limit s items next final begins oks yielded =
      let gives = gives_judged judging in
      let m = messages_in f.codec in
      let j = judging m in
      let all = first_frames gave is_at_end fails gives IsOfReader in_order final (judged_stable judging) f items next yielded oks (inl begins.reading) in
      let read = subst (λ zs. ReadsSome gives f.codec (zs ++ all.0) items) begins.none all.3 in (
        all.0,
        all.1,
        all.2,
        read_first (IsGivenTo m) j.holds j.reads j.growing gives (as_judged judging m) limit s (λ c xs. Unit {0}) (IsHeardOf j.holds j.reads limit s) (λ answers stream h. inr h)
            (λ d xs stream answers h b g. inl (stream, xs, refl, g)) f.codec all.0 items read oks [] [] (begins.given, refl) (none_given j.holds j.reads limit s),
      )
