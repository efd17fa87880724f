-- What a decoder answers, by what its receiver did.
use Rattle.std.proofs.Common.{◌≡◌, ℕ, ◌+◌, ◌-◌, ◌≤◌, Bool, List, [], ◌∷◌, ◌++◌, length, take, drop, Option, Some, None, Result, Ok, Err, refl, sym, ap, ◌∙◌, subst, inl, inr, arith, length-append, append-nil, append_assoc, option_to_list}
use Rattle.std.specs.Prelude.{IfNone}
use Rattle.std.specs.Coded.{Coded-set, coded_ℕ}
use Rattle.std.proofs.Math.Logic.{∥∥₁_elim}
use Rattle.std.proofs.lemmas.Bool.{cases_lt}
use Rattle.std.proofs.Math.Seq.{take-append-add, drop-append-add}
use Rattle.std.proofs.lemmas.List.{take-append-le, take_all, drop_all}
use Rattle.postcard_tree.specs.Tree.{Tree}
use Rattle.link.specs.declared.decoding.Decoding.{Ghosts}
use Rattle.link.specs.Judged.{Judging}
use Rattle.link.specs.Stream.{Verdict, Given, kept, begun}
use Rattle.link.specs.Pushes.{IsPush, IsLost, IsLeast, IsBegun, Answered, finished}
use Rattle.link.specs.declared.receiver.Answer.{Answer}
use Rattle.link.specs.declared.receiver.NoMemory.{NoMemory as NoAnswer}
use Rattle.link_codec.specs.declared.error.DecodeError.{DecodeError}
use Rattle.link_codec.specs.declared.error.DecodeError.TheVariants.{NoMemory, Io}
use Rattle.link_codec.specs.Decoders.{IsGiven, IsGivenTo, messages_in, gives_judged}
use Rattle.link_codec.specs.declared.decoder.AnswerDecoder.{AnswerDecoder}
use Rattle.link_codec.specs.Gives.{GivenBy, AddsAnswer, AddsNothing, gives_answers}
use Rattle.tokio_util.specs.Codec.Next.{Next, Decodes, DecodesAtEnd, decoded, partial, at_end}
use Rattle.tokio_util.proofs.CodecLemmas.Next.{Resumes_now, DecodesAtEnd_from_end}

module _ (holds : List ℕ → Tree → Type 0) (limit s : ℕ) (stream : List ℕ) where
  -- no bytes add nothing
  pub push_none : IsPush holds limit s stream [] 0 None
  push_none = record {
    gives = λ answers g. subst (λ x. Given holds limit s x (answers ++ [])) (sym (append-nil stream)) (subst (λ x. Given holds limit s stream x) (sym (append-nil answers)) g);
    least = record { same = λ answers g u l. absurd (omega (arith, l)) };
    whole = λ e. refl;
  }

  module _ (xs more : List ℕ) (n : ℕ) (nothing : IsPush holds limit s stream xs (length xs) None) where
    -- the bytes as they are joined
    bytes_joined : (k : ℕ) → (stream ++ xs) ++ take k more ≡ stream ++ take (length xs + k) (xs ++ more)
    bytes_joined k = append_assoc stream xs (take k more) ∙ ap (λ x. stream ++ x) (sym (take-append-add xs more k))

    past : (answers : List Verdict) → Given holds limit s stream answers → Given holds limit s (stream ++ xs) answers
    past answers g = subst (λ x. Given holds limit s (stream ++ x) answers) (take_all (length xs) xs (omega arith)) (subst (λ x. Given holds limit s (stream ++ take (length xs) xs) x) (append-nil answers) (nothing.gives answers g))

    least_joined : IsLeast holds limit s (stream ++ xs) more n → IsLeast holds limit s stream (xs ++ more) (length xs + n)
    least_joined h = record {
      same = λ answers g u l. elim (cases_lt u (length xs)) [
        | inl k ↦ subst (λ x. Given holds limit s (stream ++ x) answers) (sym (take-append-le u xs more (omega (arith, k)))) (nothing.least.same answers g u k)
        | inr k ↦ (
            let e : length xs + (u - length xs) ≡ u = omega (arith, k) in
            subst (λ m. Given holds limit s (stream ++ take m (xs ++ more)) answers) e
            (subst (λ x. Given holds limit s x answers) (bytes_joined (u - length xs)) (h.same answers (past answers g) (u - length xs) (omega (arith, k, l)))))
      ];
    }

    push_joined : (a : Option Verdict) → IsPush holds limit s (stream ++ xs) more n a → IsPush holds limit s stream (xs ++ more) (length xs + n) a
    push_joined a h = record {
      gives = λ answers g. subst (λ x. Given holds limit s x (answers ++ option_to_list a)) (bytes_joined n) (h.gives answers (past answers g));
      least = least_joined h.least;
      whole = λ e. omega (arith, h.whole e, length-append xs more);
    }

    lost_joined : IsLost holds limit s (stream ++ xs) more n → IsLost holds limit s stream (xs ++ more) (length xs + n)
    lost_joined h = record {
      front = xs ++ h.front;
      stretch = h.stretch;
      message = h.message;
      bytes = take-append-add xs more n ∙ ap (λ x. xs ++ x) h.bytes ∙ sym (append_assoc xs h.front (s ∷ []));
      begun = subst (λ x. IsBegun limit s x (kept h.stretch)) (append_assoc stream xs h.front) h.begun;
      frame = h.frame;
      after = subst (λ x. IsBegun limit s x (kept [])) (bytes_joined n) h.after;
      least = least_joined h.least;
    }

module _ {V : Type 0} (holds : List ℕ → Tree → Type 0) (reads : Tree → V → Type 0) where
  answered_joined : (limit s : ℕ) (stream xs more : List ℕ) (n : ℕ) (x : Answer V) → IsPush holds limit s stream xs (length xs) None → Answered holds reads limit s (stream ++ xs) more n (Ok (Some x)) → Answered holds reads limit s stream (xs ++ more) (length xs + n) (Ok (Some x))
  answered_joined limit s stream xs more n x nothing (a, says, push) = (a, says, push_joined holds limit s stream xs more n nothing a push)

module _ {C V : Type 0} (IsGiven : GivenBy C) (holds : List ℕ → Tree → Type 0) (reads : Tree → V → Type 0) (growing : Bool) (d t : C) (xs : List ℕ)
    (given : (limit s : ℕ) (stream : List ℕ) → IsGiven limit s d stream → IsGiven limit s t (stream ++ xs)) (nothing : AddsNothing IsGiven holds reads growing d xs) where
  nothing_joined : (more : List ℕ) → AddsNothing IsGiven holds reads growing t more → AddsNothing IsGiven holds reads growing d (xs ++ more)
  nothing_joined more h limit s stream i =
      subst (λ n. IsPush holds limit s stream (xs ++ more) n None) (sym (length-append xs more))
      (push_joined holds limit s stream xs more (length more) (nothing limit s stream i) None (h limit s (stream ++ xs) (given limit s stream i)))

  adds_joined : (more : List ℕ) (n : ℕ) (r : Result (Answer V) DecodeError) → AddsAnswer IsGiven holds reads growing t more n r → AddsAnswer IsGiven holds reads growing d (xs ++ more) (length xs + n) r
  adds_joined more n (Ok a) h = λ limit s stream i.
      answered_joined holds reads limit s stream xs more n a (nothing limit s stream i) (h limit s (stream ++ xs) (given limit s stream i))
  adds_joined more n (Err NoMemory) h = (
    h.0,
    λ limit s stream i. lost_joined holds limit s stream xs more n (nothing limit s stream i) (h.1 limit s (stream ++ xs) (given limit s stream i)),
  )
  adds_joined more n (Err (Io e)) h = absurd h

  resumes_from : (more : List ℕ) (next : Next C (Answer V) DecodeError) → gives_answers IsGiven holds reads growing t more next → gives_answers IsGiven holds reads growing d (xs ++ more) next
  resumes_from more (decoded r u zs) (n, k, h) = (
    length xs + n,
    record {
      within = omega (arith, k.within, length-append xs more);
      rest = k.rest ∙ sym (drop-append-add xs more n);
      given = λ limit s stream i. subst (λ x. IsGiven limit s u x) (append_assoc stream xs (take n more) ∙ ap (λ x. stream ++ x) (sym (take-append-add xs more n))) (k.given limit s (stream ++ xs) (given limit s stream i));
    },
    adds_joined more n r h,
  )
  resumes_from more partial h = nothing_joined more h
  resumes_from more (at_end r u zs) h = record {
    nothing = nothing_joined more h.nothing;
    rest = h.rest;
    anew = λ limit s stream i. h.anew limit s (stream ++ xs) (given limit s stream i);
    answer = λ limit s stream i. h.answer limit s (stream ++ xs) (given limit s stream i) ∙ ap (λ x. Ok (finished (begun limit s x))) (append_assoc stream xs more);
  }

module _ {C V : Type 0} (IsGiven : GivenBy C) (holds : List ℕ → Tree → Type 0) (reads : Tree → V → Type 0) (d : C) (stands : ∥ ((limit : ℕ) × (s : ℕ) × (stream : List ℕ) × IsGiven limit s d stream) ∥₁) (xs ys : List ℕ) (used : ℕ) (answer : Result (Option (Answer V)) NoAnswer) (rest : ys ≡ drop used xs)
    (answers : (limit s : ℕ) (stream : List ℕ) → IsGiven limit s d stream → Answered holds reads limit s stream xs used answer) where
  push_of_none : answer ≡ Ok None → (limit s : ℕ) (stream : List ℕ) → IsGiven limit s d stream → IsPush holds limit s stream xs used None
  push_of_none e limit s stream i =
      let h = subst (λ r. Answered holds reads limit s stream xs used r) e (answers limit s stream i) in
      subst (λ o. IsPush holds limit s stream xs used o) h.1 h.2

  all_used : answer ≡ Ok None → used ≡ length xs
  all_used e = ∥∥₁_elim stands (Coded-set coded_ℕ _ _) (λ b. (push_of_none e b.0 b.1 b.2 b.3).whole refl)

  none_left : answer ≡ Ok None → ys ≡ []
  none_left e = rest ∙ drop_all used xs (omega (arith, all_used e))

  -- where nothing is answered, no byte is left
  pub none_left_if : (o : Option (Answer V)) → answer ≡ Ok o → IfNone o (ys ≡ [])
  none_left_if (Some a) e = tt
  none_left_if None e = none_left e

  module _ (growing : Bool) (t : C) (within : used ≤ length xs) (given : (limit s : ℕ) (stream : List ℕ) → IsGiven limit s d stream → IsGiven limit s t (stream ++ take used xs)) where
    nothing_added : answer ≡ Ok None → AddsNothing IsGiven holds reads growing d xs
    nothing_added e limit s stream i = subst (λ n. IsPush holds limit s stream xs n None) (all_used e) (push_of_none e limit s stream i)

    given_all : answer ≡ Ok None → (limit s : ℕ) (stream : List ℕ) → IsGiven limit s d stream → IsGiven limit s t (stream ++ xs)
    given_all e limit s stream i = subst (λ x. IsGiven limit s t (stream ++ x)) (take_all used xs (omega (arith, all_used e))) (given limit s stream i)

    -- what is answered is what the decoder gives
    pub decodes_ok : (o : Option (Answer V)) → answer ≡ Ok o → Decodes (gives_answers IsGiven holds reads growing) d xs (Ok o) t ys
    decodes_ok (Some a) e = (used, record { within = within; rest = rest; given = given }, λ limit s stream i. subst (λ r. Answered holds reads limit s stream xs used r) e (answers limit s stream i))
    decodes_ok None e =
        let empty = none_left e in (
          (λ limit s stream i. subst (λ zs. IsPush holds limit s stream zs (length zs) None) (sym empty) (push_none holds limit s stream)),
          (λ more next h. resumes_from IsGiven holds reads growing d t xs (given_all e) (nothing_added e) more next (subst (λ zs. gives_answers IsGiven holds reads growing t (zs ++ more) next) empty h)),
        )

module _ {V M D : Type 0} {g : Ghosts D} (judging : M → Judging V) where
  -- a decoder whose reader of messages is the same decodes as that reader judges
  pub decodes_judged : (d t : AnswerDecoder V M D g) (xs ys : List ℕ) (o : Option (Answer V)) → messages_in t ≡ messages_in d
      → Decodes (gives_answers (IsGivenTo (messages_in d)) (judging (messages_in d)).holds (judging (messages_in d)).reads (judging (messages_in d)).growing) d xs (Ok o) t ys → Decodes (gives_judged judging) d xs (Ok o) t ys
  decodes_judged d t xs ys (Some a) e h = h
  decodes_judged d t xs ys None e h =
      let at : M → List ℕ → Next (AnswerDecoder V M D g) (Answer V) DecodeError → Type 0 = λ m zs next. gives_answers (IsGivenTo m) (judging m).holds (judging m).reads (judging m).growing t zs next in
      (subst (λ m. at m ys partial) (sym e) h.0, λ more next k. h.1 more next (subst (λ m. at m (ys ++ more) next) e k))

  -- a decoder of which nothing is left ends its stream, and begins anew
  pub decodes_end : (d m t : AnswerDecoder V M D g) (xs ys : List ℕ) (last : Option (Answer V)) → Decodes (gives_judged judging) d xs (Ok None) m ys → ys ≡ []
      → ((limit s : ℕ) (stream : List ℕ) → IsGiven limit s m stream → IsGiven limit s t []) → messages_in t ≡ messages_in m
      → ((limit s : ℕ) (stream : List ℕ) → IsGiven limit s m stream → last ≡ finished (begun limit s stream)) → DecodesAtEnd (gives_judged judging) d xs (Ok last) t ys
  decodes_end d m t xs ys last decodes empty anew same answer =
      let gives = gives_judged judging in
      let ends : gives m ys (at_end (Ok last) t ys) = record {
        nothing = decodes.0;
        rest = empty;
        anew = λ limit s stream i. (anew limit s stream i.0, same ∙ i.1);
        answer = λ limit s stream i. ap (λ o. Ok o) (answer limit s stream i.0) ∙ ap (λ x. Ok (finished (begun limit s x))) (sym (append-nil stream) ∙ ap (λ zs. stream ++ zs) (sym empty));
      } in
      DecodesAtEnd_from_end gives d xs (Ok last) t ys (Resumes_now gives d xs m ys (at_end (Ok last) t ys) decodes.1 ends)
