-- All items of a framed reader are the answers of all its bytes.
use Rattle.std.proofs.Common.{◌≡◌, ℕ, Bool, true, List, [], ◌∷◌, ◌++◌, length, take, All, IsOk, is_ok, Option, Some, None, Result, Ok, Err, refl, sym, ap, ◌∙◌, subst, arith, append-nil, append_assoc}
use Rattle.std.proofs.lemmas.List.{take_all, take-append-drop}
use Rattle.std.proofs.lemmas.List.Elements.{All-head, All-tail}
use Rattle.std.specs.declared.io.Error.{Error}
use Rattle.postcard_tree.specs.Tree.{Tree}
use Rattle.link.specs.declared.decoding.Decoding.{Ghosts}
use Rattle.link.specs.Judged.{Judging}
use Rattle.link.specs.Stream.{kept, begun}
use Rattle.link.specs.Pushes.{IsPush, finished}
use Rattle.link.specs.Listening.{HasGiven, HasAnswered, KeepsAnswer}
use Rattle.link.specs.declared.receiver.Answer.{Answer}
use Rattle.link_codec.specs.declared.error.DecodeError.{DecodeError}
use Rattle.link_codec.specs.Beside.{gives_beside, stable_beside}
use Rattle.link_codec.specs.Decoders.{IsGiven as Given, IsGivenTo, messages_in, gives_judged, judged_stable}
use Rattle.link_codec.specs.declared.decoder.AnswerDecoder.{AnswerDecoder}
use Rattle.link_codec.specs.Gives.{GivenBy, AddsNothing, Ends, gives_answers}
use Rattle.link.specs.Lemmas.Givens.{none_begun, kept_given, ended_by, none_given}
use Rattle.link_codec.specs.Laws.{no_push}
use Rattle.link_codec.specs.Whole.{answers_of, IsOfReader, IsAnsweredWhole}
use Rattle.link_codec.proofs.DecodingLemmas.{push_none}
use Rattle.tokio.specs.Io.Moved.{Passes, PassesInOrder}
use Rattle.tokio_util.specs.Codec.Next.{Next, Gives, decoded, at_end}
use Rattle.tokio_util.specs.Codec.Framed.{Reads}
use Rattle.tokio_util.specs.Codec.Framing.{as_last}
use Rattle.tokio_util.specs.Codec.Whole.{ReadsAll, whole_frame, last_frame, no_frame}
use Rattle.tokio_util.proofs.CodecLemmas.Whole.{all_frames}

-- the first items that a decoder finds in an input, and what is so of where it stops
pub data ReadsFirst {D T E : Type 0} (gives : Gives D T E) (stops : D → List ℕ → Type 0) : D → List ℕ → List (Result T E) → Type 0 where
  whole : (c : D) (xs : List ℕ) (r : Result T E) (t : D) (ys : List ℕ) (rest : List (Result T E)) → gives c xs (decoded r t ys) → ReadsFirst gives stops t ys rest → ReadsFirst gives stops c xs (r ∷ rest)
  last : (c : D) (xs : List ℕ) (r : Result T E) (t : D) (ys : List ℕ) (rest : List (Result T E)) → gives c xs (at_end (as_last r) t ys) → ReadsFirst gives stops t ys rest → ReadsFirst gives stops c xs (r ∷ rest)
  stopped : (c : D) (xs : List ℕ) → stops c xs → ReadsFirst gives stops c xs []

-- a decoder finds no more in an input
abbrev IsThrough : {D T E : Type 0} → Gives D T E → D → List ℕ → Type 0
IsThrough {D} gives c xs = (t : D) × (ys : List ℕ) × gives c xs (at_end (Ok None) t ys)

all_first : {D T E : Type 0} (gives : Gives D T E) (c : D) (xs : List ℕ) (items : List (Result T E)) → ReadsAll gives c xs items → ReadsFirst gives (IsThrough gives) c xs items
all_first gives _ _ _ (whole_frame c xs r t ys rest h later) = whole c xs r t ys rest h (all_first gives t ys rest later)
all_first gives _ _ _ (last_frame c xs r t ys rest h later) = last c xs r t ys rest h (all_first gives t ys rest later)
all_first gives _ _ _ (no_frame c xs t ys h) = stopped c xs (t, ys, h)

keeps_by : {V : Type 0} (o p : Option (Answer V)) (old new : List (Answer V)) → ◌≡◌ {A = Result (Option (Answer V)) DecodeError} (Ok o) (Ok p) → KeepsAnswer (Ok o) old new → KeepsAnswer (Ok p) old new
keeps_by o p old new e h = let same : o ≡ p = cc in subst (λ q. KeepsAnswer (Ok q) old new) same h

-- what a decoder with something beside it finds is what the decoder finds
found_beside : {C D B T E : Type 0} (decoder_in : C → D) (beside : C → B) (gives : Gives D T E) (c : C) (xs : List ℕ) (items : List (Result T E)) → ReadsAll (gives_beside decoder_in beside gives) c xs items → ReadsAll gives (decoder_in c) xs items
found_beside decoder_in beside gives _ _ _ (whole_frame c xs r t ys rest h later) = whole_frame (decoder_in c) xs r (decoder_in t) ys rest h.0 (found_beside decoder_in beside gives t ys rest later)
found_beside decoder_in beside gives _ _ _ (last_frame c xs r t ys rest h later) = last_frame (decoder_in c) xs r (decoder_in t) ys rest h.0 (found_beside decoder_in beside gives t ys rest later)
found_beside decoder_in beside gives _ _ _ (no_frame c xs t ys h) = no_frame (decoder_in c) xs (decoder_in t) ys h.0

module _ {C V : Type 0} (IsGiven : GivenBy C) (holds : List ℕ → Tree → Type 0) (reads : Tree → V → Type 0) (growing : Bool) where
  -- nothing is answered of nothing
  pub none_decoded : (limit s : ℕ) (d t : C) (xs ys : List ℕ) (a : Answer V) → xs ≡ [] → IsGiven limit s d [] → gives_answers IsGiven holds reads growing d xs (decoded (Ok a) t ys) → ⊥
  none_decoded limit s d t xs ys a e b (n, k, h) =
      let (v, says, push) = h limit s [] b in
      no_push holds limit s [] xs n says.0 k.within (subst (λ zs. IsPush holds limit s [] zs (length zs) None) (sym e) (push_none holds limit s [])) (subst (λ o. IsPush holds limit s [] xs n o) says.2 push)

  pub none_ended : (limit s : ℕ) (d t : C) (xs ys : List ℕ) (a : Answer V) → xs ≡ [] → IsGiven limit s d [] → gives_answers IsGiven holds reads growing d xs (at_end (Ok (Some a)) t ys) → ⊥
  none_ended limit s d t xs ys a e b h =
      let same : Ok (Some a) ≡ Ok (finished (kept [])) = h.answer limit s [] b ∙ ap (λ zs. Ok (finished (begun limit s zs))) e ∙ ap (λ p. Ok (finished p)) (none_begun limit s) in cc

  -- what is given of a stream and bytes that add nothing
  given_on : (limit s : ℕ) (d : C) (xs stream : List ℕ) (answers : List (Answer V)) → AddsNothing IsGiven holds reads growing d xs → IsGiven limit s d stream → HasGiven holds reads limit s answers stream → HasGiven holds reads limit s answers (stream ++ xs)
  given_on limit s d xs stream answers nothing b g =
      subst (λ x. HasGiven holds reads limit s answers (stream ++ x)) (take_all (length xs) xs (omega arith))
      (kept_given holds reads limit s stream xs answers answers (length xs) (Ok None) g (None, refl, nothing limit s stream b) refl)

  -- the end
  pub ended_on : (limit s : ℕ) (d t : C) (xs ys stream : List ℕ) (o : Option (Answer V)) (answers new : List (Answer V)) → Ends IsGiven holds reads growing d xs (Ok o) t ys → IsGiven limit s d stream → HasGiven holds reads limit s answers stream → KeepsAnswer (Ok o) answers new → HasAnswered holds reads limit s new (stream ++ xs)
  ended_on limit s d t xs ys stream o answers new h b g k =
      ended_by holds limit s (stream ++ xs) reads answers new (given_on limit s d xs stream answers h.nothing b g)
      (keeps_by o (finished (begun limit s (stream ++ xs))) answers new (h.answer limit s stream b) k)

  -- where a decoder that was given a stream gives so, and what is heard is all answers, or what is so where it stops
  module _ (gives : Gives C (Answer V) DecodeError) (gives_so : (limit s : ℕ) (stream : List ℕ) (d : C) (xs : List ℕ) (next : Next C (Answer V) DecodeError) → IsGiven limit s d stream → gives d xs next → gives_answers IsGiven holds reads growing d xs next)
      (limit s : ℕ) (stops : C → List ℕ → Type 0) (Heard : List (Answer V) → List ℕ → Type 0) (by_all : (answers : List (Answer V)) (stream : List ℕ) → HasAnswered holds reads limit s answers stream → Heard answers stream)
      (by_stop : (d : C) (xs stream : List ℕ) (answers : List (Answer V)) → stops d xs → IsGiven limit s d stream → HasGiven holds reads limit s answers stream → Heard answers (stream ++ xs)) where
    no_item : (d : C) (xs : List ℕ) (items : List (Result (Answer V) DecodeError)) → xs ≡ [] → IsGiven limit s d [] → All IsOk items → ReadsFirst gives stops d xs items → answers_of items ≡ []
    no_item _ _ _ e b oks (whole d xs (Ok a) t ys rest h later) = absurd (none_decoded limit s d t xs ys a e b (gives_so limit s [] d xs (decoded (Ok a) t ys) b h))
    no_item _ _ _ e b oks (whole d xs (Err f) t ys rest h later) = let wrong : is_ok {T = Answer V} (Err f) ≡ true = All-head IsOk (Err f) rest oks in cc
    no_item _ _ _ e b oks (last d xs (Ok a) t ys rest h later) = absurd (none_ended limit s d t xs ys a e b (gives_so limit s [] d xs (at_end (Ok (Some a)) t ys) b h))
    no_item _ _ _ e b oks (last d xs (Err f) t ys rest h later) = let wrong : is_ok {T = Answer V} (Err f) ≡ true = All-head IsOk (Err f) rest oks in cc
    no_item _ _ _ e b oks (stopped d xs h) = refl

    pub read_first : (d : C) (xs : List ℕ) (items : List (Result (Answer V) DecodeError)) → ReadsFirst gives stops d xs items → All IsOk items → (stream : List ℕ) (answers : List (Answer V)) → IsGiven limit s d stream → HasGiven holds reads limit s answers stream
        → Heard (answers ++ answers_of items) (stream ++ xs)
    read_first _ _ _ (whole d xs (Ok a) t ys rest found later) oks stream answers b g =
        let (n, k, h) = gives_so limit s stream d xs (decoded (Ok a) t ys) b found in
        let next = kept_given holds reads limit s stream xs answers (answers ++ a ∷ []) n (Ok (Some a)) g (h limit s stream b) refl in
        let all = read_first t ys rest later (All-tail IsOk (Ok a) rest oks) (stream ++ take n xs) (answers ++ a ∷ []) (k.given limit s stream b) next in
        let bytes : (stream ++ take n xs) ++ ys ≡ stream ++ xs = append_assoc stream (take n xs) ys ∙ ap (λ x. stream ++ (take n xs ++ x)) k.rest ∙ ap (λ x. stream ++ x) (take-append-drop n xs) in
        subst (λ x. Heard x (stream ++ xs)) (append_assoc answers (a ∷ []) (answers_of rest)) (subst (λ x. Heard ((answers ++ a ∷ []) ++ answers_of rest) x) bytes all)
    read_first _ _ _ (whole d xs (Err f) t ys rest h later) oks stream answers b g = let wrong : is_ok {T = Answer V} (Err f) ≡ true = All-head IsOk (Err f) rest oks in cc
    read_first _ _ _ (last d xs (Ok a) t ys rest found later) oks stream answers b g =
        let h = gives_so limit s stream d xs (at_end (Ok (Some a)) t ys) b found in
        let none = no_item t ys rest h.rest (h.anew limit s stream b) (All-tail IsOk (Ok a) rest oks) later in
        by_all _ _ (ended_on limit s d t xs ys stream (Some a) answers (answers ++ a ∷ answers_of rest) h b g (ap (λ x. answers ++ a ∷ x) none))
    read_first _ _ _ (last d xs (Err f) t ys rest h later) oks stream answers b g = let wrong : is_ok {T = Answer V} (Err f) ≡ true = All-head IsOk (Err f) rest oks in cc
    read_first _ _ _ (stopped d xs h) oks stream answers b g = subst (λ x. Heard x (stream ++ xs)) (sym (append-nil answers)) (by_stop d xs stream answers h b g)

module _ {V M D : Type 0} {g : Ghosts D} (judging : M → Judging V) where
  -- a decoder gives as its reader of messages judges
  pub as_judged : (m : M) (limit s : ℕ) (stream : List ℕ) (d : AnswerDecoder V M D g) (xs : List ℕ) (next : Next (AnswerDecoder V M D g) (Answer V) DecodeError) → IsGivenTo m limit s d stream → gives_judged judging d xs next
      → gives_answers (IsGivenTo m) (judging m).holds (judging m).reads (judging m).growing d xs next
  as_judged m limit s stream d xs next i h =
      subst (λ n. gives_answers (IsGivenTo n) (judging n).holds (judging n).reads (judging n).growing d xs next) i.1 h

  all_read : (limit s : ℕ) (d : AnswerDecoder V M D g) (xs : List ℕ) (items : List (Result (Answer V) DecodeError)) → ReadsAll (gives_judged judging) d xs items → All IsOk items → Given limit s d []
      → HasAnswered (judging (messages_in d)).holds (judging (messages_in d)).reads limit s (answers_of items) xs
  all_read limit s d xs items read oks given =
      let m = messages_in d in
      let j = judging m in
      read_first (IsGivenTo m) j.holds j.reads j.growing (gives_judged judging) (as_judged m) limit s (IsThrough (gives_judged judging)) (HasAnswered j.holds j.reads limit s) (λ answers stream h. h)
      (λ d xs stream answers h b g. ended_on (IsGivenTo m) j.holds j.reads j.growing limit s d h.0 xs h.1 stream None answers answers (as_judged m limit s stream d xs (at_end (Ok None) h.0 h.1) b h.2) b g refl)
      d xs items (all_first (gives_judged judging) d xs items read) oks [] [] (given, refl) (none_given j.holds j.reads limit s)

  module _ {R : Type 0} (gave : Passes R) (is_at_end : R → Type 0) (fails : R → Error → Type 0) (in_order : PassesInOrder gave) where
    pub answered_whole : (f : Reads R (AnswerDecoder V M D g)) → IsAnsweredWhole gave is_at_end fails (λ d. d) Given (gives_judged judging) (λ d. judging (messages_in d)) f
    answered_whole f limit s items final begins oks yielded =
        let all = all_frames gave is_at_end fails (gives_judged judging) IsOfReader in_order final (judged_stable judging) f items begins.reading oks yielded in
        let read = subst (λ zs. ReadsAll (gives_judged judging) f.codec (zs ++ all.0) items) begins.none all.4 in
        (all.0, all.1, all.2, all.3, all_read limit s f.codec all.0 items read oks begins.given)

    -- the same of a decoder with something beside it
    pub answered_beside : {K B : Type 0} (decoder_in : K → AnswerDecoder V M D g) (beside : K → B) (f : Reads R K)
        → IsAnsweredWhole gave is_at_end fails decoder_in Given (gives_beside decoder_in beside (gives_judged judging)) (λ d. judging (messages_in d)) f
    answered_beside decoder_in beside f limit s items final begins oks yielded =
        let gives = gives_judged judging in
        let all = all_frames gave is_at_end fails (gives_beside decoder_in beside gives) IsOfReader in_order final (stable_beside decoder_in beside gives (judged_stable judging)) f items begins.reading oks yielded in
        let read = subst (λ zs. ReadsAll (gives_beside decoder_in beside gives) f.codec (zs ++ all.0) items) begins.none all.4 in
        (all.0, all.1, all.2, all.3, all_read limit s (decoder_in f.codec) all.0 items (found_beside decoder_in beside gives f.codec all.0 items read) oks begins.given)
