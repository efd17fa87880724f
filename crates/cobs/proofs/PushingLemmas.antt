-- What `decode` comes to by pushing what is behind leading zeros, and then a zero.
use Rattle.std.proofs.Common.{◌≡◌, ◌≢◌, ℕ, ◌+◌, ◌-◌, ◌<◌, ◌≤◌, nat_lt, min, ◌==◌, if◌then◌else◌, Bool, true, false, List, [], ◌∷◌, ◌++◌, length, ◌⊎◌, Result, Option, Some, None, Ok, Err, inl, inr, refl, ap, sym, subst, ◌∙◌, arith}
use Rattle.std.proofs.lemmas.List.{append-nil, take_all}
use Rattle.std.proofs.lemmas.Bool.{eq-eqb, ne_eqb, cases_lt}
use Rattle.std.proofs.lemmas.Bool.Decides.{eqb_tells}
use Rattle.cobs.specs.Frames.{NoZero, part, missing}
use Rattle.cobs.specs.Feeding.{at_zero}
use Rattle.cobs.specs.Pieces.{answered, ended, first_answer, frame_left, buffer_left}
use Rattle.cobs.specs.InPlace.{stretch, overwritten}
use Rattle.cobs.specs.Reports.{report, parsed_size, frame_size}
use Rattle.cobs.specs.Taking.{with_parsed, DecodesFront}
use Rattle.cobs.specs.Sentinel.{masked}
use Rattle.cobs.specs.Whole.{unpadded, frame_in, reported, decoded_from, decoded_into}
use Rattle.cobs.specs.DecodingLaws.{moved}
use Rattle.cobs.specs.declared.dec.report.DecodeReport.{DecodeReport}
use Rattle.cobs.specs.declared.dec.report.DecodeError.{DecodeError}
use Rattle.cobs.specs.declared.dec.report.DecodeError.TheVariants.{EmptyFrame, InvalidFrame, TargetBufTooSmall}
use Rattle.cobs.proofs.CutsLemmas.{first_moved}
use Rattle.cobs.proofs.DecodingLemmas.{part_shorter}
use Rattle.cobs.proofs.MaskingLemmas.{masked_zero}
use Rattle.cobs.proofs.MessagesLemmas.{placed_zero}
use Rattle.cobs.proofs.PassingLemmas.{passes, all_placed, placed_over, refuses}
use Rattle.cobs.proofs.ShortLemmas.{as_at_zero, zero_into}
use Rattle.cobs.proofs.SourcesLemmas.{stretch_clear, stretch_of}

-- all is before the first zero, or that comes
abbrev Splits : List ℕ → List ℕ → Type 0
Splits rest frame = (rest ≡ frame) ⊎ ((more : List ℕ) × (rest ≡ frame ++ 0 ∷ more))

splits : (rest : List ℕ) → Splits rest (stretch rest)
splits [] = inl refl
splits (b ∷ rest) = elim (eqb_tells b 0) [
  | inl t ↦ rw (t.1) (inr (rest, refl))
  | inr t ↦ rw (ne_eqb b 0 t.1) (behind b rest (stretch rest) (splits rest))
]
  where
    behind : (x : ℕ) (xs frame : List ℕ) → Splits xs frame → Splits (x ∷ xs) (x ∷ frame)
    behind x xs frame (inl e) = inl (ap (λ s. x ∷ s) e)
    behind x xs frame (inr e) = inr (e.0, ap (λ s. x ∷ s) e.1)

no_zero_first : (source more : List ℕ) → unpadded source ≡ 0 ∷ more → ⊥
no_zero_first [] more e = cc
no_zero_first (b ∷ source) more e = elim (eqb_tells b 0) [
  | inl t ↦ no_zero_first source more (rw (t.1) at e)
  | inr t ↦ let f : ◌≡◌ {A = List ℕ} (b ∷ source) (0 ∷ more) = rw (ne_eqb b 0 t.1) at e in t.1 (cc)
]

-- the zero behind some bytes has an answer
abbrev by_tests : Bool → Bool → ℕ → ℕ → Result (Option ℕ) DecodeError
by_tests t u n least = if t then (if u then Err TargetBufTooSmall else Ok (Some n)) else Err (InvalidFrame least)

tests_answer : (t u : Bool) (n least used : ℕ) (x : Result (Option DecodeReport) DecodeError) → answered (by_tests t u n least) used x ≡ answered (by_tests t u n least) used (Ok None)
tests_answer true true n least used x = refl
tests_answer true false n least used x = refl
tests_answer false u n least used x = refl

tests_end : (t u : Bool) (n least : ℕ) (a b : List ℕ) → ended (by_tests t u n least) a b ≡ a
tests_end true true n least a b = refl
tests_end true false n least a b = refl
tests_end false u n least a b = refl

zero_answers : (room : ℕ) (frame : List ℕ) (used : ℕ) (x : Result (Option DecodeReport) DecodeError) → frame ≢ [] → answered (at_zero room frame) used x ≡ answered (at_zero room frame) used (Ok None)
zero_answers room [] used x n = absurd (n refl)
zero_answers room (code ∷ bytes) used x n = tests_answer (missing (code ∷ bytes) == 0) (nat_lt room (length (part (code ∷ bytes)))) _ _ used x

zero_silent : (room : ℕ) (frame : List ℕ) (used : ℕ) → frame ≢ [] → answered (at_zero room frame) used (Ok None) ≡ Ok None → ⊥
zero_silent room [] used n e = n refl
zero_silent room (code ∷ bytes) used n e = never (missing (code ∷ bytes) == 0) (nat_lt room (length (part (code ∷ bytes)))) _ _ e
  where
    never : (t u : Bool) (n least : ℕ) → answered (by_tests t u n least) used (Ok None) ≡ Ok None → ⊥
    never true true n least h = cc
    never true false n least h = cc
    never false u n least h = cc

zero_ends : (room : ℕ) (frame a b : List ℕ) → frame ≢ [] → ended (at_zero room frame) a b ≡ a
zero_ends room [] a b n = absurd (n refl)
zero_ends room (code ∷ bytes) a b n = tests_end (missing (code ∷ bytes) == 0) (nat_lt room (length (part (code ∷ bytes)))) _ _ a b

-- nothing was decided yet
fresh : (dest : List ℕ) → dest ≡ overwritten (part []) dest
fresh dest = ap (λ m. m ++ dest) (sym (take_all (length dest) [] (omega arith)))

module _ (source rest dest : List ℕ) (r : rest ≡ unpadded source) where
  abbrev frame : List ℕ
  frame = stretch rest

  is_frame : frame ≡ frame_in source
  is_frame = ap stretch r

  clear : NoZero frame
  clear = stretch_clear rest

  begun : (more : List ℕ) → rest ≡ frame ++ 0 ∷ more → frame ≢ []
  begun more e n = no_zero_first source more (sym r ∙ e ∙ ap (λ f. f ++ 0 ∷ more) n)

  -- what a frame and what is behind it come to
  fits : length (part frame) ≤ length dest → (behind : List ℕ) (used : ℕ) →
      (first_answer (length dest) [] (frame ++ behind) used ≡ first_answer (length dest) frame behind (used + length frame))
      × (buffer_left (length dest) [] (frame ++ behind) dest ≡ buffer_left (length dest) frame behind (overwritten (part frame) dest))
      × (frame_left (length dest) [] (frame ++ behind) ≡ frame_left (length dest) frame behind)
  fits l behind used =
      let p = passes (length dest) [] frame behind dest used clear (λ _. l) in (
        p.answers,
        p.holds ∙ ap (buffer_left (length dest) frame behind) (ap (all_placed [] frame) (fresh dest) ∙ placed_over [] frame dest clear),
        p.leaves,
      )

  over : length dest < length (part frame) → (behind : List ℕ) (used : ℕ) →
      (first_answer (length dest) [] (frame ++ behind) used ≡ Err TargetBufTooSmall) × (buffer_left (length dest) [] (frame ++ behind) dest ≡ overwritten (part frame) dest)
  over l behind used =
      let p = refuses dest [] frame behind used clear (omega arith) l in
      (p.0, ap (buffer_left (length dest) [] (frame ++ behind)) (fresh dest) ∙ p.1)

  alone : rest ≡ frame → rest ≡ frame ++ []
  alone e = e ∙ sym (append-nil frame)

  -- the buffer
  pub pushed_over : buffer_left (length dest) [] rest dest ≡ overwritten (part (frame_in source)) dest
  pushed_over = elim (cases_lt (length dest) (length (part frame))) [
    | inl l ↦ elim (splits rest) [
      | inl e ↦ ap (λ s. buffer_left (length dest) [] s dest) (alone e) ∙ (over l [] 0).1 ∙ last
      | inr e ↦ ap (λ s. buffer_left (length dest) [] s dest) e.1 ∙ (over l (0 ∷ e.0) 0).1 ∙ last
    ]
    | inr l ↦ elim (splits rest) [
      | inl e ↦ ap (λ s. buffer_left (length dest) [] s dest) (alone e) ∙ (fits l [] 0).1 ∙ last
      | inr e ↦
          ap (λ s. buffer_left (length dest) [] s dest) e.1 ∙ (fits l (0 ∷ e.0) 0).1
          ∙ zero_ends (length dest) frame _ _ (begun e.0 e.1)
          ∙ placed_zero frame (overwritten (part frame) dest)
          ∙ last
    ]
  ]
    where
      last : overwritten (part frame) dest ≡ overwritten (part (frame_in source)) dest
      last = ap (λ f. overwritten (part f) dest) is_frame

  -- the answer counts from the first byte of the source
  whole_is : decoded_from (length dest) source ≡ reported (length source) (moved (length source - length rest) (first_answer (length dest) [] (frame ++ 0 ∷ []) 0))
  whole_is =
      ap (λ f. reported (length source) (first_answer (length dest) [] (f ++ 0 ∷ []) (length source - length (unpadded source)))) (sym is_frame)
      ∙ ap (λ s. reported (length source) (first_answer (length dest) [] (frame ++ 0 ∷ []) (length source - length s))) (sym r)
      ∙ ap (reported (length source)) (ap (first_answer (length dest) [] (frame ++ 0 ∷ [])) (omega arith) ∙ first_moved (length dest) [] (frame ++ 0 ∷ []) (length source - length rest) 0)

  -- where a zero ends the frame, what is behind it doesn't matter
  same_answer : (more : List ℕ) → rest ≡ frame ++ 0 ∷ more → first_answer (length dest) [] rest 0 ≡ first_answer (length dest) [] (frame ++ 0 ∷ []) 0
  same_answer more e = ap (λ s. first_answer (length dest) [] s 0) e ∙ elim (cases_lt (length dest) (length (part frame))) [
    | inl l ↦ (over l (0 ∷ more) 0).0 ∙ sym (over l (0 ∷ []) 0).0
    | inr l ↦ (fits l (0 ∷ more) 0).0 ∙ zero_answers (length dest) frame _ _ (begun more e) ∙ sym (fits l (0 ∷ []) 0).0
  ]

  -- where none does, nothing is answered but want of room
  no_answer : rest ≡ frame → ((length dest < length (part frame)) × (first_answer (length dest) [] rest 0 ≡ Err TargetBufTooSmall))
      ⊎ ((length (part frame) ≤ length dest) × (first_answer (length dest) [] rest 0 ≡ Ok None))
  no_answer e = elim (cases_lt (length dest) (length (part frame))) [
    | inl l ↦ inl (l, ap (λ s. first_answer (length dest) [] s 0) (alone e) ∙ (over l [] 0).0)
    | inr l ↦ inr (l, ap (λ s. first_answer (length dest) [] s 0) (alone e) ∙ (fits l [] 0).0)
  ]

  -- the answer to a short frame
  module _ (fit : length (part frame) ≤ length dest) (into : Result (Option ℕ) DecodeError) (e : at_zero (length dest) frame ≡ into) where
    short_is : decoded_from (length dest) source ≡ reported (length source) (moved (length source - length rest) (answered into (0 + length frame + 1) (Ok None)))
    short_is = whole_is ∙ ap (λ q. reported (length source) (moved (length source - length rest) q)) ((fits fit (0 ∷ []) 0).0 ∙ ap (λ q. answered q (0 + length frame + 1) (Ok None)) e)

    pub short_refused : (x : DecodeError) → into ≡ Err x → Err x ≡ decoded_from (length dest) source
    short_refused x i = sym (short_is ∙ ap (λ q. reported (length source) (moved (length source - length rest) (answered q (0 + length frame + 1) (Ok None)))) i)

    pub short_whole : (n parsed : ℕ) → into ≡ Ok (Some n) → parsed ≡ min (length source - length rest + length frame + 1) (length source) → Ok (report parsed n) ≡ decoded_from (length dest) source
    short_whole n parsed i p =
        ap (λ k. Ok (report k n)) (omega (arith, p))
        ∙ sym (short_is ∙ ap (λ q. reported (length source) (moved (length source - length rest) (answered q (0 + length frame + 1) (Ok None)))) i)

    -- the same of an answer by slices
    pub short_told : (answer : Result ℕ DecodeError) (parsed : ℕ) → into ≡ as_at_zero answer → parsed ≡ min (length source - length rest + length frame + 1) (length source) → with_parsed parsed answer ≡ decoded_from (length dest) source
    short_told (Ok n) parsed i p = short_whole n parsed i p
    short_told (Err x) parsed i p = short_refused x i

  -- the answer of the push
  pub pushed_refused : (x : DecodeError) → first_answer (length dest) [] rest 0 ≡ Err x → Err x ≡ decoded_from (length dest) source
  pushed_refused x a = sym (whole_is ∙ ap (λ q. reported (length source) (moved (length source - length rest) q)) (refused (splits rest)))
    where
      refused : Splits rest frame → first_answer (length dest) [] (frame ++ 0 ∷ []) 0 ≡ Err x
      refused (inl e) = elim (no_answer e) [
        | inl n ↦ (over n.0 (0 ∷ []) 0).0 ∙ sym n.1 ∙ a
        | inr n ↦ let never : ◌≡◌ {A = Result (Option DecodeReport) DecodeError} (Ok None) (Err x) = sym n.1 ∙ a in absurd (cc)
      ]
      refused (inr e) = sym (same_answer e.0 e.1) ∙ a

  pub pushed_whole : (q : DecodeReport) → first_answer (length dest) [] rest 0 ≡ Ok (Some q) → parsed_size q ≤ length rest → length rest ≤ length source
      → Ok (report (length source - length rest + parsed_size q) (frame_size q)) ≡ decoded_from (length dest) source
  pushed_whole q a l w =
      ap (λ n. Ok (report n (frame_size q))) (omega arith)
      ∙ sym (whole_is ∙ ap (λ o. reported (length source) (moved (length source - length rest) o)) (answer (splits rest)))
    where
      answer : Splits rest frame → first_answer (length dest) [] (frame ++ 0 ∷ []) 0 ≡ Ok (Some q)
      answer (inl e) = elim (no_answer e) [
        | inl n ↦ let never : ◌≡◌ {A = Result (Option DecodeReport) DecodeError} (Err TargetBufTooSmall) (Ok (Some q)) = sym n.1 ∙ a in absurd (cc)
        | inr n ↦ let never : ◌≡◌ {A = Result (Option DecodeReport) DecodeError} (Ok None) (Ok (Some q)) = sym n.1 ∙ a in absurd (cc)
      ]
      answer (inr e) = sym (same_answer e.0 e.1) ∙ a

  -- and of the zero then
  module _ (none : first_answer (length dest) [] rest 0 ≡ Ok None) where
    no_end : (rest ≡ frame) × (length (part frame) ≤ length dest)
    no_end = ends (splits rest)
      where
        ends : Splits rest frame → (rest ≡ frame) × (length (part frame) ≤ length dest)
        ends (inl e) = elim (no_answer e) [
          | inl n ↦ let never : ◌≡◌ {A = Result (Option DecodeReport) DecodeError} (Err TargetBufTooSmall) (Ok None) = sym n.1 ∙ none in absurd (cc)
          | inr n ↦ (e, n.0)
        ]
        ends (inr e) = elim (cases_lt (length dest) (length (part frame))) [
          | inl l ↦ let never : ◌≡◌ {A = Result (Option DecodeReport) DecodeError} (Err TargetBufTooSmall) (Ok None) = sym (over l (0 ∷ []) 0).0 ∙ sym (same_answer e.0 e.1) ∙ none in absurd (cc)
          | inr l ↦ absurd (zero_silent (length dest) frame _ (begun e.0 e.1) (sym (fits l (0 ∷ []) 0).0 ∙ sym (same_answer e.0 e.1) ∙ none))
        ]

    left_is : frame_left (length dest) [] rest ≡ frame
    left_is = ap (frame_left (length dest) []) (alone no_end.0) ∙ (fits no_end.1 [] 0).2

    then_is : (a : Result (Option ℕ) DecodeError) → at_zero (length dest) (frame_left (length dest) [] rest) ≡ a
        → decoded_from (length dest) source ≡ reported (length source) (moved (length source - length rest) (answered a (0 + length frame + 1) (Ok None)))
    then_is a e =
        whole_is
        ∙ ap (λ q. reported (length source) (moved (length source - length rest) q)) ((fits no_end.1 (0 ∷ []) 0).0
        ∙ ap (λ q. answered q (0 + length frame + 1) (Ok None)) (ap (at_zero (length dest)) (sym left_is) ∙ e))

    pub then_refused : (x : DecodeError) → at_zero (length dest) (frame_left (length dest) [] rest) ≡ Err x → Err x ≡ decoded_from (length dest) source
    then_refused x e = sym (then_is (Err x) e)

    pub then_empty : at_zero (length dest) (frame_left (length dest) [] rest) ≡ Ok None → Err EmptyFrame ≡ decoded_from (length dest) source
    then_empty e = sym (then_is (Ok None) e)

    pub then_whole : (n : ℕ) → at_zero (length dest) (frame_left (length dest) [] rest) ≡ Ok (Some n) → length rest ≤ length source → Ok (report (length source) n) ≡ decoded_from (length dest) source
    then_whole n e w = ap (λ k. Ok (report k n)) (omega (arith, ap length no_end.0, w)) ∙ sym (then_is (Ok (Some n)) e)

-- the answer where there is room for all before the first zero
pub told_fitting : (source rest old new : List ℕ) (answer : Result ℕ DecodeError) (end parsed : ℕ) → rest ≡ unpadded source → DecodesFront old (stretch (masked 0 rest)) new answer end
    → parsed ≡ min (length source) (length source - length rest + end + 1) → with_parsed parsed answer ≡ decoded_from (length old) source
told_fitting source rest old new answer end parsed r d p =
    let frame = stretch rest in
    let is : stretch (masked 0 rest) ≡ frame = ap stretch (masked_zero rest) in
    let long : end ≡ length frame = d.end ∙ ap length is in
    let fits : length frame ≤ length old + 1 = omega (arith, d.room, ap length is) in
    short_told source rest old r (omega (arith, part_shorter frame, fits)) (at_zero (length old) frame) refl answer parsed
    (zero_into (length old) frame (omega (arith, d.some, ap length is)) fits ∙ ap as_at_zero (sym (d.answers ∙ ap (decoded_into (length old)) is)))
    (omega (arith, p, long))

pub over_fitting : (source rest old new : List ℕ) (answer : Result ℕ DecodeError) (end : ℕ) → rest ≡ unpadded source → DecodesFront old (stretch (masked 0 rest)) new answer end → new ≡ overwritten (part (frame_in source)) old
over_fitting source rest old new answer end r d = d.buffer ∙ ap (λ b. overwritten (part (stretch b)) old) (masked_zero rest ∙ r)

-- a source with bytes before its first zero
pub unpadded_begun : (source : List ℕ) → 0 < length (stretch (masked 0 source)) → source ≡ unpadded source
unpadded_begun [] l = refl
unpadded_begun (b ∷ source) l = begun b source (subst (λ x. 0 < length (stretch x)) (masked_zero (b ∷ source)) l)
  where
    begun : (x : ℕ) (xs : List ℕ) → 0 < length (stretch (x ∷ xs)) → x ∷ xs ≡ unpadded (x ∷ xs)
    begun x xs m = elim (eqb_tells x 0) [
      | inl t ↦ let none : 0 < 0 = rw (eq-eqb x 0 t.1) at m in absurd (omega arith)
      | inr t ↦ sym (rw (ne_eqb x 0 t.1) refl)
    ]

-- bytes of which none is zero
unpadded_clear : (bytes : List ℕ) → NoZero bytes → unpadded bytes ≡ bytes
unpadded_clear [] h = refl
unpadded_clear (b ∷ bytes) h = rw (ne_eqb b 0 (λ e. omega (arith, h.0))) refl

module _ (bytes dest : List ℕ) (h : NoZero bytes) where
  alone_is : bytes ≡ unpadded bytes
  alone_is = sym (unpadded_clear bytes h)

  -- what stands in the buffer
  pub clear_over : buffer_left (length dest) [] bytes dest ≡ overwritten (part bytes) dest
  clear_over = pushed_over bytes bytes dest alone_is ∙ ap (λ f. overwritten (part f) dest) (ap stretch (sym alone_is) ∙ stretch_of bytes h)

  -- all of them are taken in where none is refused
  pub clear_taken : (o : Option DecodeReport) → first_answer (length dest) [] bytes 0 ≡ Ok o → frame_left (length dest) [] bytes ≡ bytes
  clear_taken o a =
      let same : bytes ≡ stretch bytes = sym (stretch_of bytes h) in
      let split : bytes ≡ stretch bytes ++ [] = same ∙ sym (append-nil (stretch bytes)) in
      elim (cases_lt (length dest) (length (part (stretch bytes)))) [
        | inl l ↦
            let never : ◌≡◌ {A = Result (Option DecodeReport) DecodeError} (Err TargetBufTooSmall) (Ok o) = sym (over bytes bytes dest alone_is l [] 0).0 ∙ ap (λ s. first_answer (length dest) [] s 0) (sym split) ∙ a in
            absurd (cc)
        | inr l ↦ ap (frame_left (length dest) []) split ∙ (fits bytes bytes dest alone_is l [] 0).2 ∙ sym same
      ]
