-- What one byte more changes in what is given of a stream, and in what is begun of it.
use Rattle.std.proofs.Common.{◌≡◌, ℕ, ◌<◌, ◌≤◌, List, [], ◌∷◌, ◌++◌, length, nat_lt, if◌then◌else◌, refl, sym, ap, ◌∙◌, subst, inl, inr, arith, append_assoc, ltb, append-nil, length-append, le-ltb, lt-ltb, eq-eqb, ne_eqb, bit_xor}
use Rattle.std.specs.List.{AllZip}
use Rattle.std.proofs.lemmas.Bool.{cond-false, cond-true, cases_lt, cases_eq}
use Rattle.std.proofs.lemmas.List.{map-append}
use Rattle.postcard_tree.specs.Tree.{Tree}
use Rattle.cobs.specs.Frames.{NoZero}
use Rattle.cobs.specs.Sentinel.{masked}
use Rattle.link.specs.Link.{Verdict, too_long, IsAnswer, begun_answers, Given, Begun, kept, over, begun, ended, unfinished, IsBegun}
use Rattle.link.specs.Steps.{Event, quiet, passed, end_of, event_at, begun_at}
use Rattle.link.specs.Lemmas.MaskLaws.{mask_twice, nonzero, NoZero-append}
use Rattle.link.specs.Lemmas.Pieces.{ends_at, ended_behind, unfinished_behind, ended_alone, unfinished_alone, ended_skip, ended_at, unfinished_at}
use Rattle.link.specs.Lemmas.HeardLaws.{zip_joined}

-- the answers that an event is about
abbrev pub AnswersEvent : (List ℕ → Tree → Type 0) → ℕ → Event → List Verdict → Type 0
AnswersEvent holds limit quiet answers = answers ≡ []
AnswersEvent holds limit (Event.ended p) answers =
    (a : Verdict) × IsAnswer holds limit p a × (answers ≡ a ∷ [])
AnswersEvent holds limit passed answers = answers ≡ too_long ∷ []

-- what is begun, by the unfinished stretch
abbrev pub begun_of : ℕ → List ℕ → Begun
begun_of limit rest = if nat_lt limit (length rest) then over else kept rest

-- how an unfinished stretch stands to the limit
short_begun : (limit : ℕ) (u : List ℕ) → length u ≤ limit → begun_of limit u ≡ kept u
short_begun limit u l = cond-false (ltb limit (length u)) over (kept u) (le-ltb limit (length u) l)

long_begun : (limit : ℕ) (u : List ℕ) → limit < length u → begun_of limit u ≡ over
long_begun limit u l = cond-true (ltb limit (length u)) over (kept u) (lt-ltb limit (length u) l)

pub short_answers : (limit : ℕ) (u : List ℕ) → length u ≤ limit → begun_answers limit u ≡ []
short_answers limit u l =
    cond-false (ltb limit (length u)) (too_long ∷ []) [] (le-ltb limit (length u) l)

long_answers : (limit : ℕ) (u : List ℕ) → limit < length u → begun_answers limit u ≡ too_long ∷ []
long_answers limit u l =
    cond-true (ltb limit (length u)) (too_long ∷ []) [] (lt-ltb limit (length u) l)

pub is_short : (limit : ℕ) (u p : List ℕ) → kept p ≡ begun_of limit u
    → (u ≡ p) × (length u ≤ limit)
is_short limit u p e = elim (cases_lt limit (length u)) [
  | inl l ↦ (let k = long_begun limit u l in cc)
  | inr l ↦ ((let k = short_begun limit u l in cc), l)
]

-- a stretch that the sentinel ends, unless it is empty
abbrev some_of : List ℕ → List (List ℕ)
some_of [] = []
some_of (b ∷ p) = (b ∷ p) ∷ []

module _ (s : ℕ) (stream : List ℕ) where
  -- what stands behind the last sentinel ends no stretch
  pub ended_front : ended s stream ≡ ended s (ends_at s stream).front
  ended_front =
      let h = ends_at s stream in
      let u = unfinished s stream in
      ap (ended s) h.whole ∙ ended_behind s h.front (masked s u) h.between
      ∙ ap (λ x. ended s h.front ++ x) (ended_alone s u h.nonzero) ∙ append-nil (ended s h.front)

  -- a byte of a stretch
  other_byte : (byte : ℕ) → (byte ≡ s → ⊥) → (ended s (stream ++ byte ∷ []) ≡ ended s stream)
      × (unfinished s (stream ++ byte ∷ []) ≡ unfinished s stream ++ bit_xor s byte ∷ [])
  other_byte byte ne =
      let h = ends_at s stream in
      let u = unfinished s stream in
      let c = bit_xor s byte ∷ [] in
      let nz : NoZero (u ++ c) = NoZero-append u c h.nonzero (nonzero s byte ne, tt) in
      let bytes : masked s (u ++ c) ≡ masked s u ++ byte ∷ [] =
      map-append (bit_xor s) u c ∙ ap (λ b. masked s u ++ b ∷ []) (mask_twice s byte) in
      let whole : stream ++ byte ∷ [] ≡ h.front ++ masked s (u ++ c) =
      ap (λ x. x ++ byte ∷ []) h.whole ∙ append_assoc h.front (masked s u) (byte ∷ [])
      ∙ ap (λ x. h.front ++ x) (sym bytes) in (
        ap (ended s) whole ∙ ended_behind s h.front (masked s (u ++ c)) h.between
            ∙ ap (λ x. ended s h.front ++ x) (ended_alone s (u ++ c) nz)
            ∙ append-nil (ended s h.front) ∙ sym ended_front,
        ap (unfinished s) whole ∙ unfinished_behind s h.front (masked s (u ++ c)) h.between
            ∙ unfinished_alone s (u ++ c) nz,
      )

  ended_mark : (u : List ℕ) → NoZero u → ended s (masked s u ++ s ∷ []) ≡ some_of u
  ended_mark [] z = ended_skip s [] ∙ ended_alone s [] tt
  ended_mark (b ∷ p) z = ended_at s b p [] z ∙ ap (λ x. (b ∷ p) ∷ x) (ended_alone s [] tt)

  -- the sentinel
  mark_byte : (ended s (stream ++ s ∷ []) ≡ ended s stream ++ some_of (unfinished s stream))
      × (unfinished s (stream ++ s ∷ []) ≡ [])
  mark_byte =
      let h = ends_at s stream in
      let u = unfinished s stream in
      let last = masked s u ++ s ∷ [] in
      let whole : stream ++ s ∷ [] ≡ h.front ++ last =
      ap (λ x. x ++ s ∷ []) h.whole ∙ append_assoc h.front (masked s u) (s ∷ []) in (
        ap (ended s) whole ∙ ended_behind s h.front last h.between
            ∙ ap (λ x. ended s h.front ++ x) (ended_mark u h.nonzero)
            ∙ ap (λ x. x ++ some_of u) (sym ended_front),
        ap (unfinished s) whole ∙ unfinished_behind s h.front last h.between
            ∙ unfinished_at s u [] h.nonzero ∙ unfinished_alone s [] tt,
      )

  -- nothing is begun behind it
  pub none_behind : (limit : ℕ) → IsBegun limit s (stream ++ s ∷ []) (kept [])
  none_behind limit = sym (ap (begun_of limit) mark_byte.1 ∙ short_begun limit [] (omega arith))

module _ (holds : List ℕ → Tree → Type 0) (limit s : ℕ) where
  long_mark : (u : List ℕ) (vs : List Verdict) → limit < length u → vs ≡ []
      → AllZip (IsAnswer holds limit) (some_of u) (too_long ∷ vs)
  long_mark [] vs l e = absurd (omega arith)
  long_mark (b ∷ p) vs l e = (l, subst (AllZip (IsAnswer holds limit) []) (sym e) tt)

  short_mark : (u : List ℕ) (vs : List Verdict) → AnswersEvent holds limit (end_of u) vs
      → AllZip (IsAnswer holds limit) (some_of u) vs
  short_mark [] vs h = subst (AllZip (IsAnswer holds limit) []) (sym h) tt
  short_mark (b ∷ p) vs h =
      subst (AllZip (IsAnswer holds limit) ((b ∷ p) ∷ [])) (sym h.2) (h.1, tt)

  -- what the sentinel ends has had its answer, or has it now
  at_mark : (u : List ℕ) (vs : List Verdict)
      → AnswersEvent holds limit (event_at limit s (begun_of limit u) s) vs
      → AllZip (IsAnswer holds limit) (some_of u) (begun_answers limit u ++ vs)
  at_mark u vs h = elim (cases_lt limit (length u)) [
    | inl l ↦ rw (lt-ltb limit (length u) l) (long_mark u vs l (rw (lt-ltb limit (length u) l) at h))
    | inr l ↦ rw (le-ltb limit (length u) l) (short_mark u vs (rw (le-ltb limit (length u) l, eq-eqb s s refl) at h))
  ]

  -- another byte leads on, and is answered where it is the one past the limit
  at_other : (u : List ℕ) (byte : ℕ) → (byte ≡ s → ⊥)
      → (begun_at limit s (begun_of limit u) byte ≡ begun_of limit (u ++ bit_xor s byte ∷ []))
      × ((vs : List Verdict) → AnswersEvent holds limit (event_at limit s (begun_of limit u) byte) vs
      → begun_answers limit u ++ vs ≡ begun_answers limit (u ++ bit_xor s byte ∷ []))
  at_other u byte ne =
      let v = u ++ bit_xor s byte ∷ [] in
      let n = length-append u (bit_xor s byte ∷ []) in
      elim (cases_lt limit (length u)) [
        | inl l ↦ (
            let long : limit < length v = omega (arith, l, n) in (
              rw (lt-ltb limit (length u) l, ne_eqb byte s ne) (sym (long_begun limit v long)),
              λ vs h. (
                  let none : vs ≡ [] = rw (lt-ltb limit (length u) l) at h in
                  ap (λ x. begun_answers limit u ++ x) none ∙ append-nil (begun_answers limit u)
                  ∙ long_answers limit u l ∙ sym (long_answers limit v long)),
            ))
        | inr l ↦ elim (cases_lt (length u) limit) [
          | inl m ↦ (
              let short : length v ≤ limit = omega (arith, m, n) in (
                rw (le-ltb limit (length u) l, ne_eqb byte s ne, lt-ltb (length u) limit m) (sym (short_begun limit v short)),
                λ vs h. (
                    let none : vs ≡ [] = rw (le-ltb limit (length u) l, ne_eqb byte s ne, lt-ltb (length u) limit m) at h in
                    ap (λ x. begun_answers limit u ++ x) none ∙ append-nil (begun_answers limit u)
                    ∙ short_answers limit u l ∙ sym (short_answers limit v short)),
              ))
          | inr m ↦ (
              let long : limit < length v = omega (arith, m, n) in (
                rw (le-ltb limit (length u) l, ne_eqb byte s ne, le-ltb (length u) limit m) (sym (long_begun limit v long)),
                λ vs h. (
                    let one : vs ≡ too_long ∷ [] = rw (le-ltb limit (length u) l, ne_eqb byte s ne, le-ltb (length u) limit m) at h in
                    ap (λ x. begun_answers limit u ++ x) one
                    ∙ ap (λ x. x ++ too_long ∷ []) (short_answers limit u l)
                    ∙ sym (long_answers limit v long)),
              ))
        ]
      ]

  at_sentinel : (b : Begun) → begun_at limit s b s ≡ kept []
  at_sentinel (kept p) = rw (eq-eqb s s refl) refl
  at_sentinel over = rw (eq-eqb s s refl) refl

  begun_here : (stream : List ℕ) (byte : ℕ)
      → begun_at limit s (begun limit s stream) byte ≡ begun limit s (stream ++ byte ∷ [])
  begun_here stream byte = elim (cases_eq byte s) [
    | inl e ↦ subst (λ c. begun_at limit s (begun limit s stream) c ≡ begun limit s (stream ++ c ∷ [])) (sym e)
        (at_sentinel (begun limit s stream) ∙ none_behind s stream limit)
    | inr ne ↦ (at_other (unfinished s stream) byte ne).0
        ∙ ap (begun_of limit) (sym (other_byte s stream byte ne).1)
  ]

  -- what is begun behind a byte
  pub begun_byte : (b : Begun) (stream : List ℕ) (byte : ℕ) → IsBegun limit s stream b
      → IsBegun limit s (stream ++ byte ∷ []) (begun_at limit s b byte)
  begun_byte b stream byte i = ap (λ c. begun_at limit s c byte) i ∙ begun_here stream byte

  given_here : (stream : List ℕ) (byte : ℕ) (us vs : List Verdict)
      → Given holds limit s stream us
      → AnswersEvent holds limit (event_at limit s (begun limit s stream) byte) vs
      → Given holds limit s (stream ++ byte ∷ []) (us ++ vs)
  given_here stream byte us vs g h =
      let u = unfinished s stream in
      let now = begun_answers limit u ++ vs in
      let said : us ++ vs ≡ g.done ++ now =
      ap (λ x. x ++ vs) g.whole ∙ append_assoc g.done (begun_answers limit u) vs in
      elim (cases_eq byte s) [
        | inl e ↦ subst (λ c. Given holds limit s (stream ++ c ∷ []) (us ++ vs)) (sym e) (
            let k = mark_byte s stream in
            let m = at_mark u vs (subst (λ c. AnswersEvent holds limit (event_at limit s (begun limit s stream) c) vs) e h) in
            record {
              done = g.done ++ now;
              each = subst (λ ps. AllZip (IsAnswer holds limit) ps (g.done ++ now)) (sym k.0)
                  (zip_joined (IsAnswer holds limit) (ended s stream) (some_of u) g.done now g.each m);
              whole = said ∙ sym (ap (λ x. (g.done ++ now) ++ begun_answers limit x) k.1
                  ∙ ap (λ x. (g.done ++ now) ++ x) (short_answers limit [] (omega arith))
                  ∙ append-nil (g.done ++ now));
            })
        | inr ne ↦ (
            let k = other_byte s stream byte ne in
            record {
              done = g.done;
              each = subst (λ ps. AllZip (IsAnswer holds limit) ps g.done) (sym k.0) g.each;
              whole = said ∙ ap (λ x. g.done ++ x)
                  ((at_other u byte ne).1 vs h ∙ ap (begun_answers limit) (sym k.1));
            })
      ]

  -- what is given behind a byte, by the event that it brings about
  pub given_byte : (b : Begun) (stream : List ℕ) (byte : ℕ) (us vs : List Verdict)
      → IsBegun limit s stream b → Given holds limit s stream us
      → AnswersEvent holds limit (event_at limit s b byte) vs
      → Given holds limit s (stream ++ byte ∷ []) (us ++ vs)
  given_byte b stream byte us vs i g h =
      given_here stream byte us vs g (subst (λ c. AnswersEvent holds limit (event_at limit s c byte) vs) i h)
