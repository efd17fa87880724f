-- Frames that are decoded at once, since there is room for them.
use Rattle.std.proofs.Common.{◌≡◌, ◌≢◌, ℕ, pred, ◌+◌, ◌-◌, ◌^◌, ◌<◌, ◌≤◌, Bool, true, false, List, [], ◌∷◌, ◌++◌, length, take, drop, get_or, length-drop, Result, Option, Some, Ok, Err, inl, inr, refl, ap, sym, subst, ◌∙◌, arith}
use Rattle.std.proofs.lemmas.List.{take_all, take_more, length-take-le, get_or-drop}
use Rattle.std.proofs.lemmas.Bool.{cases_lt, eq-eqb, ne_eqb, le-ltb, lt-ltb}
use Rattle.std.proofs.lemmas.Bool.Decides.{eqb_tells}
use Rattle.std.specs.Prelude.{bit_xor, nat_lt, ◌==◌, if◌then◌else◌}
use Rattle.cobs.specs.Frames.{part, part_from, after, missing}
use Rattle.cobs.specs.Feeding.{stands_by, standing, at_zero, placed}
use Rattle.cobs.specs.InPlace.{in_place, stretch, overwritten}
use Rattle.cobs.specs.Sentinel.{masked}
use Rattle.cobs.specs.Streaming.{HasStreamed}
use Rattle.cobs.specs.Taking.{left_in, answer_behind, with_parsed, TakesFront, DecodesFront}
use Rattle.cobs.specs.Whole.{decoded_into}
use Rattle.cobs.specs.declared.dec.report.DecodeError.{DecodeError}
use Rattle.cobs.specs.declared.dec.report.DecodeError.TheVariants.{InvalidFrame, TargetBufTooSmall}
use Rattle.cobs.specs.declared.dec.state.DecoderState.{DecoderState}
use Rattle.cobs.specs.declared.dec.progress.Progress.{Progress}
use Rattle.cobs.proofs.DecodingLemmas.{part_shorter}
use Rattle.cobs.proofs.OverwritingLemmas.{overwritten_short, placed_on, length-overwritten}
use Rattle.cobs.proofs.MaskingLemmas.{masked_drop}
use Rattle.cobs.proofs.PassingLemmas.{all_placed, placed_over}
use Rattle.cobs.proofs.ReadingLemmas.{Done}
use Rattle.cobs.proofs.WindowsLemmas.{one_part, one_after}
use Rattle.cobs.proofs.WithinLemmas.{placed_front}
use Rattle.cobs.proofs.WrittenLemmas.{front_then}

-- a code and what is behind it
pub code_first : (sentinel : ℕ) (frame : List ℕ) → 0 < length frame → masked sentinel frame ≡ bit_xor sentinel (get_or frame 0 0) ∷ masked sentinel (drop 1 frame)
code_first s [] l = absurd (omega arith)
code_first s (b ∷ frame) l = refl

-- the same of the bytes up to the end
pub all_behind : (frame : List ℕ) → take (length frame - 1) (drop 1 frame) ≡ drop 1 frame
all_behind frame = take_all (length frame - 1) (drop 1 frame) (omega (arith, length-drop 1 frame))

pub code_then : (sentinel : ℕ) (frame : List ℕ) → 0 < length frame → bit_xor sentinel (get_or frame 0 0) ∷ masked sentinel (take (length frame - 1) (drop 1 frame)) ≡ masked sentinel frame
code_then s frame some = ap (λ b. bit_xor s (get_or frame 0 0) ∷ masked s b) (all_behind frame) ∙ sym (code_first s frame some)

pub none_behind : (sentinel : ℕ) (frame : List ℕ) → ((k : ℕ) → k < length frame → get_or frame k 0 ≢ sentinel) → (k : ℕ) → k < length (take (length frame - 1) (drop 1 frame)) → get_or (take (length frame - 1) (drop 1 frame)) k 0 ≢ sentinel
none_behind s frame clear k l e =
    let all = all_behind frame in
    clear (1 + k) (omega (arith, l, ap length all, length-drop 1 frame)) (sym (get_or-drop 1 frame k 0) ∙ sym (ap (λ b. get_or b k 0) all) ∙ e)

-- how many bytes are missing
left_of : (a : ℕ × Bool) → left_in (stands_by a) ≡ a.0
left_of (n, true) = refl
left_of (n, false) = refl

left_missing : (frame : List ℕ) (state : DecoderState) → state ≡ standing frame → 0 < length frame → left_in state ≡ missing frame
left_missing [] state s l = absurd (omega arith)
left_missing (code ∷ bytes) state s l = ap left_in s ∙ left_of (after 0 false (code ∷ bytes))

-- an answer by what is missing
answer_is : (room long less len : ℕ) (state : DecoderState) → left_in state ≡ less → len ≡ long → long ≤ room
    → answer_behind state len ≡ (if less == 0 then (if nat_lt room long then Err TargetBufTooSmall else Ok long) else Err (InvalidFrame long))
answer_is room long less len state s l fits = rw (s, l, le-ltb room long fits) refl

-- the answer of decoding in place, which has room
pub answer_in_place : (room : ℕ) (frame : List ℕ) → length (part frame) ≤ room → with_parsed (length frame) (decoded_into room frame) ≡ in_place frame
answer_in_place room frame fits = elim (eqb_tells (missing frame) 0) [
  | inl t ↦ rw (eq-eqb (missing frame) 0 t.1, le-ltb room (length (part frame)) fits) refl
  | inr t ↦ rw (ne_eqb (missing frame) 0 t.1) refl
]

left_standing : (frame : List ℕ) → left_in (standing frame) ≡ missing frame
left_standing [] = refl
left_standing (code ∷ bytes) = left_of (after 0 false (code ∷ bytes))

-- the same once all of a stretch was taken in
pub done_answer : (source : List ℕ) (read : ℕ) (d : Progress) → Done source read d → with_parsed read (answer_behind d.state d.len) ≡ in_place (stretch source)
done_answer source read d t =
    let frame = stretch source in
    let room = length (part frame) in
    let left : left_in d.state ≡ missing frame = ap left_in t.stands ∙ left_standing frame in
    ap (with_parsed read) (answer_is room room (missing frame) d.len d.state left t.counts (omega arith))
    ∙ ap (λ n. with_parsed n (decoded_into room frame)) t.parsed
    ∙ answer_in_place room frame (omega arith)

-- what a function answers that decodes the bytes before the sentinel
pub decodes_front : (old new frame : List ℕ) (answer : Result ℕ DecodeError) (end : ℕ) → answer ≡ decoded_into (length old) frame → end ≡ length frame → 0 < end → end ≤ length old + 1 → new ≡ overwritten (part frame) old
    → DecodesFront old frame new answer end
decodes_front old new frame answer end a e some room b = record {
  answers = a;
  end = e;
  some = omega (arith, e, some);
  room = omega (arith, e, room);
  buffer = b;
}

-- the same of bytes for which there may be no room
module _ (room : ℕ) (frame : List ℕ) (d : Progress) (s : HasStreamed d frame) (few : length frame < 2 ^ 64) where
  counted : d.len ≡ length (part frame)
  counted = omega (arith, s.len, few, part_shorter frame)

  left_counted : left_in d.state ≡ missing frame
  left_counted = ap left_in s.state ∙ left_standing frame

  counted_broken : left_in d.state ≢ 0 → Err (InvalidFrame d.len) ≡ decoded_into room frame
  counted_broken n = ap (λ k. Err (InvalidFrame k)) counted ∙ sym (rw (ne_eqb (missing frame) 0 (λ e. n (left_counted ∙ e))) refl)

  pub counted_over : left_in d.state ≡ 0 → room < d.len → Err TargetBufTooSmall ≡ decoded_into room frame
  counted_over z l = sym (rw (eq-eqb (missing frame) 0 (sym left_counted ∙ z), lt-ltb room (length (part frame)) (omega (arith, l, counted))) refl)

  counted_whole : left_in d.state ≡ 0 → d.len ≤ room → Ok d.len ≡ decoded_into room frame
  counted_whole z l = ap (λ k. Ok k) counted ∙ sym (rw (eq-eqb (missing frame) 0 (sym left_counted ∙ z), le-ltb room (length (part frame)) (omega (arith, l, counted))) refl)

  pub counted_answer : (left_in d.state ≡ 0 → d.len ≤ room) → answer_behind d.state d.len ≡ decoded_into room frame
  counted_answer fits = elim (eqb_tells (left_in d.state) 0) [
    | inl t ↦ rw (eq-eqb (left_in d.state) 0 t.1) (counted_whole t.1 (fits t.1))
    | inr t ↦ rw (ne_eqb (left_in d.state) 0 t.1) (counted_broken t.1)
  ]

module _ (room : ℕ) (frame : List ℕ) (d : Progress) (s : HasStreamed d frame) (some : 0 < length frame) (few : length frame < 2 ^ 64) (fits : length frame ≤ room + 1) where
  len_is : d.len ≡ length (part frame)
  len_is = omega (arith, s.len, few, part_shorter frame)

  pub short_answer : answer_behind d.state d.len ≡ decoded_into room frame
  short_answer =
      answer_is room (length (part frame)) (missing frame) d.len d.state (left_missing frame d.state s.state some) len_is
      (omega (arith, fits, part_shorter frame))

-- A frame of one window, whose code is first: behind the code of a full block there is none that isn't its.
module _ (frame bytes : List ℕ) (code : ℕ) (f : frame ≡ code ∷ bytes) (few : length bytes ≤ 254) (some : 0 < code) (byte : code < 256) where
  pub window_part : part frame ≡ part_from (code - 1) true bytes
  window_part = elim (cases_lt code 255) [
    | inl l ↦ ap part f ∙ ap (λ t. part_from (pred code) t bytes) (lt-ltb code 255 l) ∙ ap (λ k. part_from k true bytes) (omega arith)
    | inr l ↦
        let full : code ≡ 255 = omega (arith, l) in
        ap part (f ∙ ap (λ k. k ∷ bytes) full) ∙ one_part 254 false bytes few ∙ sym (one_part 254 true bytes few) ∙ ap (λ k. part_from k true bytes) (omega (arith, full))
  ]

  pub window_missing : missing frame ≡ (after (code - 1) true bytes).0
  window_missing = elim (cases_lt code 255) [
    | inl l ↦ ap missing f ∙ ap (λ t. (after (pred code) t bytes).0) (lt-ltb code 255 l) ∙ ap (λ k. (after k true bytes).0) (omega arith)
    | inr l ↦
        let full : code ≡ 255 = omega (arith, l) in
        ap missing (f ∙ ap (λ k. k ∷ bytes) full) ∙ ap (λ a. a.0) (one_after 254 false bytes few) ∙ sym (ap (λ a. a.0) (one_after 254 true bytes few)) ∙ ap (λ k. (after k true bytes).0) (omega (arith, full))
  ]

  module _ (out old : List ℕ) (n : ℕ) (state : DecoderState) (long : length out ≡ n) (room : n ≤ length old) (o : out ≡ part_from (code - 1) true bytes) (s : state ≡ stands_by (after (code - 1) true bytes)) where
    message : out ≡ part frame
    message = o ∙ sym window_part

    fits : length (part frame) ≤ length old
    fits = omega (arith, ap length message, long, room)

    left : left_in state ≡ missing frame
    left = ap left_in s ∙ left_of (after (code - 1) true bytes) ∙ sym window_missing

    count : length (part frame) ≡ n
    count = sym (ap length message) ∙ long

    pub window_answer : answer_behind state n ≡ decoded_into (length old) frame
    window_answer = answer_is (length old) (length (part frame)) (missing frame) n state left (sym count) fits

    -- the same as the answer of decoding in place
    pub window_report : (end : ℕ) → end ≡ length frame → with_parsed end (answer_behind state n) ≡ in_place frame
    window_report end w = rw (w, window_answer) (answer_in_place (length old) frame fits)

    pub window_over : (new : List ℕ) → new ≡ out ++ drop n old → new ≡ overwritten (part frame) old
    window_over new put =
        put ∙ ap (λ m. m ++ drop n old) message ∙ ap (λ j. part frame ++ drop j old) (sym count) ∙ sym (overwritten_short (part frame) old fits)

-- the same as a streaming decoder's answer to the zero behind it
abbrev pub as_at_zero : Result ℕ DecodeError → Result (Option ℕ) DecodeError
as_at_zero (Ok n) = Ok (Some n)
as_at_zero (Err e) = Err e

pub zero_into : (room : ℕ) (frame : List ℕ) → 0 < length frame → length frame ≤ room + 1 → at_zero room frame ≡ as_at_zero (decoded_into room frame)
zero_into room [] some l = absurd (omega arith)
zero_into room (code ∷ bytes) some l =
    let frame : List ℕ = code ∷ bytes in
    let fits : length (part frame) ≤ room = omega (arith, l, part_shorter frame) in
    elim (eqb_tells (missing frame) 0) [
      | inl t ↦ rw (eq-eqb (missing frame) 0 t.1, le-ltb room (length (part frame)) fits) refl
      | inr t ↦ rw (ne_eqb (missing frame) 0 t.1) (ap (λ n. Err (InvalidFrame n)) (omega (arith, fits)))
    ]

-- The first bytes of a frame were taken in.
pub record Entering (bytes source dest : List ℕ) (read : ℕ) (d : Progress) : Type 0 where
  pub within : read ≤ length bytes
  pub stands : HasStreamed d (take read bytes)
  pub holds : dest ≡ overwritten (part (take read bytes)) source

pub entering_new : (bytes source : List ℕ) (d : Progress) → HasStreamed d [] → Entering bytes source source 0 d
entering_new bytes source d s = record {
  within = omega arith;
  stands = s;
  holds = sym (ap (λ m. m ++ source) (take_all (length source) [] (omega arith)));
}

module _ (bytes source dest : List ℕ) (read : ℕ) (d : Progress) (r : Entering bytes source dest read d) where
  pub entered_long : length dest ≡ length source
  entered_long = ap length r.holds ∙ length-overwritten (part (take read bytes)) source

  pub entered_shorter : length bytes < 2 ^ 64 → d.len ≤ read - 1
  entered_shorter w = omega (arith, r.stands.len, r.within, w, part_shorter (take read bytes), length-take-le read bytes r.within)

  -- a byte more
  pub entering_byte : (d' : Progress) (dest' : List ℕ) (byte : ℕ) → read < length bytes → get_or bytes read 0 ≡ byte → 0 < byte
      → ((p : List ℕ) → HasStreamed d p → HasStreamed d' (p ++ byte ∷ [])) → ((p : List ℕ) → HasStreamed d p → dest' ≡ placed p byte dest) → Entering bytes source dest' (read + 1) d'
  entering_byte d' dest' byte l e p t h =
      let more : take (read + 1) bytes ≡ take read bytes ++ byte ∷ [] = take_more bytes read 0 l ∙ ap (λ b. take read bytes ++ b ∷ []) e in
      record {
        within = omega arith;
        stands = subst (HasStreamed d') (sym more) (t (take read bytes) r.stands);
        holds = h (take read bytes) r.stands ∙ placed_on (take read bytes) byte source dest p r.holds ∙ ap (λ b. overwritten (part b) source) (sym more);
      }

  -- bytes that were taken in at once
  module _ (n : ℕ) (d' : Progress) (dest' : List ℕ) (f : TakesFront (take read bytes) (drop read bytes) dest n d' dest') where
    front : take read bytes ++ take n (drop read bytes) ≡ take (read + n) bytes
    front = ap (λ j. take read bytes ++ take j (drop read bytes)) (omega arith) ∙ front_then read (read + n) bytes (omega arith)

    put : dest' ≡ all_placed (take read bytes) (take n (drop read bytes)) dest
    put = placed_front (take read bytes) (drop read bytes) dest n d' dest' f

    pub entering_front : Entering bytes source dest' (read + n) d'
    entering_front = record {
      within = omega (arith, f.within, length-drop read bytes, r.within);
      stands = subst (HasStreamed d') front f.has;
      holds = put ∙ ap (all_placed (take read bytes) (take n (drop read bytes))) r.holds ∙ placed_over (take read bytes) (take n (drop read bytes)) source f.clear ∙ ap (λ b. overwritten (part b) source) front;
    }

-- the bytes behind those that were read
pub behind_read : (sentinel read : ℕ) (frame : List ℕ) → masked sentinel (take (length frame - read) (drop read frame)) ≡ drop read (masked sentinel frame)
behind_read s read frame = ap (masked s) (take_all (length frame - read) (drop read frame) (omega (arith, length-drop read frame))) ∙ sym (masked_drop s read frame)
