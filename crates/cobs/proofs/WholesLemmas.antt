-- What decoding a whole source answers.
use Rattle.std.proofs.Common.{◌≡◌, ℕ, ◌+◌, ◌<◌, List, [], ◌∷◌, ◌++◌, length, take, drop, get_or, Result, Ok, Err, inl, inr, refl, ap, sym, ◌∙◌, arith, subst}
use Rattle.std.proofs.lemmas.List.{take_more, take_at}
use Rattle.std.proofs.lemmas.Bool.{eq-eqb, ne_eqb}
use Rattle.std.proofs.lemmas.Bool.Decides.{eqb_tells}
use Rattle.std.specs.Prelude.{bit_xor}
use Rattle.cobs.specs.Frames.{NoZero, part, missing}
use Rattle.cobs.specs.InPlace.{stretch, overwritten, in_place}
use Rattle.cobs.specs.Reports.{report, frame_size}
use Rattle.cobs.specs.Sentinel.{masked}
use Rattle.cobs.specs.Whole.{unpadded, frame_in, message_of_stretch, message_of_frame}
use Rattle.cobs.specs.declared.dec.report.DecodeError.{DecodeError}
use Rattle.cobs.specs.declared.dec.report.DecodeError.TheVariants.{EmptyFrame, InvalidFrame}
use Rattle.cobs.specs.declared.dec.report.DecodeReport.{DecodeReport}
use Rattle.cobs.specs.declared.dec.progress.Progress.{Progress}
use Rattle.cobs.specs.Streaming.{HasStreamed}
use Rattle.cobs.proofs.MaskingLemmas.{masked_zero, masked_length, masked_get}
use Rattle.cobs.proofs.SourcesLemmas.{stretch_clear, clear_at, stretch_of, stretch_within}
use Rattle.cobs.proofs.DecodingLemmas.{part_shorter}
use Rattle.cobs.proofs.OverwritingLemmas.{front}

-- the frame that decoding finds
pub found : (source rest frame : List ℕ) → rest ≡ unpadded source → masked 0 frame ≡ stretch (masked 0 rest) → frame ≡ frame_in source
found source rest frame r f = sym (masked_zero frame) ∙ f ∙ ap stretch (masked_zero rest ∙ r)

pub found_clear : (source frame : List ℕ) → frame ≡ frame_in source → NoZero frame
found_clear source frame e = subst NoZero (sym e) (stretch_clear (unpadded source))

-- one byte of a frame more was taken in
pub entering_on : (sentinel : ℕ) (bytes : List ℕ) (i : ℕ) (d d' : Progress) → HasStreamed d (take i (masked sentinel bytes)) → i < length bytes
    → ((p : List ℕ) → HasStreamed d p → HasStreamed d' (p ++ bit_xor sentinel (get_or bytes i 0) ∷ [])) → HasStreamed d' (take (i + 1) (masked sentinel bytes))
entering_on s bytes i d d' h l t =
    let p = take i (masked s bytes) in
    rw (take_more (masked s bytes) i 0 (omega (arith, l, masked_length s bytes)) ∙ ap (λ b. p ++ b ∷ []) (masked_get s bytes i l)) (t p h)

pub entering_positive : (sentinel : ℕ) (bytes : List ℕ) (i : ℕ) → NoZero (masked sentinel bytes) → i < length bytes → 0 < bit_xor sentinel (get_or bytes i 0)
entering_positive s bytes i clear l = rw (masked_get s bytes i l) at (clear_at (masked s bytes) i clear (omega (arith, l, masked_length s bytes)))

-- a vector's elements after a write of all of them
pub refilled : (n : ℕ) (old new : List ℕ) → n ≡ length old → length new ≡ length old → take n (new ++ drop (length new) old) ≡ new
refilled n old new e l = take_at new (drop (length new) old) n (omega (arith, e, l))

-- the message of a vector
pub vector_whole : (sentinel : ℕ) (bytes : List ℕ) (r : DecodeReport) (buffer last : List ℕ) → Ok r ≡ in_place (stretch (masked sentinel bytes)) → buffer ≡ overwritten (part (stretch (masked sentinel bytes))) bytes → last ≡ take (frame_size r) buffer
    → message_of_stretch (stretch (masked sentinel bytes)) ≡ Ok last
vector_whole s bytes r buffer last a b e =
    let p = stretch (masked s bytes) in
    elim (eqb_tells (missing p) 0) [
      | inl t ↦
          let is : ◌≡◌ {A = Result DecodeReport DecodeError} (Ok r) (Ok (report (length p) (length (part p)))) = a ∙ (rw (eq-eqb (missing p) 0 t.1) refl) in
          let whole : r ≡ report (length p) (length (part p)) = cc in
          let long : frame_size r ≡ length (part p) = ap frame_size whole in
          rw (eq-eqb (missing p) 0 t.1) (ap (λ m. Ok m) (sym (e ∙ ap (take (frame_size r)) b ∙ front bytes (part p) (frame_size r) long (omega (arith, long, part_shorter p, stretch_within (masked s bytes), masked_length s bytes)))))
      | inr t ↦
          let is : ◌≡◌ {A = Result DecodeReport DecodeError} (Ok r) (Err (InvalidFrame (length (part p)))) = a ∙ (rw (ne_eqb (missing p) 0 t.1) refl) in
          absurd (cc)
    ]

-- no bytes are no frame
pub empty_frame : (source frame : List ℕ) → frame ≡ frame_in source → length frame ≡ 0 → message_of_frame (frame_in source) ≡ Err EmptyFrame
empty_frame source [] e l = ap message_of_frame (sym e)
empty_frame source (code ∷ bytes) e l = absurd (omega arith)

-- and others are one by themselves
pub other_frame : (source frame items : List ℕ) → frame ≡ frame_in source → 0 < length frame → items ≡ frame → message_of_stretch (stretch items) ≡ message_of_frame (frame_in source)
other_frame source [] items e l i = absurd (omega arith)
other_frame source (code ∷ bytes) items e l i = ap (λ b. message_of_stretch (stretch b)) i ∙ ap message_of_stretch (stretch_of (code ∷ bytes) (found_clear source (code ∷ bytes) e)) ∙ ap message_of_frame e

-- the same where each byte was XORed
pub masked_stretch : (source bytes items : List ℕ) (sentinel : ℕ) → masked sentinel bytes ≡ stretch (masked sentinel source) → items ≡ masked sentinel bytes → stretch items ≡ stretch (masked sentinel source)
masked_stretch source bytes items sentinel e i = ap stretch (i ∙ e) ∙ stretch_of (stretch (masked sentinel source)) (stretch_clear (masked sentinel source))
