use Rattle.std.proofs.Common.{◌≡◌, ◌≢◌, ◌<◌, ℕ, List, [], length, take, get_or, Result, Ok, Err, inl, inr, sym, ap, subst, refl, ◌∙◌, arith}
use Rattle.std.proofs.lemmas.Bool.{eq-eqb, ne_eqb}
use Rattle.std.proofs.lemmas.Bool.Decides.{eqb_tells}
use Rattle.cobs.specs.Frames.{Frame, NoZero, part, missing}
use Rattle.cobs.specs.InPlace.{stretch, in_place, in_place_length, overwritten, DecodesInPlace}
use Rattle.cobs.specs.Reports.{report, frame_size}
use Rattle.cobs.specs.Sentinel.{masked}
use Rattle.cobs.specs.declared.dec.report.DecodeError.{DecodeError}
use Rattle.cobs.specs.declared.dec.report.DecodeError.TheVariants.{InvalidFrame}
use Rattle.cobs.specs.declared.dec.report.DecodeReport.{DecodeReport}
use Rattle.cobs.proofs.DecodingLemmas.{part_shorter}
use Rattle.cobs.proofs.MaskingLemmas.{masked_length}
use Rattle.cobs.proofs.SourcesLemmas.{stretch_of, clear_at, clear_byte}
use Rattle.cobs.proofs.VerdictsLemmas.{in_place_frame, in_place_no_frame}
use Rattle.cobs.proofs.dec.in_place.decode_clear_in_place.Goals as goal
use Rattle.cobs.proofs.dec.in_place.decode_clear_in_place.Goals.{Joined-end-gt255, then-end-gt255, else-end-gt255}

-- a report's size alone
sized : (p : List ℕ) (q : DecodeReport) → Ok q ≡ in_place p → (frame_size q ≡ length (part p)) × (◌≡◌ {A = Result ℕ DecodeError} (Ok (frame_size q)) (in_place_length p))
sized p q a = elim (eqb_tells (missing p) 0) [
  | inl t ↦
      let is : ◌≡◌ {A = Result DecodeReport DecodeError} (Ok q) (Ok (report (length p) (length (part p)))) = a ∙ rw (eq-eqb (missing p) 0 t.1) refl in
      let same : q ≡ report (length p) (length (part p)) = cc in
      let n : frame_size q ≡ length (part p) = ap frame_size same in
      (n, rw (eq-eqb (missing p) 0 t.1) (ap Ok n))
  | inr t ↦
      let is : ◌≡◌ {A = Result DecodeReport DecodeError} (Ok q) (Err (InvalidFrame (length (part p)))) = a ∙ rw (ne_eqb (missing p) 0 t.1) refl in
      absurd (cc)
]

-- an error is the same
not_sized : (p : List ℕ) (x : DecodeError) → ◌≡◌ {A = Result DecodeReport DecodeError} (Err x) (in_place p) → ◌≡◌ {A = Result ℕ DecodeError} (Err x) (in_place_length p)
not_sized p x a = elim (eqb_tells (missing p) 0) [
  | inl t ↦
      let is : ◌≡◌ {A = Result DecodeReport DecodeError} (Err x) (Ok (report (length p) (length (part p)))) = a ∙ rw (eq-eqb (missing p) 0 t.1) refl in
      absurd (cc)
  | inr t ↦
      let is : ◌≡◌ {A = Result DecodeReport DecodeError} (Err x) (Err (InvalidFrame (length (part p)))) = a ∙ rw (ne_eqb (missing p) 0 t.1) refl in
      rw (ne_eqb (missing p) 0 t.1) (cc)
]

none : (s : ℕ) (bytes : List ℕ) → NoZero (masked s bytes) → (k : ℕ) → k < length bytes → get_or bytes k 0 ≢ s
none s bytes z k l = clear_byte s bytes k l (clear_at (masked s bytes) k z (omega (arith, l, masked_length s bytes)))

pub decode_long_in_place-decoded-requires-clause-begins : goal.decode_long_in_place-decoded-requires-clause-begins
decode_long_in_place-decoded-requires-clause-begins c = none c.args.sentinel c.args.frame.now c.requires 0 (omega (arith, c.if-end-gt255.true))

pub decode_short_in_place-decoded-requires-clause-stops : goal.decode_short_in_place-decoded-requires-clause-stops
decode_short_in_place-decoded-requires-clause-stops c = record {
  within = omega arith;
  none = none c.args.sentinel c.args.frame.now c.requires;
  end = λ l. absurd (omega (arith, l));
}

-- what either of both did
decoded_here : (c : Joined-end-gt255) → DecodesInPlace c.args.frame.now (stretch (masked c.args.sentinel c.args.frame.now)) c.if-end-gt255.frame c.if-end-gt255.decoded
decoded_here c = elim c.if-end-gt255.branch [
  | then-end-gt255 w ↦ rw (w.frame-is, w.decoded-is) w.decode_long_in_place-decoded.ensures
  | else-end-gt255 w ↦ rw (w.frame-is, w.decoded-is) w.decode_short_in_place-decoded.ensures
]

-- its answer, of the frame itself
answered : (c : Joined-end-gt255) → c.if-end-gt255.decoded ≡ in_place (masked c.args.sentinel c.args.frame.now)
answered c = (decoded_here c).answer ∙ ap in_place (stretch_of (masked c.args.sentinel c.args.frame.now) c.requires)

written : (c : Joined-end-gt255) → c.if-end-gt255.frame ≡ overwritten (part (masked c.args.sentinel c.args.frame.now)) c.args.frame.now
written c = (decoded_here c).buffer ∙ ap (λ p. overwritten (part p) c.args.frame.now) (stretch_of (masked c.args.sentinel c.args.frame.now) c.requires)

pub returns-in-Ok-clause-answer : goal.returns-in-Ok-clause-answer
returns-in-Ok-clause-answer c =
    ap Ok c.frame_size.ensures ∙ (sized (masked c.args.sentinel c.args.frame.now) c.in-Ok.told (sym c.in-Ok.is ∙ answered (goal.at.returns-in-Ok-clause-answer c).Joined-end-gt255)).1

pub returns-in-Ok-clause-frame : goal.returns-in-Ok-clause-frame
returns-in-Ok-clause-frame c =
    let p = masked c.args.sentinel c.args.frame.now in
    let new = c.if-end-gt255.frame in
    let e = decoded_here (goal.at.returns-in-Ok-clause-frame c).Joined-end-gt255 in
    subst (λ n. p ≢ [] → Frame p (take n new)) (sym c.frame_size.ensures)
    (subst (λ x. x ≢ [] → Frame x (take (frame_size c.in-Ok.told) new)) (stretch_of p c.requires)
    (in_place_frame c.args.sentinel c.args.frame.now new c.ranges.sentinel.fits e.bytes e.buffer (Ok c.in-Ok.told) (sym c.in-Ok.is ∙ e.answer)))

pub returns-in-Ok-clause-buffer : goal.returns-in-Ok-clause-buffer
returns-in-Ok-clause-buffer c = written (goal.at.returns-in-Ok-clause-buffer c).Joined-end-gt255

pub returns-in-Ok-clause-within : goal.returns-in-Ok-clause-within
returns-in-Ok-clause-within c =
    let p = masked c.args.sentinel c.args.frame.now in
    omega (arith, c.frame_size.ensures, (sized p c.in-Ok.told (sym c.in-Ok.is ∙ answered (goal.at.returns-in-Ok-clause-within c).Joined-end-gt255)).0, part_shorter p, masked_length c.args.sentinel c.args.frame.now)

pub returns-in-Err-clause-answer : goal.returns-in-Err-clause-answer
returns-in-Err-clause-answer c =
    not_sized (masked c.args.sentinel c.args.frame.now) c.in-Err.error (sym c.in-Err.is ∙ answered (goal.at.returns-in-Err-clause-answer c).Joined-end-gt255)

pub returns-in-Err-clause-no_frame : goal.returns-in-Err-clause-no_frame
returns-in-Err-clause-no_frame c =
    let p = masked c.args.sentinel c.args.frame.now in
    let e = decoded_here (goal.at.returns-in-Err-clause-no_frame c).Joined-end-gt255 in
    subst (λ x. (m : List ℕ) → Frame x m → ⊥) (stretch_of p c.requires)
    (in_place_no_frame c.args.sentinel c.args.frame.now c.if-end-gt255.frame c.ranges.sentinel.fits e.bytes e.buffer (Err c.in-Err.error) (sym c.in-Err.is ∙ e.answer))

pub returns-in-Err-clause-buffer : goal.returns-in-Err-clause-buffer
returns-in-Err-clause-buffer c = written (goal.at.returns-in-Err-clause-buffer c).Joined-end-gt255
