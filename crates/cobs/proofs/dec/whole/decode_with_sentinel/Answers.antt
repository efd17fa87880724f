use Rattle.std.proofs.Common.{◌≡◌, length, refl, ap, ◌∙◌, subst}
use Rattle.std.specs.Prelude.{IfSome, IsNone}
use Rattle.cobs.specs.Frames.{part}
use Rattle.cobs.specs.InPlace.{stretch, overwritten}
use Rattle.cobs.specs.Sentinel.{masked}
use Rattle.cobs.specs.Taking.{DecodesFront, DecodesInto}
use Rattle.cobs.specs.Whole.{decoded_into}
use Rattle.cobs.proofs.VerdictsLemmas.{into_frame, into_no_frame, stretch_masked}
use Rattle.cobs.proofs.dec.whole.decode_with_sentinel.Goals as goal
use Rattle.cobs.proofs.dec.whole.decode_with_sentinel.Goals.{Joined-sentinel-eq0, In-Some, After-decode_stretch, then-sentinel-eq0, else-sentinel-eq0}

-- what either copy did
done : (c : Joined-sentinel-eq0) → IfSome c.if-sentinel-eq0.part (λ t. DecodesFront c.args.dest.now (stretch (masked c.args.sentinel c.args.source.now)) c.if-sentinel-eq0.dest t.0 t.1)
done c = elim c.if-sentinel-eq0.branch [
  | then-sentinel-eq0 w ↦ rw (w.part-is, w.dest-is) w.decode_part-part.ensures.done
  | else-sentinel-eq0 w ↦ rw (w.part-is, w.dest-is) w.decode_part-part-else-sentinel-eq0.ensures.done
]

same : (c : Joined-sentinel-eq0) → IsNone c.if-sentinel-eq0.part → c.if-sentinel-eq0.dest ≡ c.args.dest.now
same c z = elim c.if-sentinel-eq0.branch [
  | then-sentinel-eq0 w ↦ w.dest-is ∙ w.decode_part-part.ensures.same (subst IsNone w.part-is z)
  | else-sentinel-eq0 w ↦ w.dest-is ∙ w.decode_part-part-else-sentinel-eq0.ensures.same (subst IsNone w.part-is z)
]

some_into : (c : In-Some) → DecodesInto c.args.dest.now (stretch (masked c.args.sentinel c.args.source.now)) c.if-sentinel-eq0.dest c.in-Some.answer
some_into c = let d = rw c.in-Some.is at (done (goal.at.In-Some c).Joined-sentinel-eq0) in record { answer = d.answers; dest = d.buffer }

none_into : (c : After-decode_stretch) → DecodesInto c.args.dest.now (stretch (masked c.args.sentinel c.args.source.now)) c.decode_stretch.new.dest c.decode_stretch.result
none_into c =
    let frame = stretch (masked c.args.sentinel c.args.source.now) in
    let kept = same (goal.at.After-decode_stretch c).Joined-sentinel-eq0 (rw c.in-None.is refl) in
    record {
      answer = c.decode_stretch.ensures.answer ∙ ap (λ d. decoded_into (length d) frame) kept;
      dest = c.decode_stretch.ensures.dest ∙ ap (overwritten (part frame)) kept;
    }

pub returns-in-Some-clause-frame : goal.returns-in-Some-clause-frame
returns-in-Some-clause-frame c =
    let d = some_into c in
    into_frame (stretch (masked c.args.sentinel c.args.source.now)) c.args.dest.now c.in-Some.answer c.if-sentinel-eq0.dest
    (stretch_masked c.args.sentinel c.args.source.now c.ranges.sentinel.fits (λ k. (c.type_inv.source k).fits)) d.answer d.dest

pub returns-in-Some-clause-no_frame : goal.returns-in-Some-clause-no_frame
returns-in-Some-clause-no_frame c = into_no_frame (stretch (masked c.args.sentinel c.args.source.now)) c.args.dest.now c.in-Some.answer (some_into c).answer

pub returns-in-None-clause-frame : goal.returns-in-None-clause-frame
returns-in-None-clause-frame c =
    let d = none_into (goal.at.returns-in-None-clause-frame c).After-decode_stretch in
    into_frame (stretch (masked c.args.sentinel c.args.source.now)) c.args.dest.now c.decode_stretch.result c.decode_stretch.new.dest
    (stretch_masked c.args.sentinel c.args.source.now c.ranges.sentinel.fits (λ k. (c.type_inv.source k).fits)) d.answer d.dest

pub returns-in-None-clause-no_frame : goal.returns-in-None-clause-no_frame
returns-in-None-clause-no_frame c =
    into_no_frame (stretch (masked c.args.sentinel c.args.source.now)) c.args.dest.now c.decode_stretch.result (none_into (goal.at.returns-in-None-clause-no_frame c).After-decode_stretch).answer
