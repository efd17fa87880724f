use Rattle.std.proofs.Common.{refl, ◌∙◌, ap, sym, subst, length}
use Rattle.cobs.specs.Frames.{NoZero, part}
use Rattle.cobs.specs.InPlace.{stretch, overwritten}
use Rattle.cobs.specs.Sentinel.{masked}
use Rattle.cobs.specs.Taking.{DecodesFront}
use Rattle.cobs.specs.Whole.{decoded_into}
use Rattle.cobs.proofs.SourcesLemmas.{stretch_again, stretch_clear}
use Rattle.cobs.proofs.dec.whole.decode_stretch.Goals as goal
use Rattle.cobs.proofs.dec.whole.decode_stretch.Goals.{In-Some}

-- the bytes before the first sentinel were decoded
front : (c : In-Some) → DecodesFront c.args.dest.now (stretch (masked c.args.sentinel c.args.source.now)) c.decode_part.new.dest c.in-Some.answer c.in-Some.field-0-1
front c =
    subst (λ f. DecodesFront c.args.dest.now f c.decode_part.new.dest c.in-Some.answer c.in-Some.field-0-1)
    (stretch_again c.args.sentinel c.args.source.now c.before-frame.result.now c.before-frame.ensures) c.in-Some.ensures.done

pub returns-in-Some : goal.returns-in-Some
returns-in-Some c =
    let d = front (goal.at.returns-in-Some c).In-Some in
    record { answer = d.answers; dest = d.buffer }

pub returns-in-None : goal.returns-in-None
returns-in-None c = record {
  answer =
      c.decode_counted.ensures.answer
      ∙ ap (λ d. decoded_into (length d) (masked c.args.sentinel c.before-frame.result.now)) (c.in-None.ensures.same refl)
      ∙ ap (decoded_into (length c.args.dest.now)) c.before-frame.ensures;
  dest =
      c.decode_counted.ensures.dest
      ∙ ap (overwritten (part (masked c.args.sentinel c.before-frame.result.now))) (c.in-None.ensures.same refl)
      ∙ ap (λ f. overwritten (part f) c.args.dest.now) c.before-frame.ensures;
}

pub decode_counted-requires : goal.decode_counted-requires
decode_counted-requires c = subst NoZero (sym c.before-frame.ensures) (stretch_clear (masked c.args.sentinel c.args.source.now))
