use Rattle.std.proofs.Common.{arith, refl, ◌∙◌, ap, subst, length}
use Rattle.cobs.specs.Frames.{part}
use Rattle.cobs.specs.InPlace.{stretch, overwritten}
use Rattle.cobs.specs.Sentinel.{masked}
use Rattle.cobs.specs.Taking.{DecodesFront}
use Rattle.cobs.specs.Whole.{frame_in, decoded_from}
use Rattle.cobs.proofs.PushingLemmas.{told_fitting, over_fitting}
use Rattle.cobs.proofs.SourcesLemmas.{stretch_again}
use Rattle.std.proofs.lemmas.Grind.{common_steps}
use Rattle.cobs.proofs.dec.whole.decode_slowly.Goals as goal
use Rattle.cobs.proofs.dec.whole.decode_slowly.Goals.{In-Some}

-- the bytes before the first zero were decoded
front : (c : In-Some) → DecodesFront c.args.dest.now (stretch (masked 0 c.behind_zeros-rest.result.now)) c.decode_part.new.dest c.in-Some.answer c.in-Some.end
front c =
    subst (λ f. DecodesFront c.args.dest.now f c.decode_part.new.dest c.in-Some.answer c.in-Some.end)
    (stretch_again 0 c.behind_zeros-rest.result.now c.before-frame.result.now c.before-frame.ensures) c.in-Some.ensures.done

pub returns-in-Some : goal.returns-in-Some
returns-in-Some c =
    let e = (goal.at.returns-in-Some c).In-Some in
    record {
      answer =
          c.with_parsed.ensures
          ∙ told_fitting c.args.source.now c.behind_zeros-rest.result.now c.args.dest.now c.decode_part.new.dest c.in-Some.answer c.in-Some.end c.min-parsed.result c.behind_zeros-rest.ensures.value (front e) c.min-parsed.ensures;
      dest = over_fitting c.args.source.now c.behind_zeros-rest.result.now c.args.dest.now c.decode_part.new.dest c.in-Some.answer c.in-Some.end c.behind_zeros-rest.ensures.value (front e);
    }

pub returns-in-None : goal.returns-in-None
returns-in-None c = record {
  answer = c.decode_pushed-in-None.ensures.answer ∙ ap (λ d. decoded_from (length d) c.args.source.now) (c.in-None.ensures.same refl);
  dest = c.decode_pushed-in-None.ensures.dest ∙ ap (overwritten (part (frame_in c.args.source.now))) (c.in-None.ensures.same refl);
}

pub returns-then-begins_with_row : goal.returns-then-begins_with_row
returns-then-begins_with_row c = record {
  answer = c.decode_pushed.ensures.answer;
  dest = c.decode_pushed.ensures.dest;
}

pub decode_pushed-requires-clause-rest : goal.decode_pushed-requires-clause-rest
decode_pushed-requires-clause-rest c = c.behind_zeros-rest.ensures.value

pub decode_pushed-requires-in-None-clause-rest : goal.decode_pushed-requires-in-None-clause-rest
decode_pushed-requires-in-None-clause-rest c = c.behind_zeros-rest.ensures.value

pub overflow_add-source-in-Some : goal.overflow_add-source-in-Some
overflow_add-source-in-Some c = grind (arith, common_steps)
