use Rattle.std.proofs.Common.{arith, ◌≡◌, [], length, sym, ◌∙◌, ap, Ok, Some, None}
use Rattle.cobs.specs.Feeding.{at_zero}
use Rattle.cobs.specs.Frames.{part}
use Rattle.cobs.specs.InPlace.{overwritten}
use Rattle.cobs.specs.Pieces.{first_answer, frame_left}
use Rattle.cobs.specs.Whole.{frame_in}
use Rattle.cobs.proofs.PushingLemmas.{pushed_over, pushed_refused, pushed_whole, then_refused, then_empty, then_whole}
use Rattle.cobs.proofs.TakesLemmas.{unmasked}
use Rattle.std.proofs.lemmas.Grind.{common_steps}
use Rattle.cobs.proofs.dec.whole.decode_pushed.Goals as goal
use Rattle.cobs.proofs.dec.whole.decode_pushed.Goals.{After-push, After-end}

-- what stands in the room behind the push, and its answer
over : (c : After-push) → c.push.new.buffer ≡ overwritten (part (frame_in c.args.source.now)) c.args.dest.now
over c = (unmasked c.push.ensures).buffer [] c.new-progress.ensures ∙ pushed_over c.args.source.now c.args.rest.now c.args.dest.now c.requires.rest

answered : (c : After-push) → c.push.result ≡ first_answer (length c.args.dest.now) [] c.args.rest.now 0
answered c = (unmasked c.push.ensures).answer [] c.new-progress.ensures

-- nothing was answered, and then the zero
nothing : (c : After-end) → first_answer (length c.args.dest.now) [] c.args.rest.now 0 ≡ Ok None
nothing c = sym ((unmasked c.push.ensures).answer [] c.new-progress.ensures) ∙ c.in-Ok-None.is ∙ ap (λ o. Ok o) c.in-Ok-None.field-0-is

ended : (c : After-end) → c.end.result ≡ at_zero (length c.args.dest.now) (frame_left (length c.args.dest.now) [] c.args.rest.now)
ended c =
    c.end.ensures.answer _ ((unmasked c.push.ensures).has [] c.new-progress.ensures)
    ∙ ap (λ n. at_zero n (frame_left (length c.args.dest.now) [] c.args.rest.now)) (unmasked c.push.ensures).room

pub returns-in-Ok-None-end : goal.returns-in-Ok-None-end
returns-in-Ok-None-end c = record {
  answer =
      let e = (goal.at.returns-in-Ok-None-end c).After-end in
      then_empty c.args.source.now c.args.rest.now c.args.dest.now c.requires.rest (nothing e) (sym (ended e) ∙ c.in-Ok-None-end.is ∙ ap (λ o. Ok o) c.in-Ok-None-end.field-0-is);
  dest = over (goal.at.returns-in-Ok-None-end c).After-push;
}

pub returns-in-Ok-Some-end : goal.returns-in-Ok-Some-end
returns-in-Ok-Some-end c = record {
  answer =
      let e = (goal.at.returns-in-Ok-Some-end c).After-end in
      c.with_parsed.ensures ∙ then_whole c.args.source.now c.args.rest.now c.args.dest.now c.requires.rest (nothing e) c.in-Ok-Some-end.decoded (sym (ended e) ∙ c.in-Ok-Some-end.is ∙ ap (λ o. Ok o) c.in-Ok-Some-end.field-0-is) c.requires.within;
  dest = over (goal.at.returns-in-Ok-Some-end c).After-push;
}

pub returns-in-Err-end : goal.returns-in-Err-end
returns-in-Err-end c = record {
  answer =
      let e = (goal.at.returns-in-Err-end c).After-end in
      then_refused c.args.source.now c.args.rest.now c.args.dest.now c.requires.rest (nothing e) c.in-Err-end.error (sym (ended e) ∙ c.in-Err-end.is);
  dest = over (goal.at.returns-in-Err-end c).After-push;
}

pub returns-in-Ok-Some : goal.returns-in-Ok-Some
returns-in-Ok-Some c = record {
  answer =
      let whole : c.push.result ≡ Ok (Some c.in-Ok-Some.report) = c.in-Ok-Some.is ∙ ap (λ o. Ok o) c.in-Ok-Some.field-0-is in
      let within = rw whole at (unmasked c.push.ensures).within in
      c.with_parsed-in-Ok-Some.ensures ∙ pushed_whole c.args.source.now c.args.rest.now c.args.dest.now c.requires.rest c.in-Ok-Some.report (sym (answered (goal.at.returns-in-Ok-Some c).After-push) ∙ whole) within.0 c.requires.within;
  dest = over (goal.at.returns-in-Ok-Some c).After-push;
}

pub returns-in-Err : goal.returns-in-Err
returns-in-Err c = record {
  answer = pushed_refused c.args.source.now c.args.rest.now c.args.dest.now c.requires.rest c.in-Err.error (sym (answered (goal.at.returns-in-Err c).After-push) ∙ c.in-Err.is);
  dest = over (goal.at.returns-in-Err c).After-push;
}

pub overflow_add-zeros : goal.overflow_add-zeros
overflow_add-zeros c = grind (arith, common_steps)
