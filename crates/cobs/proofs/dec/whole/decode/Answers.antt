use Rattle.std.proofs.Common.{◌≡◌, refl, length, ◌∙◌, ap, arith}
use Rattle.cobs.specs.Frames.{part}
use Rattle.cobs.specs.InPlace.{overwritten}
use Rattle.cobs.specs.Whole.{frame_in, decoded_from}
use Rattle.cobs.proofs.PushingLemmas.{told_fitting, over_fitting, unpadded_begun}
use Rattle.cobs.proofs.VerdictsLemmas.{from_frame, from_no_frame, stretch_found}
use Rattle.cobs.proofs.dec.whole.decode.Goals as goal
use Rattle.cobs.proofs.dec.whole.decode.Goals.{After-with_parsed, After-decode_else}

-- where all of them had
module _ (c : After-with_parsed) where
  told : c.with_parsed.result ≡ decoded_from (length c.args.dest.now) c.args.source.now
  told =
      let d = c.in-Some.ensures.done in
      let source = c.args.source.now in
      c.with_parsed.ensures ∙ told_fitting source source c.args.dest.now c.decode_part.new.dest c.in-Some.answer c.in-Some.end c.min.result (unpadded_begun source d.some) d (omega (arith, c.min.ensures))

  over : c.decode_part.new.dest ≡ overwritten (part (frame_in c.args.source.now)) c.args.dest.now
  over =
      let d = c.in-Some.ensures.done in
      over_fitting c.args.source.now c.args.source.now c.args.dest.now c.decode_part.new.dest c.in-Some.answer c.in-Some.end (unpadded_begun c.args.source.now d.some) d

-- and else
module _ (c : After-decode_else) where
  told_apart : c.decode_else.result ≡ decoded_from (length c.args.dest.now) c.args.source.now
  told_apart = c.decode_else.ensures.answer ∙ ap (λ d. decoded_from (length d) c.args.source.now) (c.in-None.ensures.same refl)

  over_apart : c.decode_else.new.dest ≡ overwritten (part (frame_in c.args.source.now)) c.args.dest.now
  over_apart = c.decode_else.ensures.dest ∙ ap (overwritten (part (frame_in c.args.source.now))) (c.in-None.ensures.same refl)

pub returns-in-Some-clause-answer : goal.returns-in-Some-clause-answer
returns-in-Some-clause-answer c = told (goal.at.returns-in-Some-clause-answer c).After-with_parsed

pub returns-in-Some-clause-dest : goal.returns-in-Some-clause-dest
returns-in-Some-clause-dest c = over (goal.at.returns-in-Some-clause-dest c).After-with_parsed

pub returns-in-Some-clause-frame : goal.returns-in-Some-clause-frame
returns-in-Some-clause-frame c =
    let e = (goal.at.returns-in-Some-clause-frame c).After-with_parsed in
    from_frame c.args.source.now c.args.dest.now c.with_parsed.result c.decode_part.new.dest (stretch_found c.args.source.now (λ k. (c.type_inv.source k).fits)) (told e) (over e)

pub returns-in-Some-clause-no_frame : goal.returns-in-Some-clause-no_frame
returns-in-Some-clause-no_frame c = from_no_frame c.args.source.now c.args.dest.now c.with_parsed.result (told (goal.at.returns-in-Some-clause-no_frame c).After-with_parsed)

pub returns-in-None-clause-answer : goal.returns-in-None-clause-answer
returns-in-None-clause-answer c = told_apart (goal.at.returns-in-None-clause-answer c).After-decode_else

pub returns-in-None-clause-dest : goal.returns-in-None-clause-dest
returns-in-None-clause-dest c = over_apart (goal.at.returns-in-None-clause-dest c).After-decode_else

pub returns-in-None-clause-frame : goal.returns-in-None-clause-frame
returns-in-None-clause-frame c =
    let e = (goal.at.returns-in-None-clause-frame c).After-decode_else in
    from_frame c.args.source.now c.args.dest.now c.decode_else.result c.decode_else.new.dest (stretch_found c.args.source.now (λ k. (c.type_inv.source k).fits)) (told_apart e) (over_apart e)

pub returns-in-None-clause-no_frame : goal.returns-in-None-clause-no_frame
returns-in-None-clause-no_frame c = from_no_frame c.args.source.now c.args.dest.now c.decode_else.result (told_apart (goal.at.returns-in-None-clause-no_frame c).After-decode_else)
