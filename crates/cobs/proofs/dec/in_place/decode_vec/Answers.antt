use Rattle.std.proofs.Common.{◌≡◌, ◌<◌, Ok, MatchResult, length, refl, rules}
use Rattle.cobs.specs.Whole.{frame_in, message_of_frame, RefusesWhole}
use Rattle.cobs.proofs.MaskingLemmas.{masked_zero}
use Rattle.cobs.proofs.VerdictsLemmas.{if_answered, if_refused, frame_of_message, frame_refused, stretch_found}
use Rattle.cobs.proofs.WholesLemmas.{found, empty_frame, other_frame}
use Rattle.cobs.proofs.dec.in_place.decode_vec.Goals as goal
use Rattle.cobs.proofs.dec.in_place.decode_vec.Goals.{After-before-frame, After-decode_copied}

frame_is : (c : After-before-frame) → c.before-frame.result.now ≡ frame_in c.args.source.now
frame_is c = found c.args.source.now c.behind_zeros.result.now c.before-frame.result.now c.behind_zeros.ensures.value c.before-frame.ensures

answered : (c : After-decode_copied) → MatchResult c.decode_copied.result (λ v. message_of_frame (frame_in c.args.source.now) ≡ Ok v.items) (λ e. RefusesWhole e (message_of_frame (frame_in c.args.source.now)))
answered c =
    let some : 0 < length c.before-frame.result.now = search rules in
    rw (← other_frame c.args.source.now c.before-frame.result.now c.before-frame.result.now (found c.args.source.now c.behind_zeros.result.now c.before-frame.result.now c.behind_zeros.ensures.value c.before-frame.ensures) some refl) (rw (masked_zero c.before-frame.result.now) at c.decode_copied.ensures)

pub returns-then-is_empty-clause-answer : goal.returns-then-is_empty-clause-answer
returns-then-is_empty-clause-answer c = empty_frame c.args.source.now c.before-frame.result.now (frame_is (goal.at.returns-then-is_empty-clause-answer c).After-before-frame) (search rules)

pub returns-then-is_empty-clause-no_frame : goal.returns-then-is_empty-clause-no_frame
returns-then-is_empty-clause-no_frame c =
    frame_refused (frame_in c.args.source.now) _ (empty_frame c.args.source.now c.before-frame.result.now (frame_is (goal.at.returns-then-is_empty-clause-no_frame c).After-before-frame) (search rules))

pub returns-clause-answer : goal.returns-clause-answer
returns-clause-answer c = answered (goal.at.returns-clause-answer c).After-decode_copied

pub returns-clause-frame : goal.returns-clause-frame
returns-clause-frame c =
    if_answered c.decode_copied.result _ _ _ (answered (goal.at.returns-clause-frame c).After-decode_copied) (λ v h. frame_of_message (frame_in c.args.source.now) v.items (stretch_found c.args.source.now (λ k. (c.type_inv.source k).fits)) h)

pub returns-clause-no_frame : goal.returns-clause-no_frame
returns-clause-no_frame c =
    if_refused c.decode_copied.result _ _ _ (answered (goal.at.returns-clause-no_frame c).After-decode_copied) (λ e h. frame_refused (frame_in c.args.source.now) e h)
