use Rattle.std.proofs.Common.{◌+◌, ◌≤◌, Some, arith, refl, subst}
use Rattle.std.proofs.lemmas.List.{length-take}
use Rattle.frames.specs.Events.{TakesFrame, found}
use Rattle.frames_small.proofs.CountsLemmas.{counted_replies, uncounted_replies, damaged_replies}
use Rattle.frames_small.proofs.counting.counted_event.Goals as goal

pub returns-in-Some-clause-replies : goal.returns-in-Some-clause-replies
returns-in-Some-clause-replies c limit used stretch k t =
    let buffer = c.args.buffer.now in
    let size = c.in-Message.length in
    let within : c.in-Some.start + c.in-Some.length ≤ size = omega (arith, c.in-Some.ensures.within, length-take size buffer) in
    counted_replies limit k buffer used stretch c.in-Message.start size (subst (λ e. TakesFrame limit k buffer (found used stretch (Some e))) c.in-Message.is t)
    c.in-Some.start c.in-Some.length c.in-Some.ensures.read.0 within c.in-Some.ensures.read.1

pub returns-in-None-clause-replies : goal.returns-in-None-clause-replies
returns-in-None-clause-replies c limit used stretch k t =
    let buffer = c.args.buffer.now in
    uncounted_replies limit k buffer used stretch c.in-Message.start c.in-Message.length (subst (λ e. TakesFrame limit k buffer (found used stretch (Some e))) c.in-Message.is t)
    c.message_of_a_frame.ensures.one (c.in-None.ensures.none refl)

pub returns-in-Damaged-clause-replies : goal.returns-in-Damaged-clause-replies
returns-in-Damaged-clause-replies c limit used stretch k t =
    let buffer = c.args.buffer.now in
    damaged_replies limit k buffer used stretch (subst (λ e. TakesFrame limit k buffer (found used stretch (Some e))) c.in-Damaged.is t)
