use Rattle.std.proofs.Common.{List, ℕ, ◌++◌, length, take}
use Rattle.link.specs.Stream.{begun}
use Rattle.frames.specs.Standing.{StandsBehind}
use Rattle.frames.specs.Events.{AnswersCounted}
use Rattle.frames_c.proofs.PushedLemmas.{in_room, used_within, goes_forward, not_misused, is_misused, of_push, no_error, within_buffer}
use Rattle.frames_c.proofs.receiving.frames_c_push.Goals as goal

pub returns-clause-within : goal.returns-clause-within
returns-clause-within c = used_within _ c.push.result c.pushed.result c.pushed.ensures.gives c.push.ensures.within

pub returns-clause-stands : goal.returns-clause-stands
returns-clause-stands c limit s stream i =
    of_push (λ p. (limit s : ℕ) (stream : List ℕ) → StandsBehind limit s c.args.receiver.now c.args.buffer.now stream → StandsBehind limit s c.push.new.self c.push.new.buffer (stream ++ take p.used c.args.bytes.now))
    c.push.result c.pushed.result c.pushed.ensures.gives c.push.ensures.stands
    (no_error c.args.receiver.now.count (length c.args.buffer.now) c.push.result c.push.ensures.wrong (within_buffer limit s c.args.receiver.now c.args.buffer.now (begun limit s stream) i)) limit s stream i

pub returns-clause-answers : goal.returns-clause-answers
returns-clause-answers c limit s stream i =
    of_push (λ p. (limit s : ℕ) (stream : List ℕ) → StandsBehind limit s c.args.receiver.now c.args.buffer.now stream → AnswersCounted limit s stream c.args.bytes.now c.push.new.buffer p)
    c.push.result c.pushed.result c.pushed.ensures.gives c.push.ensures.answers
    (no_error c.args.receiver.now.count (length c.args.buffer.now) c.push.result c.push.ensures.wrong (within_buffer limit s c.args.receiver.now c.args.buffer.now (begun limit s stream) i)) limit s stream i

pub returns-clause-message : goal.returns-clause-message
returns-clause-message c = in_room _ c.push.result c.pushed.result c.pushed.ensures.gives c.pushed.ensures.length c.push.ensures.message

pub returns-clause-forward : goal.returns-clause-forward
returns-clause-forward c = goes_forward _ c.push.result c.pushed.result c.pushed.ensures.gives c.push.ensures.forward

pub returns-clause-can_stand : goal.returns-clause-can_stand
returns-clause-can_stand c = not_misused c.args.receiver.now.count (length c.args.buffer.now) c.push.result c.pushed.result c.pushed.ensures.gives c.push.ensures.wrong

pub returns-clause-misused : goal.returns-clause-misused
returns-clause-misused c = is_misused c.args.receiver.now.count (length c.args.buffer.now) c.push.result c.pushed.result c.pushed.ensures.gives c.push.ensures.fits c.push.ensures.unchanged
