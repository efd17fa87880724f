use Rattle.std.proofs.Common.{List, ℕ, ◌++◌, length, take, ◌+◌, ◌≤◌, arith}
use Rattle.link.specs.Stream.{begun}
use Rattle.frames.specs.Standing.{StandsBehind}
use Rattle.frames.specs.Events.{AnswersPlain}
use Rattle.frames_c.proofs.PushedLemmas.{in_room, used_within, goes_forward, not_misused, is_misused, of_push, no_error, within_buffer, in_front}
use Rattle.frames_c.proofs.receiving.frames_c_push_plain.Goals as goal

pub returns-clause-within : goal.returns-clause-within
returns-clause-within c = used_within _ c.push_plain.result c.pushed.result c.pushed.ensures.gives c.push_plain.ensures.within

pub returns-clause-stands : goal.returns-clause-stands
returns-clause-stands c limit s stream i =
    of_push (λ p. (limit s : ℕ) (stream : List ℕ) → StandsBehind limit s c.args.receiver.now c.args.buffer.now stream → StandsBehind limit s c.push_plain.new.self c.push_plain.new.buffer (stream ++ take p.used c.args.bytes.now))
    c.push_plain.result c.pushed.result c.pushed.ensures.gives c.push_plain.ensures.stands
    (no_error c.args.receiver.now.count (length c.args.buffer.now) c.push_plain.result c.push_plain.ensures.wrong (within_buffer limit s c.args.receiver.now c.args.buffer.now (begun limit s stream) i)) limit s stream i

pub returns-clause-answers : goal.returns-clause-answers
returns-clause-answers c limit s stream i =
    of_push (λ p. (limit s : ℕ) (stream : List ℕ) → StandsBehind limit s c.args.receiver.now c.args.buffer.now stream → AnswersPlain limit s stream c.args.bytes.now c.push_plain.new.buffer p)
    c.push_plain.result c.pushed.result c.pushed.ensures.gives c.push_plain.ensures.answers
    (no_error c.args.receiver.now.count (length c.args.buffer.now) c.push_plain.result c.push_plain.ensures.wrong (within_buffer limit s c.args.receiver.now c.args.buffer.now (begun limit s stream) i)) limit s stream i

pub returns-clause-front : goal.returns-clause-front
returns-clause-front c = in_front c.push_plain.result c.pushed.result c.pushed.ensures.gives c.pushed.ensures.length c.push_plain.ensures.front

pub returns-clause-message : goal.returns-clause-message
returns-clause-message c =
    let room : c.pushed.result.start + c.pushed.result.length ≤ length c.push_plain.new.buffer = in_room _ c.push_plain.result c.pushed.result c.pushed.ensures.gives c.pushed.ensures.length c.push_plain.ensures.message in
    omega (arith, room)

pub returns-clause-forward : goal.returns-clause-forward
returns-clause-forward c = goes_forward _ c.push_plain.result c.pushed.result c.pushed.ensures.gives c.push_plain.ensures.forward

pub returns-clause-can_stand : goal.returns-clause-can_stand
returns-clause-can_stand c = not_misused c.args.receiver.now.count (length c.args.buffer.now) c.push_plain.result c.pushed.result c.pushed.ensures.gives c.push_plain.ensures.wrong

pub returns-clause-misused : goal.returns-clause-misused
returns-clause-misused c = is_misused c.args.receiver.now.count (length c.args.buffer.now) c.push_plain.result c.pushed.result c.pushed.ensures.gives c.push_plain.ensures.fits c.push_plain.ensures.unchanged
