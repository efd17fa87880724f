use Rattle.std.proofs.Common.{ℕ, List, [], ◌∷◌, ◌++◌, length}
use Rattle.link.specs.Stream.{begun}
use Rattle.frames.specs.Events.{HoldsPlain, ReadsPlain}
use Rattle.frames.specs.Standing.{StandsBehind}
use Rattle.frames_c.specs.Answers.{push_told}
use Rattle.frames_c.proofs.PushedLemmas.{of_byte, byte_answers, byte_can_stand, byte_misused, no_error, within_buffer}
use Rattle.frames_c.proofs.receiving.take_byte_plain.Goals as goal

pub returns-clause-stands : goal.returns-clause-stands
returns-clause-stands c limit s stream i =
    of_byte ((limit s : ℕ) (stream : List ℕ) → StandsBehind limit s c.args.receiver.now c.args.buffer.now stream → StandsBehind limit s c.push_byte_plain.new.self c.push_byte_plain.new.buffer (stream ++ (c.args.byte ∷ [])))
    c.push_byte_plain.result c.push_byte_plain.ensures.stands
    (no_error c.args.receiver.now.count (length c.args.buffer.now) c.push_byte_plain.result c.push_byte_plain.ensures.wrong (within_buffer limit s c.args.receiver.now c.args.buffer.now (begun limit s stream) i)) limit s stream i

pub returns-clause-answers : goal.returns-clause-answers
returns-clause-answers c limit s stream i =
    byte_answers HoldsPlain ReadsPlain c.args.receiver.now c.args.buffer.now (c.args.byte ∷ []) c.push_byte_plain.new.buffer c.push_byte_plain.result (push_told c.told.result c.told.new.event) c.told.ensures.ok c.push_byte_plain.ensures.used c.push_byte_plain.ensures.answers
    (no_error c.args.receiver.now.count (length c.args.buffer.now) c.push_byte_plain.result c.push_byte_plain.ensures.wrong (within_buffer limit s c.args.receiver.now c.args.buffer.now (begun limit s stream) i)) limit s stream i

pub returns-clause-can_stand : goal.returns-clause-can_stand
returns-clause-can_stand c = byte_can_stand c.args.receiver.now.count (length c.args.buffer.now) c.told.result c.push_byte_plain.result c.told.ensures.can_stand c.push_byte_plain.ensures.wrong

pub returns-clause-misused : goal.returns-clause-misused
returns-clause-misused c = byte_misused c.args.receiver.now.count (length c.args.buffer.now) c.told.result c.push_byte_plain.result c.told.ensures.wrong c.told.ensures.misused c.push_byte_plain.ensures.fits c.push_byte_plain.ensures.unchanged

pub returns-clause-message : goal.returns-clause-message
returns-clause-message c = c.told.ensures.room (length c.push_byte_plain.new.buffer) c.push_byte_plain.ensures.message
