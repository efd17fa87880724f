use Rattle.std.proofs.Common.{◌≡◌, ◌<◌, ◌≤◌, ℕ, List, [], ◌∷◌, ◌++◌, length, arith}
use Rattle.frames.specs.Standing.{StandsBehind}
use Rattle.frames.specs.Events.{AnswersCounted}
use Rattle.frames_c.specs.Answers.{push_told}
use Rattle.frames_c.specs.Status.{misused}
use Rattle.frames_c.proofs.PushedLemmas.{as_before}
use Rattle.frames_c.proofs.receiving.frames_c_push_byte.Goals as goal

pub returns-then-stores-clause-stands : goal.returns-then-stores-clause-stands
returns-then-stores-clause-stands c = c.stores.ensures.stands c.if-stores.true

pub returns-then-stores-clause-answers : goal.returns-then-stores-clause-answers
returns-then-stores-clause-answers c = c.stores.ensures.counted c.if-stores.true

pub returns-then-stores-clause-misused : goal.returns-then-stores-clause-misused
returns-then-stores-clause-misused c l = absurd (omega (arith, l, (c.stores.ensures.taken.0 c.if-stores.true).2))

pub returns-clause-stands : goal.returns-clause-stands
returns-clause-stands c =
    as_before (λ r buffer. (limit s : ℕ) (stream : List ℕ) → StandsBehind limit s r buffer stream → StandsBehind limit s c.take_byte.new.receiver c.take_byte.new.buffer (stream ++ (c.args.byte ∷ [])))
    c.args.receiver.now c.stores.new.self c.args.buffer.now c.stores.new.buffer (c.stores.ensures.unchanged c.if-stores.false) c.take_byte.ensures.stands

pub returns-clause-answers : goal.returns-clause-answers
returns-clause-answers c =
    as_before (λ r buffer. (limit s : ℕ) (stream : List ℕ) → StandsBehind limit s r buffer stream → AnswersCounted limit s stream (c.args.byte ∷ []) c.take_byte.new.buffer (push_told c.take_byte.result c.take_byte.new.event))
    c.args.receiver.now c.stores.new.self c.args.buffer.now c.stores.new.buffer (c.stores.ensures.unchanged c.if-stores.false) c.take_byte.ensures.answers

pub returns-clause-can_stand : goal.returns-clause-can_stand
returns-clause-can_stand c = as_before (λ r buffer. r.count ≤ length buffer → c.take_byte.result < misused) c.args.receiver.now c.stores.new.self c.args.buffer.now c.stores.new.buffer (c.stores.ensures.unchanged c.if-stores.false) c.take_byte.ensures.can_stand

pub returns-clause-misused : goal.returns-clause-misused
returns-clause-misused c =
    as_before (λ r buffer. length buffer < r.count → (c.take_byte.result ≡ misused) × (c.take_byte.new.receiver ≡ r) × (c.take_byte.new.buffer ≡ buffer) × (c.take_byte.new.event ≡ c.args.event.now))
    c.args.receiver.now c.stores.new.self c.args.buffer.now c.stores.new.buffer (c.stores.ensures.unchanged c.if-stores.false) c.take_byte.ensures.misused
