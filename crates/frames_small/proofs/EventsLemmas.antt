-- What a push tells is what a receiver of `link` answers (as in `frames`).
use Rattle.std.proofs.Common.{◌≡◌, ℕ, List, [], ◌∷◌, ◌++◌, take, drop, Option, Some, None, Ok, refl, sym, ap, subst}
use Rattle.cobs.specs.Frames.{Frame}
use Rattle.postcard_tree.specs.Tree.{Tree}
use Rattle.link.specs.Stream.{Begun, begun}
use Rattle.link.specs.Steps.{Event, quiet, ended, passed, Course, course_on, course_of, event_at, begun_at}
use Rattle.link.specs.Finds.{Replies}
use Rattle.link.specs.Lemmas.AnswerLaws.{answered, stretch_of, behind_after}
use Rattle.frames.specs.Events.{FindsFrame, TakesFrame, IsInFront, HoldsPlain, ReadsPlain, plain_tree, answer_in, AnswersAs, RepliesAs}
use Rattle.frames.specs.declared.receiving.FrameEvent.{FrameEvent}
use Rattle.frames.specs.declared.receiving.FrameEvent.TheVariants.{Message, Damaged, TooLong}
use Rattle.frames.specs.declared.receiving.FramePush.{FramePush}
use Rattle.frames_small.specs.Standing.{SmallStandsAt, SmallStandsBehind, by_byte}
use Rattle.frames_small.specs.declared.receiving.SmallReceiver.{SmallReceiver}

-- a plain message is what stands in front
plain_reply : (event : Event) (buffer : List ℕ) (e : Option FrameEvent) → IsInFront e → FindsFrame buffer event e
    → Replies HoldsPlain ReadsPlain event (Ok (answer_in buffer e))
plain_reply quiet buffer None i h = refl
plain_reply quiet buffer (Some (Message start size)) i h = cc
plain_reply quiet buffer (Some Damaged) i h = cc
plain_reply quiet buffer (Some TooLong) i h = cc
plain_reply passed buffer None i h = cc
plain_reply passed buffer (Some (Message start size)) i h = cc
plain_reply passed buffer (Some Damaged) i h = cc
plain_reply passed buffer (Some TooLong) i h = refl
plain_reply (ended p) buffer None i h = absurd h
plain_reply (ended p) buffer (Some (Message start size)) i h =
    let same : take size (drop start buffer) ≡ take size buffer = ap (λ n. take size (drop n buffer)) i in
    let m = take size (drop start buffer) in
    (plain_tree m, (m, refl, subst (Frame p) (sym same) h), refl)
plain_reply (ended p) buffer (Some Damaged) i h = λ t x. h x.0 x.2
plain_reply (ended p) buffer (Some TooLong) i h = absurd h

pub plain_replies : (limit : ℕ) (k : Course) (buffer : List ℕ) (p : FramePush) → IsInFront p.event → TakesFrame limit k buffer p
    → RepliesAs HoldsPlain ReadsPlain limit k buffer p
plain_replies limit k buffer p i t = record { used = t.used; reply = plain_reply k.event buffer p.event i t.finds; span = t.span }

-- and so a push answers
pub answers_as : (holds : List ℕ → Tree → Type 0) (reads : Tree → List ℕ → Type 0) (limit s : ℕ) (stream piece buffer : List ℕ) (p : FramePush)
    → RepliesAs holds reads limit (course_of limit s (begun limit s stream) piece) buffer p → AnswersAs holds reads limit s stream piece buffer p
answers_as holds reads limit s stream piece buffer p r = record {
  answers = answered holds limit s (begun limit s stream) piece stream refl reads p.used _ r.used r.reply;
  stretch = stretch_of holds reads limit s stream piece p.used p.stretch _ r.used r.reply r.span;
}

pub plain_answers : (limit s : ℕ) (stream piece buffer : List ℕ) (p : FramePush) → IsInFront p.event
    → TakesFrame limit (course_of limit s (begun limit s stream) piece) buffer p → AnswersAs HoldsPlain ReadsPlain limit s stream piece buffer p
plain_answers limit s stream piece buffer p i t = answers_as HoldsPlain ReadsPlain limit s stream piece buffer p (plain_replies limit _ buffer p i t)

-- one byte
on_last : (e : Event) (c : Begun) → course_on e c (record { used = 0; event = quiet; begun = c }) ≡ record { used = 1; event = e; begun = c }
on_last quiet c = refl
on_last (ended p) c = refl
on_last passed c = refl

pub byte_behind : (limit s : ℕ) (stream : List ℕ) (byte : ℕ) (r : SmallReceiver) (buffer : List ℕ) → SmallStandsAt limit s r buffer (begun_at limit s (begun limit s stream) byte)
    → SmallStandsBehind limit s r buffer (stream ++ byte ∷ [])
byte_behind limit s stream byte r buffer i =
    let b = begun limit s stream in
    let one = on_last (event_at limit s b byte) (begun_at limit s b byte) in
    behind_after limit s (SmallStandsAt limit s r buffer) stream (byte ∷ []) 1 (sym (ap (λ (k : Course). k.used) one)) (subst (λ (k : Course). SmallStandsAt limit s r buffer k.begun) (sym one) i)

in_front : (n : ℕ) (e : Option FrameEvent) → IsInFront e → IsInFront (by_byte n e).event
in_front n None i = i
in_front n (Some e) i = i

pub byte_answers : (limit s : ℕ) (stream piece buffer : List ℕ) (n : ℕ) (e : Option FrameEvent) → IsInFront e
    → TakesFrame limit (course_of limit s (begun limit s stream) piece) buffer (by_byte n e) → AnswersAs HoldsPlain ReadsPlain limit s stream piece buffer (by_byte n e)
byte_answers limit s stream piece buffer n e i t = plain_answers limit s stream piece buffer (by_byte n e) (in_front n e i) t
