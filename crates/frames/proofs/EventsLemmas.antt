-- What a push tells is what a receiver of `link` answers.
use Rattle.std.proofs.Common.{◌≡◌, ℕ, List, take, drop, Option, Some, None, Ok, refl, sym, ap, subst}
use Rattle.cobs.specs.Frames.{Frame}
use Rattle.postcard_tree.specs.Tree.{Tree}
use Rattle.link.specs.Stream.{begun}
use Rattle.link.specs.Steps.{Event, quiet, ended, passed, Course, course_of}
use Rattle.link.specs.Finds.{Replies}
use Rattle.link.specs.Lemmas.AnswerLaws.{answered, stretch_of}
use Rattle.frames.specs.Events.{FindsFrame, TakesFrame, IsInFront, HoldsPlain, ReadsPlain, plain_tree, answer_in, AnswersAs, RepliesAs}
use Rattle.frames.specs.declared.receiving.FrameEvent.{FrameEvent}
use Rattle.frames.specs.declared.receiving.FrameEvent.TheVariants.{Message, Damaged, TooLong}
use Rattle.frames.specs.declared.receiving.FramePush.{FramePush}

-- a plain message is what stands in front
plain_reply : (event : Event) (buffer : List ℕ) (e : Option FrameEvent) → IsInFront e → FindsFrame buffer event e
    → Replies HoldsPlain ReadsPlain event (Ok (answer_in buffer e))
plain_reply quiet buffer None i h = refl
plain_reply quiet buffer (Some (Message start size)) i h = cc
plain_reply quiet buffer (Some Damaged) i h = cc
plain_reply quiet buffer (Some TooLong) i h = cc
plain_reply passed buffer None i h = cc
plain_reply passed buffer (Some (Message start size)) i h = cc
plain_reply passed buffer (Some Damaged) i h = cc
plain_reply passed buffer (Some TooLong) i h = refl
plain_reply (ended p) buffer None i h = absurd h
plain_reply (ended p) buffer (Some (Message start size)) i h =
    let same : take size (drop start buffer) ≡ take size buffer = ap (λ n. take size (drop n buffer)) i in
    let m = take size (drop start buffer) in
    (plain_tree m, (m, refl, subst (Frame p) (sym same) h), refl)
plain_reply (ended p) buffer (Some Damaged) i h = λ t x. h x.0 x.2
plain_reply (ended p) buffer (Some TooLong) i h = absurd h

pub plain_replies : (limit : ℕ) (k : Course) (buffer : List ℕ) (p : FramePush) → IsInFront p.event → TakesFrame limit k buffer p
    → RepliesAs HoldsPlain ReadsPlain limit k buffer p
plain_replies limit k buffer p i t = record { used = t.used; reply = plain_reply k.event buffer p.event i t.finds; span = t.span }

-- and so a push answers
pub answers_as : (holds : List ℕ → Tree → Type 0) (reads : Tree → List ℕ → Type 0) (limit s : ℕ) (stream piece buffer : List ℕ) (p : FramePush)
    → RepliesAs holds reads limit (course_of limit s (begun limit s stream) piece) buffer p → AnswersAs holds reads limit s stream piece buffer p
answers_as holds reads limit s stream piece buffer p r = record {
  answers = answered holds limit s (begun limit s stream) piece stream refl reads p.used _ r.used r.reply;
  stretch = stretch_of holds reads limit s stream piece p.used p.stretch _ r.used r.reply r.span;
}

pub plain_answers : (limit s : ℕ) (stream piece buffer : List ℕ) (p : FramePush) → IsInFront p.event
    → TakesFrame limit (course_of limit s (begun limit s stream) piece) buffer p → AnswersAs HoldsPlain ReadsPlain limit s stream piece buffer p
plain_answers limit s stream piece buffer p i t = answers_as HoldsPlain ReadsPlain limit s stream piece buffer p (plain_replies limit _ buffer p i t)
