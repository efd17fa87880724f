-- A byte that is stored.
use Rattle.std.proofs.Common.{◌≡◌, ◌≢◌, ℕ, suc, ◌+◌, ◌<◌, List, [], ◌∷◌, ◌++◌, length, set, drop, None, refl, sym, subst, arith}
use Rattle.std.proofs.lemmas.List.{set_split, length-drop}
use Rattle.link.specs.Stream.{Begun, begun}
use Rattle.link.specs.Steps.{RunsOn, course_of}
use Rattle.link.specs.Lemmas.AnswerLaws.{behind_after}
use Rattle.postcard_tree.specs.Reading.{ReadsBytes}
use Rattle.frames.specs.Standing.{StandsAt, StandsBehind}
use Rattle.frames.specs.Events.{HoldsPlain, ReadsPlain, HoldsCounted, AnswersAs, TakesFrame, found}
use Rattle.frames.specs.declared.receiving.FrameReceiver.{FrameReceiver}
use Rattle.frames.proofs.StandingLemmas.{kept_run}
use Rattle.frames.proofs.BytesLemmas.{at_on, taken_on, no_zero_byte}
use Rattle.frames.proofs.EventsLemmas.{plain_answers, answers_as}
use Rattle.frames.proofs.CountsLemmas.{none_replies}

module _ (r : FrameReceiver) (buffer : List ℕ) (byte : ℕ) (other : byte ≢ r.sentinel) (clear : r.past ≡ 0) (near : r.count < length buffer) where
  abbrev pub later : FrameReceiver
  later = record { count = r.count + 1; past = r.past; sentinel = r.sentinel }

  runs : (limit s : ℕ) (b : Begun) → StandsAt limit s r buffer b → RunsOn limit s b (byte ∷ []) (StandsAt limit s later (set buffer r.count byte))
  runs limit s b i =
      let rest = drop (suc r.count) buffer in
      let sum : length rest + length (byte ∷ []) + r.count ≡ length buffer = omega (arith, near, length-drop (suc r.count) buffer) in
      let run = kept_run limit s r buffer b (byte ∷ []) rest later clear i (no_zero_byte s byte r.sentinel i.terms.sentinel other) (omega (arith, near)) sum refl in
      subst (λ x. RunsOn limit s b (byte ∷ []) (StandsAt limit s later x)) (sym (set_split buffer r.count byte near)) run

  taken : (limit s : ℕ) (stream : List ℕ) → StandsBehind limit s r buffer stream → TakesFrame limit (course_of limit s (begun limit s stream) (byte ∷ [])) (set buffer r.count byte) (found 1 0 None)
  taken limit s stream i = taken_on limit s (begun limit s stream) byte (StandsAt limit s later (set buffer r.count byte)) (set buffer r.count byte) (runs limit s (begun limit s stream) i)

  pub stored_stands : (limit s : ℕ) (stream : List ℕ) → StandsBehind limit s r buffer stream → StandsBehind limit s later (set buffer r.count byte) (stream ++ (byte ∷ []))
  stored_stands limit s stream i =
      let b = begun limit s stream in
      let At = StandsAt limit s later (set buffer r.count byte) in
      behind_after limit s At stream (byte ∷ []) 1 (taken limit s stream i).used (at_on limit s b byte At buffer (runs limit s b i))

  pub stored_plain : (limit s : ℕ) (stream : List ℕ) → StandsBehind limit s r buffer stream → AnswersAs HoldsPlain ReadsPlain limit s stream (byte ∷ []) (set buffer r.count byte) (found 1 0 None)
  stored_plain limit s stream i = plain_answers limit s stream (byte ∷ []) (set buffer r.count byte) (found 1 0 None) tt (taken limit s stream i)

  pub stored_counted : (limit s : ℕ) (stream : List ℕ) → StandsBehind limit s r buffer stream → AnswersAs HoldsCounted ReadsBytes limit s stream (byte ∷ []) (set buffer r.count byte) (found 1 0 None)
  stored_counted limit s stream i = answers_as HoldsCounted ReadsBytes limit s stream (byte ∷ []) (set buffer r.count byte) (found 1 0 None) (none_replies limit _ (set buffer r.count byte) 1 0 (taken limit s stream i))
