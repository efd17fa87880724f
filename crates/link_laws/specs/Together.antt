-- What two senders in turn leave on a line, and what is heard of the line of a run of values.
use Rattle.std.proofs.Common.{◌≡◌, ◌≤◌, ℕ, List, [], ◌∷◌, map, Bool, false, Option, Some, Result, ap, ◌∙◌, subst}
use Rattle.std.specs.List.{AllZip, zip}
use Rattle.line_io.specs.Device.{LineState, Wrote}
use Rattle.postcard_tree.specs.ReadingLaws.{WireForm}
use Rattle.link.specs.Run.{Send, IsRun, line}
use Rattle.link.specs.Senders.{IsSent, HasSent, SenderPlace}
use Rattle.link_laws.specs.Values.{runs_of, AreSends}
use Rattle.link_laws.specs.Sessions.{LeavesRun, HeardOfRun, all_written}
use Rattle.link.specs.Fates.{IsSendOf, SendsAll, fate_of, new_sender}
use Rattle.link.specs.declared.session.Fate.{Fate}
use Rattle.link.specs.declared.receiver.Answer.{Answer}
use Rattle.link.specs.declared.sender.SendError.{SendError}
use Rattle.line_io.specs.declared.transfers.End.{End}
use Rattle.line_io.specs.declared.transfers.End.TheVariants.{Ended}

-- A value and what its send returned, by each of two senders in turn, the first of which began at this place: what they left is the
-- line of this run. Each did what `send` promises, from where the line was to where it is.
pub record LeavesTwo {V : Type 0} (form : WireForm V) (limit : ℕ) (start : SenderPlace)
    (new : LineState) (first second : V × Result (Unit {0}) SendError) : Type 0 where
  -- where the first sender was after its send
  pub between : SenderPlace
  -- where the second one was after its own
  pub after : SenderPlace
  -- the line is where the second sender left it
  pub line_is : new ≡ after.line
  -- the first one did what `send` promises
  pub first_sent : HasSent limit (form.writes first.0) (form.valid first.0) start between first.1
  -- and so did the second
  pub second_sent : HasSent limit (form.writes second.0) (form.valid second.0)
      (new_sender start.sentinel between.line) after second.1
  -- which send the first one was
  pub one : Send
  -- which send the second one was
  pub other : Send
  -- the first result is of the first send
  pub first_is : IsSent limit (form.writes first.0) first.1 one
  -- and the second of the second
  pub second_is : IsSent limit (form.writes second.0) second.1 other
  -- what both left is the line of this run
  pub run : LeavesRun form.takes form.writes form.valid limit start.sentinel start.line new
      (((first.0, one) ∷ []) ∷ ((second.0, other) ∷ []) ∷ [])

-- Values and their fates, by each of two senders in turn, the first of which began at this place: what they left is the line of this
-- run. Each did what `send_each` promises, from where the line was to where it is.
pub record LeavesSessions {V : Type 0} (form : WireForm V) (limit : ℕ) (start : SenderPlace)
    (new : LineState) (firsts seconds : List V × List Fate) : Type 0 where
  -- where the line was between the two
  pub between : LineState
  -- whether the first sender was clean after its sends
  pub first_clean : Bool
  -- and the second
  pub second_clean : Bool
  -- the first one did what `send_each` promises
  pub first_sent : SendsAll limit start.sentinel form.writes form.valid start.clean first_clean
      start.line between firsts.0 firsts.1
  -- and so did the second, which began unclean
  pub second_sent : SendsAll limit start.sentinel form.writes form.valid false second_clean
      between new seconds.0 seconds.1
  -- which sends the first one's were
  pub one : List Send
  -- which sends the second one's were
  pub other : List Send
  -- the first one's are of its values, in order
  pub first_of : AllZip (λ v x. IsSendOf limit (form.writes v) (form.valid v) x) firsts.0 one
  -- and so are the second one's
  pub second_of : AllZip (λ v x. IsSendOf limit (form.writes v) (form.valid v) x) seconds.0 other
  -- the first fates are of the first sends
  pub first_fated : firsts.1 ≡ map fate_of one
  -- and the second of the second
  pub second_fated : seconds.1 ≡ map fate_of other
  -- what both left is the line of this run
  pub run : LeavesRun form.takes form.writes form.valid limit start.sentinel start.line new
      (zip firsts.0 one ∷ zip seconds.0 other ∷ [])

-- Where the line of a run of values comes, with frames within the limit, and the reader has told its end, these answers are what is
-- to be told of the run, and their values are alike those sent.
abbrev pub HearsValues : {V : Type 0} → WireForm V → ℕ → ℕ → Option (List ℕ) → End
    → List (Answer V) → Type 0
HearsValues {V} form limit s to_come end answers =
    (n : ℕ) (run : List (List (V × Send))) → n ≤ limit → IsRun form.takes n s (runs_of run)
    → AreSends form.writes form.valid run → to_come ≡ Some (line s (runs_of run)) → end ≡ Ended
    → HeardOfRun form.reads form.alike s run answers

-- The two parts joined: where the line was empty, what senders left there is what comes, and the reader has told its end, that is heard.
pub heard_in_turn : {V : Type 0} (form : WireForm V) {n s : ℕ} {old new : LineState}
    {to_come : Option (List ℕ)} {end : End} {run : List (List (V × Send))} {answers : List (Answer V)}
    (limit : ℕ) (stream : List ℕ) → LeavesRun form.takes form.writes form.valid n s old new run
    → HearsValues form limit s to_come end answers → n ≤ limit
    → old.told ≡ Some [] → new.told ≡ Some stream → to_come ≡ Some stream → end ≡ Ended
    → HeardOfRun form.reads form.alike s run answers
heard_in_turn form {n = n} {s = s} {old = old} {new = new} {run = run} limit stream left hears l empty wrote comes ends =
    let bytes = line s (runs_of run) in
    let whole = all_written old new stream bytes empty wrote left.wrote in
    hears n run l left.is left.of (comes ∙ ap Some whole) ends
