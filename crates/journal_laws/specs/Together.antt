-- What opening a log reads, by its history.
use Rattle.std.specs.Prelude.{◌≡◌, ℕ, zero, suc, ◌+◌, ◌-◌, ◌^◌, min, Bool, true, List, [], ◌∷◌, ◌++◌, length, Option, Some, None}
use Rattle.std.specs.List.{AllZip}
use Rattle.postcard_tree.specs.Tree.{Tree}
use Rattle.postcard_tree.specs.ReadingLaws.{WireForm}
use Rattle.link.specs.Stream.{Verdict}
use Rattle.link.specs.Run.{IsFramed, line}
use Rattle.link.specs.Pushes.{Matches}
use Rattle.link.specs.Roads.{values_of}
use Rattle.link.specs.declared.receiver.Answer.{Answer}
use Rattle.journal.specs.Records.{numbered, takes_record, reads_record}
use Rattle.journal.specs.Reading.{Visited}
use Rattle.journal.specs.Appending.{LogPlace}
use Rattle.journal_scan.specs.Checks.{Watched}
use Rattle.journal_scan.specs.Tallies.{IsTally}
use Rattle.journal_scan.specs.declared.scanning.Stretch.{Stretch}
use Rattle.journal_scan.specs.declared.checking.Report.{Report}
use Rattle.journal_laws.specs.Numbers.{LogEvent, Counted, read_of, history, IsHistory}
use Rattle.journal_laws.specs.Sessions.{HistoryGoesOn}

-- what was read of a history and handed to a visitor, and where the journal stands
pub record ReadsHistory {S V : Type 0} (reads : Tree → V → Type 0) (visit : Visited S V) (any : Tree) (events : List LogEvent) (log : LogPlace) : Type 0 where
  -- the results
  pub answers : List (Answer (ℕ × V))
  -- the visitor was handed them, in order
  pub handed : visit.took visit.old answers visit.new
  -- the store holds the line of the history, and a zero
  pub bytes : log.line.told ≡ Some (line 0 (history 0 numbered any [] events) ++ 0 ∷ [])
  -- the results as trees
  pub verdicts : List Verdict
  -- each result is read from its tree
  pub matching : AllZip (Matches (reads_record reads)) answers verdicts
  -- the records among them are those of the history
  pub are : values_of verdicts ≡ read_of (history 0 numbered any [] events)
  -- they carry the numbers 0, 1, 2 and on
  pub counted : Counted numbered 0 (values_of verdicts)
  -- the next number is how many they are
  pub next_is : log.next ≡ min (length (read_of (history 0 numbered any [] events))) (2 ^ 64 - 1)

-- what opening does to a store that holds the line of a history
abbrev pub OpensHistory : {S V : Type 0} → WireForm V → ℕ → Visited S V → Option (List ℕ) → LogPlace → Type 0
OpensHistory form limit visit old log = (any : Tree) (events : List LogEvent) → IsFramed (takes_record form.takes) limit any
    → IsHistory (takes_record form.takes) limit 0 numbered any events → old ≡ Some (line 0 (history 0 numbered any [] events)) → ReadsHistory form.reads visit any events log

-- A judge counts each of these records, whatever it is read as: so it is with one that was sealed with its own number.
abbrev pub AllCount : {V : Type 0} → (Tree → V → Type 0) → (ℕ → V → Bool) → List Tree → Type 0
AllCount {V} reads counted [] = Unit {0}
AllCount {V} reads counted (t ∷ ts) = ((r : ℕ × V) → reads_record reads t r → counted r.0 r.1 ≡ true) × AllCount reads counted ts

-- so many numbers from n on
abbrev pub numbers_on : ℕ → ℕ → List ℕ
numbers_on n zero = []
numbers_on n (suc k) = n ∷ numbers_on (n + 1) k

-- What opening a history by the records that count told, and where the journal stands: the records among the stretches are those of
-- the history, all of them are counted, none is missing, and no stretch is unfinished.
pub record JudgesHistory {V W : Type 0} (reads : Tree → V → Type 0) (watch : Watched W V) (any : Tree) (events : List LogEvent)
    (log : LogPlace) (report : Report V) : Type 0 where
  -- the stretches
  pub stretches : List (Stretch V)
  -- the watcher received them, in order
  pub handed : watch.told watch.old stretches watch.new
  -- the store holds the line of the history, and a zero
  pub bytes : log.line.told ≡ Some (line 0 (history 0 numbered any [] events) ++ 0 ∷ [])
  -- the results as trees
  pub verdicts : List Verdict
  -- each result is read from its tree
  pub matching : AllZip (λ s v. Matches (reads_record reads) s.answer v) stretches verdicts
  -- the records among them are those of the history
  pub are : values_of verdicts ≡ read_of (history 0 numbered any [] events)
  -- they carry the numbers 0, 1, 2 and on
  pub counted : Counted numbered 0 (values_of verdicts)
  -- the tally has exactly these numbers
  pub tallied : IsTally (numbers_on 0 (length (read_of (history 0 numbered any [] events)))) report.tally
  -- no stretch is unfinished
  pub all_ended : report.unfinished ≡ None
  -- the next number is how many they are
  pub next_is : log.next ≡ min (length (read_of (history 0 numbered any [] events))) (2 ^ 64 - 1)

-- what opening by the records that count does to a store that holds the line of a history, each record of which counts
abbrev pub JudgesAnyHistory : {V W : Type 0} → WireForm V → ℕ → Watched W V → Option (List ℕ) → LogPlace → Report V → Type 0
JudgesAnyHistory form limit watch old log report = (any : Tree) (events : List LogEvent) → IsFramed (takes_record form.takes) limit any
    → IsHistory (takes_record form.takes) limit 0 numbered any events → AllCount form.reads watch.counted (read_of (history 0 numbered any [] events))
    → old ≡ Some (line 0 (history 0 numbered any [] events)) → JudgesHistory form.reads watch any events log report

-- Such a history goes on by an opening and appends of these values.
abbrev pub GoesOnCounted : {V : Type 0} → WireForm V → (ℕ → V → Bool) → ℕ → Option (List ℕ) → Option (List ℕ) → List V → Type 0
GoesOnCounted form counted limit old new values = (any : Tree) (events : List LogEvent) → IsFramed (takes_record form.takes) limit any
    → IsHistory (takes_record form.takes) limit 0 numbered any events → AllCount form.reads counted (read_of (history 0 numbered any [] events))
    → old ≡ Some (line 0 (history 0 numbered any [] events)) → HistoryGoesOn form limit any events new values
