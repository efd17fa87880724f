-- What a log's stretches are as a whole, and what checking it finds.
use Rattle.std.specs.Prelude.{◌≡◌, ◌↔◌, ◌⊎◌, ℕ, ◌-◌, ◌^◌, ◌<◌, Bool, true, false, IsTrue, List, [], ◌∷◌, ◌++◌, length, take, map, if◌then◌else◌, Option, Some, None, IfSome}
use Rattle.std.specs.List.{AllZip, Contains}
use Rattle.postcard_tree.specs.ReadingLaws.{WireForm}
use Rattle.link.specs.Stream.{ended}
use Rattle.link.specs.declared.receiver.Answer.{Answer}
use Rattle.link.specs.declared.receiver.Answer.TheVariants.{Value, Damaged, TooLong, Cut}
use Rattle.journal_scan.specs.declared.scanning.Stretch.{Stretch}
use Rattle.journal_scan.specs.declared.tallies.Tally.{Tally}
use Rattle.journal_scan.specs.declared.scanning.ScanError.TheVariants.{Fault, NoMemory}
use Rattle.journal_scan.specs.declared.checking.CheckError.{CheckError}
use Rattle.journal_scan.specs.declared.checking.Report.{Report}
use Rattle.journal_scan.specs.declared.checking.CheckError.TheVariants.{Read, Halted}
use Rattle.journal_scan.specs.Scanning.{IsStretchAt, LosesNext, with_zero}
use Rattle.journal_scan.specs.Tallies.{IsTally, NeedsRange}

-- these stretches of a log are these bytes, one after another, each with its place and its answer, strictly
abbrev pub StandAt : {V : Type 0} → WireForm V → ℕ → List ℕ → List (List ℕ) → List (Stretch V) → Type 0
StandAt form limit bytes ps stretches =
    AllZip (λ p s. IsStretchAt form limit bytes p s) ps stretches

-- these are all the stretches of a log that zeros end, in order, each with its place and its answer
abbrev pub AreStretches : {V : Type 0} → WireForm V → ℕ → List ℕ → List (Stretch V) → Type 0
AreStretches form limit bytes stretches = StandAt form limit bytes (ended 0 bytes) stretches

-- the record that a result is, if it is one that counts
abbrev pub record_in : {V : Type 0} → (ℕ → V → Bool) → Answer (ℕ × V) → List (ℕ × V)
record_in counted (Value r) = if counted r.0 r.1 then r ∷ [] else []
record_in counted Damaged = []
record_in counted TooLong = []
record_in counted Cut = []

-- the records among stretches that count, in order
abbrev pub records_in : {V : Type 0} → (ℕ → V → Bool) → List (Stretch V) → List (ℕ × V)
records_in counted [] = []
records_in counted (s ∷ stretches) = record_in counted s.answer ++ records_in counted stretches

-- the numbers of records
abbrev pub numbers_of : {V : Type 0} → List (ℕ × V) → List ℕ
numbers_of records = map (λ r. r.0) records

-- a list of one, or none
abbrev pub listed_rest : {V : Type 0} → Option (Stretch V) → List (Stretch V)
listed_rest None = []
listed_rest (Some s) = s ∷ []

-- a result that is no record
abbrev pub IsNoRecord : {V : Type 0} → Answer (ℕ × V) → Type 0
IsNoRecord (Value r) = ⊥
IsNoRecord Damaged = Unit {0}
IsNoRecord TooLong = Unit {0}
IsNoRecord Cut = Unit {0}

-- what is left of a log's stretches once the watcher received the others: it stands at the log's end, and is no record
abbrev pub IsRest : {V : Type 0} → List ℕ → Option (Stretch V) → Type 0
IsRest bytes None = Unit {0}
IsRest bytes (Some s) = (s.to ≡ length bytes) × IsNoRecord s.answer

-- A watcher before and after a check, what it is that it received stretches, when it may halt, and which records count.
pub record Watched (W V : Type 0) : Type 1 where
  -- it received these stretches in turn: the watcher before, the stretches, the watcher after
  pub told : W → List (Stretch V) → W → Type 0
  -- it may halt
  pub halts : W → Type 0
  -- which records count, by number and value
  pub counted : ℕ → V → Bool
  -- the watcher before the check
  pub old : W
  -- the watcher after it
  pub new : W

-- a watcher before and after a check, by what its type says of it
abbrev pub watched : {W V : Type 0} → (W → List (Stretch V) → W → Type 0) → (W → Type 0) → (ℕ → V → Bool) → W → W → Watched W V
watched told halts counted old new = record { told = told; halts = halts; counted = counted; old = old; new = new }

-- A log was checked, with a zero after it, as opening it puts one there: the watcher received its stretches, in order, but for
-- the last one where no zero ends that and it is no record; and what is kept is the tally of the records among them that count.
pub record IsChecked {V W : Type 0} (form : WireForm V) (limit : ℕ) (watch : Watched W V) (held : Option (List ℕ))
    (report : Report V) : Type 0 where
  -- the stretches that were reported
  pub stretches : List (Stretch V)
  -- the watcher received them, in order
  pub handed : watch.told watch.old stretches watch.new
  -- with the unfinished one they are all stretches of the log and a zero
  pub are : IfSome held (λ bytes. AreStretches form limit (with_zero bytes) (stretches ++ listed_rest report.unfinished))
  -- the tally has exactly the records that count
  pub tallied : IsTally (numbers_of (records_in watch.counted stretches)) report.tally
  -- the unfinished one ends where the log does, and is no record
  pub rest : IfSome held (λ bytes. IsRest bytes report.unfinished)

-- Whether the number of a record that counts was among those before it; of none it isn't. Of the greatest number of all that isn't
-- said.
abbrev pub IsAgain : {V : Type 0} → List ℕ → List (ℕ × V) → Bool → Type 0
IsAgain numbers [] again = again ≡ false
IsAgain numbers (r ∷ _) again = r.0 < 2 ^ 64 - 1 → IsTrue again ↔ Contains numbers r.0

-- why a log wasn't checked to its end: a read failed, an allocation failed, or the watcher halted
abbrev pub CheckCause : Type 0 → Type 0 → CheckError → Type 0
CheckCause failed halted (Read Fault) = failed
CheckCause failed halted (Read NoMemory) = Unit {0}
CheckCause failed halted Halted = halted

-- a fact unless a read failed
abbrev pub UnlessFault : CheckError → Type 0 → Type 0
UnlessFault (Read Fault) P = Unit {0}
UnlessFault (Read NoMemory) P = P
UnlessFault Halted P = P

-- these are the first stretches of a log, in order: all that zeros end among so many of its bytes, of which this holds
abbrev pub AreFirstStretches : {V : Type 0} → WireForm V → ℕ → List ℕ → List (Stretch V) → (List ℕ → ℕ → Type 0) → Type 0
AreFirstStretches form limit bytes stretches goes_on =
    (count : ℕ) × StandAt form limit bytes (ended 0 (take count bytes)) stretches × goes_on bytes count

-- The watcher received the first stretches of a log and a zero, in order, and nothing else. This holds of these bytes and of how many
-- of them were read.
pub record IsCheckedTo {V W : Type 0} (form : WireForm V) (limit : ℕ) (watch : Watched W V)
    (held : Option (List ℕ)) (goes_on : List ℕ → ℕ → Type 0) : Type 0 where
  -- the stretches that were reported
  pub stretches : List (Stretch V)
  -- the watcher received them, in order
  pub handed : watch.told watch.old stretches watch.new
  -- they are the first stretches of the log and a zero
  pub are : IfSome held (λ bytes. AreFirstStretches form limit (with_zero bytes) stretches goes_on)

-- these records are one whose number needs a further range
abbrev pub OneNeedsRange : {V : Type 0} → List ℕ → List (ℕ × V) → Type 0
OneNeedsRange numbers [] = ⊥
OneNeedsRange numbers (r ∷ _) = NeedsRange numbers r.0

-- The same, and the next stretch is a record that counts, whose number needs a further range of missing numbers.
pub record IsUncounted {V W : Type 0} (form : WireForm V) (limit : ℕ) (watch : Watched W V)
    (held : Option (List ℕ)) : Type 0 where
  -- the stretches that were reported
  pub stretches : List (Stretch V)
  -- the watcher received them, in order
  pub handed : watch.told watch.old stretches watch.new
  -- the next one
  pub next : Stretch V
  -- with it they are the first stretches of the log and a zero
  pub are : IfSome held (λ bytes. AreFirstStretches form limit (with_zero bytes) (stretches ++ next ∷ []) (λ _ _. Unit {0}))
  -- its number needs a range
  pub needs : OneNeedsRange (numbers_of (records_in watch.counted stretches)) (record_in watch.counted next.answer)

-- What the watcher received of a log that wasn't checked to its end. Out of memory: nothing, since no buffer was made; or all before
-- a stretch whose value was lost, or whose number wasn't counted. After the last stretch it may have halted.
abbrev pub StopsAfter : {V W : Type 0} → WireForm V → ℕ → Watched W V → Option (List ℕ) → CheckError → Type 0
StopsAfter form limit watch held (Read Fault) = IsCheckedTo form limit watch held (λ _ _. Unit {0})
StopsAfter form limit watch held (Read NoMemory) = watch.told watch.old [] watch.new
    ⊎ (((form.growing ≡ true) × IsCheckedTo form limit watch held (LosesNext limit))
    ⊎ IsUncounted form limit watch held)
StopsAfter {W = W} form limit watch held Halted = (mid : W)
    × IsCheckedTo form limit (watched watch.told watch.halts watch.counted watch.old mid) held (λ _ _. Unit {0})
    × watch.halts mid
