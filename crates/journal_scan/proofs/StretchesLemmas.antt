-- The stretches that a scan found one after another.
use Rattle.std.proofs.Common.{◌≡◌, ℕ, ◌+◌, ◌-◌, ◌^◌, ◌<◌, Bool, true, false, List, [], ◌∷◌, ◌++◌, length, take, Option, Some, None, refl, sym, ap, ◌∙◌, subst, inl, inr, append_assoc, arith}
use Rattle.std.specs.Prelude.{IfSome, IsTrue, ◌↔◌, if◌then◌else◌}
use Rattle.std.specs.List.{Contains}
use Rattle.std.proofs.lemmas.List.{append-nil, take_all, length-append}
use Rattle.postcard_tree.specs.ReadingLaws.{WireForm}
use Rattle.link.specs.Stream.{ended}
use Rattle.std.proofs.lemmas.Slice.Zip.{all_zipped_more}
use Rattle.link.specs.declared.receiver.Answer.{Answer}
use Rattle.link.specs.declared.receiver.Answer.TheVariants.{Value}
use Rattle.journal_scan.specs.declared.scanning.Stretch.{Stretch}
use Rattle.journal_scan.specs.declared.closing.ClosedScan.{ClosedScan}
use Rattle.journal_scan.specs.declared.scanning.ScanError.{ScanError}
use Rattle.journal_scan.specs.declared.scanning.ScanError.TheVariants.{Fault, NoMemory}
use Rattle.journal_scan.specs.declared.checking.CheckError.TheVariants.{Read}
use Rattle.journal_scan.specs.Tallies.{NeedsRange}
use Rattle.journal_scan.specs.Scanning.{LosesNext, offset_of, with_zero}
use Rattle.journal_scan.specs.Closing.{IsClosing, HasPassedNone, FoundClosed, LostClosed, passed_by}
use Rattle.journal_scan.specs.Checks.{Watched, StandAt, AreStretches, AreFirstStretches, IsCheckedTo, OneNeedsRange, StopsAfter, IsAgain, record_in, records_in, numbers_of}

-- all of a log with a zero behind it
all_taken : (bytes : List ℕ) → ended 0 (take (length bytes + 1) (with_zero bytes)) ≡ ended 0 (with_zero bytes)
all_taken bytes = ap (ended 0) (take_all (length bytes + 1) (with_zero bytes) (omega (arith, length-append bytes (0 ∷ []))))

-- a scan stands behind these stretches
pub record StandsBehind {V : Type 0} (form : WireForm V) (limit : ℕ) (bytes : List ℕ) (scan : ClosedScan) (stretches : List (Stretch V)) : Type 0 where
  pub closing : IsClosing limit bytes scan
  pub are : StandAt form limit (with_zero bytes) (ended 0 (take (passed_by bytes scan) (with_zero bytes))) stretches

module _ {V : Type 0} (form : WireForm V) (limit : ℕ) (bytes : List ℕ) where
  pub none_behind : (scan : ClosedScan) → HasPassedNone limit bytes scan → StandsBehind form limit bytes scan []
  none_behind scan h = record { closing = h.0; are = subst (λ n. StandAt form limit (with_zero bytes) (ended 0 (take n (with_zero bytes))) []) (sym h.1) tt }

  module _ (old new : ClosedScan) (stretches : List (Stretch V)) (h : StandsBehind form limit bytes old stretches) where
    pub one_behind : (s : Stretch V) → FoundClosed form limit bytes old new (Some s) → StandsBehind form limit bytes new (stretches ++ s ∷ [])
    one_behind s f = record { closing = f.0; are = subst (λ ps. StandAt form limit (with_zero bytes) ps (stretches ++ s ∷ [])) (sym f.1.next) (all_zipped_more _ _ _ f.1.stretch s h.are f.1.is) }

    -- these are all
    pub all_behind : FoundClosed form limit bytes old new None → AreStretches form limit (with_zero bytes) (stretches ++ [])
    all_behind f = subst (AreStretches form limit (with_zero bytes)) (sym (append-nil stretches)) (subst (λ ps. StandAt form limit (with_zero bytes) ps stretches) (sym f.1.1) h.are)

    -- so are these, the last of which ends where the log does
    pub left_behind : (s : Stretch V) → new.closed ≡ true → FoundClosed form limit bytes old new (Some s) → AreStretches form limit (with_zero bytes) (stretches ++ s ∷ []) × (s.to ≡ length bytes)
    left_behind s c f =
        let at : passed_by bytes new ≡ length bytes + 1 = ap (λ b. if b then length bytes + 1 else offset_of new.scan) c in (
          subst (λ ps. StandAt form limit (with_zero bytes) ps (stretches ++ s ∷ [])) (ap (λ n. ended 0 (take n (with_zero bytes))) at ∙ all_taken bytes) (one_behind s f).are,
          omega (arith, at, f.1.behind),
        )

pub records_joined : {V : Type 0} (counted : ℕ → V → Bool) (a b : List (Stretch V)) → records_in counted (a ++ b) ≡ records_in counted a ++ records_in counted b
records_joined counted [] b = refl
records_joined counted (s ∷ a) b = ap (λ x. record_in counted s.answer ++ x) (records_joined counted a b) ∙ sym (append_assoc (record_in counted s.answer) (records_in counted a) (records_in counted b))

pub numbers_joined : {V : Type 0} (a b : List (ℕ × V)) → numbers_of (a ++ b) ≡ numbers_of a ++ numbers_of b
numbers_joined [] b = refl
numbers_joined (r ∷ a) b = ap (λ x. r.0 ∷ x) (numbers_joined a b)

pub numbers_more : {V : Type 0} (counted : ℕ → V → Bool) (a : List (Stretch V)) (s : Stretch V) → numbers_of (records_in counted (a ++ s ∷ [])) ≡ numbers_of (records_in counted a) ++ numbers_of (record_in counted s.answer)
numbers_more counted a s = ap numbers_of (records_joined counted a (s ∷ []) ∙ ap (λ x. records_in counted a ++ x) (append-nil (record_in counted s.answer))) ∙ numbers_joined (records_in counted a) (record_in counted s.answer)

-- a fact of the bytes, where they are told
pub if_told : (held : Option (List ℕ)) (P : List ℕ → Type 0) → ((bytes : List ℕ) → held ≡ Some bytes → P bytes) → IfSome held P
if_told None P h = tt
if_told (Some bytes) P h = h bytes refl

-- what the watcher received so far
module _ {V W : Type 0} (form : WireForm V) (limit : ℕ) (watch : Watched W V) (held : Option (List ℕ)) (scan : ClosedScan) (stretches : List (Stretch V)) (handed : watch.told watch.old stretches watch.new)
    (behind : (bytes : List ℕ) → held ≡ Some bytes → StandsBehind form limit bytes scan stretches) where
  checked_before : (goes_on : List ℕ → ℕ → Type 0) → ((bytes : List ℕ) → held ≡ Some bytes → goes_on (with_zero bytes) (passed_by bytes scan)) → IsCheckedTo form limit watch held goes_on
  checked_before goes_on f = record {
    stretches = stretches;
    handed = handed;
    are = if_told held (λ bytes. AreFirstStretches form limit (with_zero bytes) stretches goes_on) (λ bytes h. (passed_by bytes scan, (behind bytes h).are, f bytes h));
  }

  pub checked_to : IsCheckedTo form limit watch held (λ _ _. Unit {0})
  checked_to = checked_before (λ _ _. Unit {0}) (λ _ _. tt)

  -- the next stretch wasn't read
  pub stops_unread : (later : ClosedScan) (e : ScanError) → (e ≡ NoMemory → form.growing ≡ true) → (e ≡ NoMemory → (bytes : List ℕ) → held ≡ Some bytes → IsClosing limit bytes scan → LostClosed limit bytes scan later)
      → StopsAfter form limit watch held (Read e)
  stops_unread later Fault grows lost = checked_to
  stops_unread later NoMemory grows lost = inr (inl (grows refl, checked_before (LosesNext limit) (λ bytes h. (passed_by bytes later, (lost refl bytes h (behind bytes h).closing).1))))

  -- it was, and isn't counted
  pub stops_uncounted : (later : ClosedScan) (s : Stretch V) → ((bytes : List ℕ) → held ≡ Some bytes → FoundClosed form limit bytes scan later (Some s)) → OneNeedsRange (numbers_of (records_in watch.counted stretches)) (record_in watch.counted s.answer)
      → StopsAfter form limit watch held (Read NoMemory)
  stops_uncounted later s found needs = inr (inr record {
    stretches = stretches;
    handed = handed;
    next = s;
    are = if_told held (λ bytes. AreFirstStretches form limit (with_zero bytes) (stretches ++ s ∷ []) (λ _ _. Unit {0})) (λ bytes h. (passed_by bytes later, (one_behind form limit bytes scan later stretches (behind bytes h) s (found bytes h)).are, tt));
    needs = needs;
  })

-- a record that counts, whose number needs a range
pub needs_counted : {V : Type 0} (counted : ℕ → V → Bool) (r : ℕ × V) (a : Answer (ℕ × V)) (numbers : List ℕ) → a ≡ Value r → counted r.0 r.1 ≡ true → NeedsRange numbers r.0 → OneNeedsRange numbers (record_in counted a)
needs_counted counted r a numbers e t h = subst (λ x. OneNeedsRange numbers (record_in counted x)) (sym e) (go (counted r.0 r.1) t)
  where
    go : (b : Bool) → b ≡ true → OneNeedsRange numbers (if b then r ∷ [] else [])
    go true q = h
    go false q = cc

-- whether the number of a record that counts was there before
pub again_counted : {V : Type 0} (counted : ℕ → V → Bool) (r : ℕ × V) (a : Answer (ℕ × V)) (numbers : List ℕ) (again : Bool) → a ≡ Value r → counted r.0 r.1 ≡ true
    → (r.0 < 2 ^ 64 - 1 → IsTrue again ↔ Contains numbers r.0) → IsAgain numbers (record_in counted a) again
again_counted counted r a numbers again e t h = subst (λ x. IsAgain numbers (record_in counted x) again) (sym e) (go (counted r.0 r.1) t)
  where
    go : (b : Bool) → b ≡ true → IsAgain numbers (if b then r ∷ [] else []) again
    go true q = h
    go false q = cc
