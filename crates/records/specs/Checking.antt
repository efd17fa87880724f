-- What a check keeps of the stretches of a log.
use Rattle.std.specs.Prelude.{◌≡◌, ℕ, ◌-◌, ◌^◌, min, max, Bool, true, false, ◌&&◌, ◌==◌, is_some, if◌then◌else◌, List, [], ◌∷◌, ◌++◌, length, map, Option, Some, None, String, codes, refl}
use Rattle.std.specs.Global.{Global}
use Rattle.std.specs.List.{list_all}
use Rattle.std.proofs.Common.{ap, sym, ◌∙◌}
use Rattle.std.proofs.lemmas.List.Folds.{list_all-append}
use Rattle.link.specs.declared.receiver.Answer.{Answer}
use Rattle.link.specs.declared.receiver.Answer.TheVariants.{Value, Damaged, TooLong, Cut}
use Rattle.sealed.specs.declared.value.Sealed.{Sealed}
use Rattle.journal.specs.Visits.{VisitorLaws}
use Rattle.postcard_tree.specs.ReadingLaws.{WireForm}
use Rattle.journal_scan.specs.declared.scanning.Stretch.{Stretch}
use Rattle.journal_scan.specs.Scanning.{with_zero}
use Rattle.journal_scan.specs.Tallies.{AreMissing, behind_greatest}
use Rattle.journal_scan.specs.Checks.{AreStretches, records_in, numbers_of}
use Rattle.records.specs.declared.checking.Printer.{Printer}

-- a line of text, sealed with a number
abbrev pub SealedLine : Type 0
SealedLine = Sealed (ℕ × String Global)

-- the number of a record, if it is the sealed one
abbrev pub sealed_number : Answer (ℕ × SealedLine) → Option ℕ
sealed_number (Value r) = if r.0 == r.1.0.0 then Some r.0 else None
sealed_number Damaged = None
sealed_number TooLong = None
sealed_number Cut = None

-- whether a stretch is a record whose number is the sealed one
abbrev pub is_sealed_record : Stretch SealedLine → Bool
is_sealed_record s = is_some (sealed_number s.answer)

-- the word for a stretch that is held against a log
abbrev pub fault_word : Answer (ℕ × SealedLine) → List ℕ
fault_word (Value r) = if r.0 == r.1.0.0 then codes "a number again" else codes "damaged"
fault_word Damaged = codes "damaged"
fault_word TooLong = codes "too long"
fault_word Cut = codes "damaged"

-- the greater of two numbers, or the only one
abbrev pub greater_number : Option ℕ → Option ℕ → Option ℕ
greater_number None b = b
greater_number (Some a) None = Some a
greater_number (Some a) (Some b) = Some (max a b)

-- the greatest of a number and those of sealed records
abbrev pub greatest_number : Option ℕ → List (Stretch SealedLine) → Option ℕ
greatest_number g [] = g
greatest_number g (s ∷ ss) = greatest_number (greater_number g (sealed_number s.answer)) ss

-- whether it prints
abbrev pub does_print : Printer → Bool
does_print p = is_some p.to

-- whether each stretch that it was told is a record with the sealed number
abbrev pub has_only_sealed : Printer → Bool
has_only_sealed p = p.only_sealed

-- the greatest number that it was told of a sealed record
abbrev pub greatest_told : Printer → Option ℕ
greatest_told p = p.greatest

-- whether a record has the sealed number
abbrev pub is_sealed_with : ℕ → SealedLine → Bool
is_sealed_with n v = n == v.0.0

-- Each number up to the greatest of these is among them, and once, since they are no more than that.
pub record AreEachOnce (numbers : List ℕ) : Type 0 where
  -- none is missing below the greatest
  pub none_missing : AreMissing numbers []
  -- they are as many as the numbers up to the greatest; both are counted up to 2^64 - 1
  pub as_many : min (length numbers) (2 ^ 64 - 1) ≡ behind_greatest numbers

-- All stretches of a log, with a zero after it, are records that are sealed with their own numbers, and these are all numbers up to
-- the greatest, each once.
pub record IsSoundLog (form : WireForm SealedLine) (limit : ℕ) (bytes : List ℕ) : Type 0 where
  -- the stretches
  pub stretches : List (Stretch SealedLine)
  -- they are all of the log's
  pub are : AreStretches form limit (with_zero bytes) stretches
  -- each is a sealed record
  pub sealed : list_all is_sealed_record stretches ≡ true
  -- their numbers are each there once
  pub each_once : AreEachOnce (numbers_of (records_in is_sealed_with stretches))

-- the number of a stretch, if it is a record that is sealed with it
abbrev pub number_in : Stretch SealedLine → Option ℕ
number_in s = sealed_number s.answer

-- A log is read in one way: its bytes decide which of its stretches are records that are sealed with their numbers, and these numbers.
abbrev pub HasOneReading : WireForm SealedLine → ℕ → Type 0
HasOneReading form limit = (bytes : List ℕ) (us vs : List (Stretch SealedLine))
    → AreStretches form limit bytes us → AreStretches form limit bytes vs
    → map number_in us ≡ map number_in vs

-- What a printer keeps of these stretches, which it was told in turn.
pub record HasKeptStretches (old : Printer) (stretches : List (Stretch SealedLine)) (new : Printer) : Type 0 where
  -- it prints, or doesn't, as before
  pub prints : does_print new ≡ does_print old
  -- the greatest number of a sealed record
  pub greatest : greatest_told new ≡ greatest_number (greatest_told old) stretches
  -- whether all are records with the sealed numbers
  pub sealed : has_only_sealed new ≡ (has_only_sealed old && list_all is_sealed_record stretches)

-- the greatest number of two lists in turn
greatest_more : (g : Option ℕ) (a b : List (Stretch SealedLine))
    → greatest_number (greatest_number g a) b ≡ greatest_number g (a ++ b)
greatest_more g [] b = refl
greatest_more g (s ∷ a) b = greatest_more (greater_number g (sealed_number s.answer)) a b

-- whether two facts hold in turn, or together
all_more : (p a b : Bool) → ((p && a) && b) ≡ (p && (a && b))
all_more true a b = refl
all_more false a b = refl

all_of_none : (p : Bool) → p ≡ (p && true)
all_of_none true = refl
all_of_none false = refl

-- what is told in turn is told as one list
pub keeps_laws : VisitorLaws HasKeptStretches
keeps_laws = record {
  nothing = λ p. record { prints = refl; greatest = refl; sealed = all_of_none (has_only_sealed p) };
  more = λ p q r a b h k. record {
    prints = k.prints ∙ h.prints;
    greatest = k.greatest ∙ (ap (λ g. greatest_number g b) h.greatest ∙ greatest_more (greatest_told p) a b);
    sealed = k.sealed ∙ (ap (λ x. x && list_all is_sealed_record b) h.sealed
        ∙ (all_more (has_only_sealed p) (list_all is_sealed_record a) (list_all is_sealed_record b)
        ∙ ap (λ x. has_only_sealed p && x) (sym (list_all-append is_sealed_record a b))));
  };
}
