-- What the status of a check says of a log, and that a log is read in one way.
use Rattle.std.proofs.Common.{◌≡◌, ◌↔◌, ℕ, Bool, true, false, ◌&&◌, ◌==◌, is_some, if◌then◌else◌, List, [], ◌∷◌, ◌++◌, length, map, Option, Some, None, refl, sym, ap, subst, ◌∙◌, append-nil, true≢false, inl, arith}
use Rattle.std.proofs.lemmas.List.Folds.{list_all-append, list_all-map}
use Rattle.std.specs.Prelude.{IfSome}
use Rattle.std.specs.List.{list_all}
use Rattle.cobs.specs.FrameLaws.{HasOneMessage, HasOneShortest}
use Rattle.postcard_tree.specs.Bounds.{width_64}
use Rattle.postcard_tree.specs.Tree.{Tree, IsTree, number, group, end, part}
use Rattle.postcard_tree.specs.Spelling.{Spells, short}
use Rattle.postcard_tree.specs.Reading.{ReadsNumber}
use Rattle.postcard_tree.specs.ReadingLaws.{WireForm, number_laws, pair_laws}
use Rattle.link.specs.Stream.{Verdict, value, ended, HoldsExactly, IsAnswer}
use Rattle.link.specs.Pushes.{Matches}
use Rattle.link.specs.Lemmas.Facts.{one_tree_exactly, one_answer}
use Rattle.link.specs.Lemmas.HeardLaws.{IsOne}
use Rattle.link.specs.declared.receiver.Answer.{Answer}
use Rattle.link.specs.declared.receiver.Answer.TheVariants.{Value, Damaged, TooLong, Cut}
use Rattle.journal.specs.Records.{takes_record, reads_record}
use Rattle.journal_scan.specs.Scanning.{with_zero, FoundAll}
use Rattle.journal_scan.specs.Checks.{AreStretches, StandAt, IsChecked, IsRest, IsNoRecord, listed_rest, watched, record_in, records_in, numbers_of}
use Rattle.journal_scan.specs.Tallies.{IsTally, AreMissing, gaps_of}
use Rattle.journal_scan.specs.declared.checking.Report.{Report}
use Rattle.journal_scan.specs.declared.scanning.Stretch.{Stretch}
use Rattle.records.specs.Checking.{SealedLine, HasKeptStretches, AreEachOnce, IsSoundLog, HasOneReading, is_sealed_with, is_sealed_record, has_only_sealed, sealed_number, number_in}
use Rattle.records.specs.declared.checking.Printer.{Printer}

-- One reading

-- the tree of a verdict, if it has one
abbrev tree_or : Tree → Verdict → Tree
tree_or d (value t) = t
tree_or d _ = d

-- whether it has one
abbrev has_tree : Verdict → Bool
has_tree (value t) = true
has_tree _ = false

-- a number that is read of a tree is one
same_number : (t : Tree) (v w : ℕ) → ReadsNumber 64 t v → ReadsNumber 64 t w → v ≡ w
same_number (number b n) v w h k = h.1 ∙ sym k.1
same_number _ v w h k = absurd h

-- the number of a record, if it is the sealed one
abbrev number_if : ℕ → ℕ → Option ℕ
number_if n sealed = if n == sealed then Some n else None

module _ (form : WireForm SealedLine) (same : (v w : SealedLine) → form.alike v w → v.0.0 ≡ w.0.0) where
  -- two records that are read of a tree have the same numbers
  same_record : (t : Tree) (r s : ℕ × SealedLine) → reads_record form.reads t r → reads_record form.reads t s
      → number_if r.0 r.1.0.0 ≡ number_if s.0 s.1.0.0
  same_record (group (part n (part u end))) r s h k =
      ap (λ m. number_if m r.1.0.0) (same_number n r.0 s.0 h.0 k.0)
      ∙ ap (number_if s.0) (same r.1 s.1 (form.laws.one_value u r.1 s.1 h.1.0 k.1.0))
  same_record (group (part n end)) r s h k = absurd h.1
  same_record (group (part n (part u (part w ts)))) r s h k = absurd h.1.1
  same_record _ r s h k = absurd h

  -- and so have two results that match a verdict
  same_result : (w : Verdict) (a b : Answer (ℕ × SealedLine)) → Matches (reads_record form.reads) a w
      → Matches (reads_record form.reads) b w → sealed_number a ≡ sealed_number b
  same_result w (Value r) (Value s) h k =
      same_record k.0 r s (subst (λ t. reads_record form.reads t r) (ap (tree_or h.0) (sym h.2 ∙ k.2)) h.1) k.1
  same_result w (Value r) Damaged h k = absurd (true≢false (ap has_tree (sym h.2 ∙ k)))
  same_result w (Value r) TooLong h k = absurd (true≢false (ap has_tree (sym h.2 ∙ k)))
  same_result w (Value r) Cut h k = absurd (true≢false (ap has_tree (sym h.2 ∙ k)))
  same_result w Damaged (Value s) h k = absurd (true≢false (ap has_tree (sym k.2 ∙ h)))
  same_result w TooLong (Value s) h k = absurd (true≢false (ap has_tree (sym k.2 ∙ h)))
  same_result w Cut (Value s) h k = absurd (true≢false (ap has_tree (sym k.2 ∙ h)))
  same_result w _ _ h k = refl

  module _ (limit : ℕ) (one : IsOne (IsAnswer (HoldsExactly (takes_record form.takes)) limit)) where
    -- stretches of the same bytes have the same numbers
    same_numbers : (bytes : List ℕ) (ps : List (List ℕ)) (us vs : List (Stretch SealedLine))
        → StandAt form limit bytes ps us → StandAt form limit bytes ps vs → map number_in us ≡ map number_in vs
    same_numbers bytes [] [] [] h k = refl
    same_numbers bytes [] [] (v ∷ vs) h k = absurd k
    same_numbers bytes [] (u ∷ us) vs h k = absurd h
    same_numbers bytes (p ∷ ps) [] vs h k = absurd h
    same_numbers bytes (p ∷ ps) (u ∷ us) [] h k = absurd k
    same_numbers bytes (p ∷ ps) (u ∷ us) (v ∷ vs) h k =
        let w : h.0.verdict ≡ k.0.verdict = one p h.0.verdict k.0.verdict h.0.is k.0.is in
        let says = subst (λ y. Matches (reads_record form.reads) u.answer y) w h.0.says in
        ap (λ o. o ∷ map number_in us) (same_result k.0.verdict u.answer v.answer says k.0.says)
        ∙ ap (λ os. number_in v ∷ os) (same_numbers bytes ps us vs h.1 k.1)

  -- a log is read in one way
  pub one_reading : (limit : ℕ) → HasOneMessage → HasOneShortest → ((t : Tree) → IsTree t → Spells t (short t))
      → HasOneReading form limit
  one_reading limit message shortest spells bytes us vs =
      let record_laws = pair_laws (number_laws 64 9 1 width_64 refl refl) form.laws in
      let takes : Tree → Type 0 = takes_record form.takes in
      let one = one_answer (HoldsExactly takes) limit (one_tree_exactly takes record {
        one_message = message;
        one_shortest = shortest;
        apart = record_laws.once;
        trees = record_laws.trees;
        spells = spells;
      }) in
      same_numbers limit one bytes (ended 0 bytes) us vs

-- What the status says

-- if there is a range of missing numbers, one is missing
pub some_missing : (numbers : List ℕ) (entries rest : List (ℕ × ℕ)) (e : ℕ × ℕ) → entries ≡ e ∷ rest
    → AreMissing numbers (gaps_of entries) → AreMissing numbers [] → ⊥
some_missing numbers entries rest e is some none =
    let m = subst (λ x. AreMissing numbers (gaps_of x)) is some in
    (none.missing e.0).1 ((m.missing e.0).0 (inl (omega arith, m.apart.1)))

-- the numbers among these
abbrev some_of : List (Option ℕ) → List ℕ
some_of [] = []
some_of (None ∷ os) = some_of os
some_of (Some n ∷ os) = n ∷ some_of os

-- if the numbers of later records are these, so are those of one more
numbers_more : (a : Answer (ℕ × SealedLine)) (later : List (ℕ × SealedLine)) (os : List (Option ℕ)) → numbers_of later ≡ some_of os
    → numbers_of (record_in is_sealed_with a ++ later) ≡ some_of (sealed_number a ∷ os)
numbers_more (Value r) later os e = by (r.0 == r.1.0.0)
  where
    by : (b : Bool) → numbers_of ((if b then r ∷ [] else []) ++ later) ≡ some_of ((if b then Some r.0 else None) ∷ os)
    by true = ap (λ ns. r.0 ∷ ns) e
    by false = e
numbers_more Damaged later os e = e
numbers_more TooLong later os e = e
numbers_more Cut later os e = e

-- the numbers of the records among stretches are those that are in these
numbers_in : (stretches : List (Stretch SealedLine)) → numbers_of (records_in is_sealed_with stretches) ≡ some_of (map number_in stretches)
numbers_in [] = refl
numbers_in (s ∷ stretches) = numbers_more s.answer (records_in is_sealed_with stretches) (map number_in stretches) (numbers_in stretches)

-- a result that is no record has no number
none_numbered : (a : Answer (ℕ × SealedLine)) → IsNoRecord a → is_some (sealed_number a) ≡ false
none_numbered (Value r) h = absurd h
none_numbered Damaged h = refl
none_numbered TooLong h = refl
none_numbered Cut h = refl

-- if all stretches and what is left over are sealed records, nothing is left over
nothing_over : (bytes : List ℕ) (stretches : List (Stretch SealedLine)) (rest : Option (Stretch SealedLine)) → IsRest bytes rest
    → list_all is_sealed_record (stretches ++ listed_rest rest) ≡ true → rest ≡ None
nothing_over bytes stretches None h e = refl
nothing_over bytes stretches (Some s) h e =
    absurd (true≢false (sym e ∙ list_all-append is_sealed_record stretches (s ∷ []) ∙ ap (λ b. list_all is_sealed_record stretches && (b && true)) (none_numbered s.answer h.1) ∙ and_false (list_all is_sealed_record stretches)))
  where
    and_false : (b : Bool) → (b && false) ≡ false
    and_false true = refl
    and_false false = refl

-- a check without a fault finds nothing wrong exactly if the log is sound
pub sound_log : (form : WireForm SealedLine) (limit : ℕ) (held : Option (List ℕ)) (halts : Printer → Type 0) (old new : Printer) (report : Report SealedLine) (status : ℕ) (kept : Bool)
    → HasOneReading form limit → has_only_sealed old ≡ true
    → IsChecked form limit (watched HasKeptStretches halts is_sealed_with old new) held report
    → kept ≡ has_only_sealed new
    → ((numbers : List ℕ) → IsTally numbers report.tally → (status ≡ 0) ↔ ((kept ≡ true) × (report.unfinished ≡ None) × AreEachOnce numbers))
    → IfSome held (λ bytes. (status ≡ 0) ↔ IsSoundLog form limit bytes)
sound_log form limit None halts old new report status kept one begun c ends is = tt
sound_log form limit (Some bytes) halts old new report status kept one begun c ends is = (to, from)
  where
    all : List (Stretch SealedLine)
    all = c.stretches ++ listed_rest report.unfinished

    numbers : List ℕ
    numbers = numbers_of (records_in is_sealed_with c.stretches)

    both : (status ≡ 0) ↔ ((kept ≡ true) × (report.unfinished ≡ None) × AreEachOnce numbers)
    both = is numbers c.tallied

    sealed : kept ≡ list_all is_sealed_record c.stretches
    sealed = ends ∙ c.handed.sealed ∙ ap (λ b. b && list_all is_sealed_record c.stretches) begun

    to : status ≡ 0 → IsSoundLog form limit bytes
    to zero = let found = both.0 zero in record {
      stretches = c.stretches;
      are = subst (λ x. AreStretches form limit (with_zero bytes) x) (ap (λ o. c.stretches ++ listed_rest o) found.1 ∙ append-nil c.stretches) c.are;
      sealed = sym sealed ∙ found.0;
      each_once = found.2;
    }

    from : IsSoundLog form limit bytes → status ≡ 0
    from s =
        let same = one (with_zero bytes) all s.stretches c.are s.are in
        let every : list_all is_sealed_record all ≡ true = sym (list_all-map is_some number_in all) ∙ ap (list_all is_some) same ∙ list_all-map is_some number_in s.stretches ∙ s.sealed in
        let none = nothing_over bytes c.stretches report.unfinished c.rest every in
        let whole : all ≡ c.stretches = ap (λ o. c.stretches ++ listed_rest o) none ∙ append-nil c.stretches in
        let numbered : numbers_of (records_in is_sealed_with s.stretches) ≡ numbers = numbers_in s.stretches ∙ ap some_of (sym same ∙ ap (map number_in) whole) ∙ sym (numbers_in c.stretches) in
        both.1 (sealed ∙ ap (list_all is_sealed_record) (sym whole) ∙ every, none, subst AreEachOnce numbered s.each_once)

-- a scan that finds no further stretch is at the log's end
pub at_end : (form : WireForm SealedLine) (limit : ℕ) (bytes : List ℕ) (old new : ℕ) (found : Option (Stretch SealedLine)) → found ≡ None
    → FoundAll form limit bytes old new found → new ≡ length bytes
at_end form limit bytes old new None e f = f.0
at_end form limit bytes old new (Some s) e f = absurd (true≢false (ap is_some e))
