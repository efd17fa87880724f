-- What opening by the records that count reads of a history.
use Rattle.std.proofs.Common.{◌≡◌, ℕ, zero, suc, ◌+◌, min, max, Bool, List, [], ◌∷◌, ◌++◌, length, take, Option, Some, None, refl, sym, ap, ◌∙◌, subst, inr, append_assoc, arith}
use Rattle.std.specs.Prelude.{if◌then◌else◌}
use Rattle.std.specs.List.{AllZip}
use Rattle.std.proofs.lemmas.List.{append-nil, length-append}
use Rattle.std.proofs.Math.Seq.{take-append_seam}
use Rattle.line_io.specs.Device.{LineState, Grew}
use Rattle.postcard_tree.specs.Tree.{Tree}
use Rattle.postcard_tree.specs.ReadingLaws.{WireForm}
use Rattle.link.specs.Stream.{Verdict, ended, unfinished, IsAnswer, HoldsExactly, begun_answers, cut_answers, Answers}
use Rattle.link.specs.Run.{line}
use Rattle.link.specs.Pushes.{Matches}
use Rattle.link.specs.Roads.{values_of}
use Rattle.link.specs.Lemmas.HeardLaws.{empty_ending}
use Rattle.link.specs.Lemmas.MaskLaws.{unmasked}
use Rattle.link.specs.Lemmas.Pieces.{unfinished_alone, unfinished_behind, none_unfinished}
use Rattle.link.specs.declared.receiver.Answer.{Answer}
use Rattle.link.specs.declared.receiver.Answer.TheVariants.{Value, Damaged, TooLong, Cut}
use Rattle.journal.specs.Records.{numbered, takes_record, reads_record}
use Rattle.journal.specs.Appending.{LogPlace}
use Rattle.journal_scan.specs.Scanning.{IsStretchAt, with_zero}
use Rattle.journal_scan.specs.Checks.{Watched, StandAt, AreStretches, IsRest, listed_rest, record_in, records_in, numbers_of}
use Rattle.journal_scan.specs.Tallies.{IsTally, behind_greatest}
use Rattle.journal_scan.specs.Opening.{IsOpenedBy}
use Rattle.journal_scan.specs.declared.scanning.Stretch.{Stretch}
use Rattle.journal_scan.specs.declared.checking.Report.{Report}
use Rattle.journal_laws.specs.Numbers.{Counted, read_of, history, CountsOn}
use Rattle.journal_laws.specs.Together.{AllCount, numbers_on, JudgesAnyHistory}
use Rattle.journal_laws.proofs.RunsLemmas.{ends_none}
use Rattle.journal_laws.proofs.GoingLemmas.{told_on}
use Rattle.journal_laws.proofs.OpenedLemmas.{most, number_is, told_of}

-- what is said of each stretch of a log
record Said {V : Type 0} (form : WireForm V) (limit : ℕ) (ps : List (List ℕ)) (stretches : List (Stretch V)) : Type 0 where
  verdicts : List Verdict
  each : AllZip (IsAnswer (HoldsExactly (takes_record form.takes)) limit) ps verdicts
  matching : AllZip (λ s v. Matches (reads_record form.reads) s.answer v) stretches verdicts

module _ {V : Type 0} (form : WireForm V) (limit : ℕ) (bytes : List ℕ) where
  said : (ps : List (List ℕ)) (stretches : List (Stretch V)) → StandAt form limit bytes ps stretches → Said form limit ps stretches
  said [] [] h = record { verdicts = []; each = tt; matching = tt }
  said [] (s ∷ stretches) h = absurd h
  said (p ∷ ps) [] h = absurd h
  said (p ∷ ps) (s ∷ stretches) h =
      let k = said ps stretches h.1 in
      record { verdicts = h.0.verdict ∷ k.verdicts; each = (h.0.is, k.each); matching = (h.0.says, k.matching) }

  last_of : (ps : List (List ℕ)) (stretches : List (Stretch V)) (s : Stretch V) → StandAt form limit bytes ps (stretches ++ s ∷ [])
      → (p : List ℕ) × IsStretchAt form limit bytes p s
  last_of [] [] s h = absurd h
  last_of [] (u ∷ stretches) s h = absurd h
  last_of (p ∷ ps) [] s h = (p, h.0)
  last_of (p ∷ ps) (u ∷ stretches) s h = last_of ps stretches s h.1

module _ (log : List ℕ) where
  abbrev held : List ℕ
  held = log ++ 0 ∷ []

  -- no stretch stands at the end
  none_at : {V : Type 0} {form : WireForm V} {limit : ℕ} {p : List ℕ} {s : Stretch V}
      → IsStretchAt form limit (with_zero held) p s → s.to ≡ length held → ⊥
  none_at {p = p} h e =
      let whole : with_zero held ≡ (h.front ++ p) ++ (0 ∷ h.rest) = h.bytes_are ∙ sym (append_assoc h.front p (0 ∷ h.rest)) in
      let long : length held ≡ length (h.front ++ p) = omega (arith, e, h.from_is, h.to_is, length-append h.front p) in
      let same : held ≡ h.front ++ p =
      sym (take-append_seam held (0 ∷ [])) ∙ ap (λ n. take n (with_zero held)) long ∙ ap (take (length (h.front ++ p))) whole ∙ take-append_seam (h.front ++ p) (0 ∷ h.rest) in
      let last : unfinished 0 (h.front ++ p) ≡ p = unfinished_behind 0 h.front p h.between ∙ ap (unfinished 0) (sym (unmasked p)) ∙ unfinished_alone 0 p h.nonzero in
      let none : p ≡ [] = sym last ∙ ap (unfinished 0) (sym same) ∙ none_unfinished 0 held (inr (log, refl)) in
      omega (arith, h.some, ap length none)

-- so nothing is unfinished, and these are all stretches
module _ {V : Type 0} (form : WireForm V) (limit : ℕ) (log : List ℕ) (stretches : List (Stretch V)) where
  all_ended : (o : Option (Stretch V)) → AreStretches form limit (with_zero (held log)) (stretches ++ listed_rest o) → IsRest (held log) o → o ≡ None
  all_ended None h r = refl
  all_ended (Some s) h r = absurd (none_at log (last_of form limit (with_zero (held log)) (ended 0 (with_zero (held log))) stretches s h).1 r.0)

  all_said : (o : Option (Stretch V)) → o ≡ None → AreStretches form limit (with_zero (held log)) (stretches ++ listed_rest o) → Said form limit (ended 0 (held log)) stretches
  all_said o e h =
      let alone = subst (λ x. AreStretches form limit (with_zero (held log)) x) (ap (λ x. stretches ++ listed_rest x) e ∙ append-nil stretches) h in
      said form limit (with_zero (held log)) (ended 0 (held log)) stretches (subst (λ ps. StandAt form limit (with_zero (held log)) ps stretches) (ends_none (held log) (inr (log, refl))) alone)

-- the answers to a log that ends with a zero are those to its stretches
answers_of : (holds : List ℕ → Tree → Type 0) (limit : ℕ) (log : List ℕ) (verdicts : List Verdict) → AllZip (IsAnswer holds limit) (ended 0 (held log)) verdicts → Answers holds limit 0 (held log) verdicts
answers_of holds limit log verdicts h = record {
  done = verdicts;
  each = h;
  whole = sym (ap (λ u. verdicts ++ (begun_answers limit u ++ cut_answers limit u)) (none_unfinished 0 (held log) (inr (log, refl))) ∙ ap (λ x. verdicts ++ x) (empty_ending limit) ∙ append-nil verdicts);
}

-- the numbers of counted records
module _ {V : Type 0} (reads : Tree → V → Type 0) (counts : ℕ → V → Bool) where
  none_there : (n : ℕ) (v : Verdict) (vs : List Verdict) (rest : List (ℕ × V)) → values_of (v ∷ vs) ≡ values_of vs → Counted numbered n (values_of (v ∷ vs)) → AllCount reads counts (values_of (v ∷ vs))
      → ((m : ℕ) → Counted numbered m (values_of vs) → AllCount reads counts (values_of vs) → numbers_of rest ≡ numbers_on m (length (values_of vs))) → numbers_of rest ≡ numbers_on n (length (values_of (v ∷ vs)))
  none_there n v vs rest e k q f = f n (subst (Counted numbered n) e k) (subst (AllCount reads counts) e q) ∙ ap (λ ts. numbers_on n (length ts)) (sym e)

  one_number : (n : ℕ) (a : Answer (ℕ × V)) (v : Verdict) (vs : List Verdict) (rest : List (ℕ × V)) → Matches (reads_record reads) a v
      → Counted numbered n (values_of (v ∷ vs)) → AllCount reads counts (values_of (v ∷ vs))
      → ((m : ℕ) → Counted numbered m (values_of vs) → AllCount reads counts (values_of vs) → numbers_of rest ≡ numbers_on m (length (values_of vs)))
      → numbers_of (record_in counts a ++ rest) ≡ numbers_on n (length (values_of (v ∷ vs)))
  one_number n (Value r) v vs rest (t, h, e) k q f =
      let all = subst (λ u. Counted numbered n (values_of (u ∷ vs))) e k in
      let count = subst (λ u. AllCount reads counts (values_of (u ∷ vs))) e q in
      let is = number_is reads n t all.0.0 r all.0.1 h in
      ap (λ b. numbers_of ((if b then r ∷ [] else []) ++ rest)) (count.0 r h) ∙ ap (λ m. m ∷ numbers_of rest) is.0 ∙ ap (λ ms. n ∷ ms) (f (n + 1) all.1 count.1)
      ∙ ap (λ u. numbers_on n (length (values_of (u ∷ vs)))) (sym e)
  one_number n Damaged v vs rest e k q f = none_there n v vs rest (ap (λ u. values_of (u ∷ vs)) e) k q f
  one_number n TooLong v vs rest e k q f = none_there n v vs rest (ap (λ u. values_of (u ∷ vs)) e) k q f
  one_number n Cut v vs rest e k q f = none_there n v vs rest (ap (λ u. values_of (u ∷ vs)) e) k q f

  all_numbers : (n : ℕ) (stretches : List (Stretch V)) (vs : List Verdict) → AllZip (λ s v. Matches (reads_record reads) s.answer v) stretches vs
      → Counted numbered n (values_of vs) → AllCount reads counts (values_of vs) → numbers_of (records_in counts stretches) ≡ numbers_on n (length (values_of vs))
  all_numbers n [] [] z k q = refl
  all_numbers n [] (v ∷ vs) z k q = absurd z
  all_numbers n (s ∷ stretches) [] z k q = absurd z
  all_numbers n (s ∷ stretches) (v ∷ vs) z k q = one_number n s.answer v vs (records_in counts stretches) z.0 k q (λ m c a. all_numbers m stretches vs z.1 c a)

-- the number behind the greatest of them
behind_on : (n k : ℕ) → max (min n most) (behind_greatest (numbers_on n k)) ≡ min (n + k) most
behind_on n zero = omega arith
behind_on n (suc k) = let h = behind_on (n + 1) k in omega (arith, h)

module _ {V W : Type 0} (form : WireForm V) (limit : ℕ) (watch : Watched W V)
    (on : CountsOn (takes_record form.takes) (HoldsExactly (takes_record form.takes)) limit 0) where
  pub judges_history : (old : LineState) (place : LogPlace) (report : Report V)
      → IsOpenedBy form limit watch old place report
      → JudgesAnyHistory form limit watch old.told place report
  judges_history old place report o any events framed is count e =
      let new = place.line in
      let log = line 0 (history 0 numbered any [] events) in
      let bytes : new.told ≡ Some (held log) = told_on log (0 ∷ []) new.told old.faults new.faults (subst (λ x. Grew x new.told old.faults new.faults (0 ∷ [])) e o.wrote.grew) o.quiet in
      let c = o.checked in
      let are = told_of new.told (held log) (λ x. AreStretches form limit (with_zero x) (c.stretches ++ listed_rest report.unfinished)) bytes c.are in
      let rest = told_of new.told (held log) (λ x. IsRest x report.unfinished) bytes c.rest in
      let none = all_ended form limit log c.stretches report.unfinished are rest in
      let s = all_said form limit log c.stretches report.unfinished none are in
      let k = on numbered any events s.verdicts framed is (answers_of (HoldsExactly (takes_record form.takes)) limit log s.verdicts s.each) in
      let numbers : numbers_of (records_in watch.counted c.stretches) ≡ numbers_on 0 (length (values_of s.verdicts)) =
      all_numbers form.reads watch.counted 0 c.stretches s.verdicts s.matching k.counted (subst (AllCount form.reads watch.counted) (sym k.are) count) in
      let tallied = subst (λ ns. IsTally ns report.tally) (numbers ∙ ap (λ ts. numbers_on 0 (length ts)) k.are) c.tallied in
      let records = length (read_of (history 0 numbered any [] events)) in
      record {
        stretches = c.stretches;
        handed = c.handed;
        bytes = bytes;
        verdicts = s.verdicts;
        matching = s.matching;
        are = k.are;
        counted = k.counted;
        tallied = tallied;
        all_ended = none;
        next_is = let h = behind_on 0 records in omega (arith, o.next_is (numbers_on 0 records) tallied, h);
      }
