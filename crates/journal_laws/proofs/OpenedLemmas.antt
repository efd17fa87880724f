-- What opening reads of a history.
use Rattle.std.proofs.Common.{◌≡◌, ℕ, ◌+◌, ◌-◌, ◌<◌, ◌≤◌, ◌^◌, min, List, [], ◌∷◌, ◌++◌, length, Option, Some, None, refl, sym, ap, ◌∙◌, subst, inr, arith}
use Rattle.std.specs.Prelude.{IfSome}
use Rattle.std.specs.List.{AllZip}
use Rattle.std.proofs.lemmas.Bool.{le-ltb}
use Rattle.std.proofs.lemmas.List.{append-nil}
use Rattle.line_io.specs.Device.{LineState, Grew}
use Rattle.postcard_tree.specs.Tree.{Tree}
use Rattle.postcard_tree.specs.ReadingLaws.{WireForm}
use Rattle.link.specs.Stream.{Verdict, Answers}
use Rattle.link.specs.Judged.{Judging}
use Rattle.link.specs.Run.{line}
use Rattle.link.specs.Pushes.{Matches}
use Rattle.link.specs.Roads.{values_of}
use Rattle.link.specs.Laws.{Appends}
use Rattle.link.specs.Lemmas.HeardLaws.{empty_ending}
use Rattle.link.specs.declared.receiver.Answer.{Answer}
use Rattle.link.specs.declared.receiver.Answer.TheVariants.{Value, Damaged, TooLong, Cut}
use Rattle.journal.specs.Records.{numbered, takes_record, reads_record, past, past_all}
use Rattle.journal.specs.Places.{Located, answers_in, Numbering, numbered_from, furthest, believed, numbered_behind, all_believed}
use Rattle.journal.specs.Reading.{Visited, IsHanded, log_reading}
use Rattle.journal.specs.Appending.{LogPlace, IsOpened}
use Rattle.journal_laws.specs.Numbers.{Counted, history, CountsOn}
use Rattle.journal_laws.specs.Together.{OpensHistory}
use Rattle.journal_laws.proofs.GoingLemmas.{told_on}

-- what is read by one relation is read by one that follows from it
one_read : {V : Type 0} (r s : Tree → V → Type 0) → ((t : Tree) (v : V) → r t v → s t v) → (a : Answer V) (x : Verdict) → Matches r a x → Matches s a x
one_read r s f (Value v) x h = (h.0, f h.0 v h.1, h.2)
one_read r s f Damaged x h = h
one_read r s f TooLong x h = h
one_read r s f Cut x h = h

all_read : {V : Type 0} (r s : Tree → V → Type 0) → ((t : Tree) (v : V) → r t v → s t v) → (answers : List (Answer V)) (xs : List Verdict) → AllZip (Matches r) answers xs → AllZip (Matches s) answers xs
all_read r s f [] [] h = tt
all_read r s f [] (x ∷ xs) h = absurd h
all_read r s f (a ∷ answers) [] h = absurd h
all_read r s f (a ∷ answers) (x ∷ xs) h = (one_read r s f a x h.0, all_read r s f answers xs h.1)

-- the number of a record
pub number_is : {V : Type 0} (reads : Tree → V → Type 0) (n : ℕ) (t v : Tree) (r : ℕ × V) → t ≡ numbered n v → reads_record reads t r → (r.0 ≡ n) × (n < 2 ^ 64)
number_is reads n t v r e h = let k = subst (λ u. reads_record reads u r) e h in (k.0.1, k.0.2)

-- the most that a next number is
abbrev pub most : ℕ
most = 2 ^ 64 - 1

-- what one answer of a counted log does: it is handed on as it is, and moves the number by one where it is a record
record GoesOnBy {V : Type 0} (n : ℕ) (c : Numbering) (before through : ℕ) (a : Answer (ℕ × V)) (v : Verdict) (vs : List Verdict) : Type 0 where
  m : ℕ
  same : believed c before a ≡ a
  past_is : past c.next a ≡ min m most
  next_is : (numbered_behind c through a).next ≡ min m most
  counted : Counted numbered m (values_of vs)
  long : n + length (values_of (v ∷ vs)) ≡ m + length (values_of vs)

none_counted : {V : Type 0} (n : ℕ) (c : Numbering) (before through : ℕ) (a : Answer (ℕ × V)) (v : Verdict) (vs : List Verdict) → believed c before a ≡ a → past c.next a ≡ c.next → (numbered_behind c through a).next ≡ c.next
    → values_of (v ∷ vs) ≡ values_of vs → Counted numbered n (values_of (v ∷ vs)) → c.next ≡ min n most → GoesOnBy n c before through a v vs
none_counted n c before through a v vs same past_is next_is e k at =
    record { m = n; same = same; past_is = past_is ∙ at; next_is = next_is ∙ at; counted = subst (Counted numbered n) e k; long = ap (λ ts. n + length ts) e }

one_counted : {V : Type 0} (reads : Tree → V → Type 0) (n : ℕ) (c : Numbering) (before through : ℕ) (a : Answer (ℕ × V)) (v : Verdict) (vs : List Verdict)
    → Matches (reads_record reads) a v → Counted numbered n (values_of (v ∷ vs)) → c.next ≡ min n most → GoesOnBy n c before through a v vs
one_counted reads n c before through (Value r) v vs (t, h, e) k at =
    let all = subst (λ u. Counted numbered n (values_of (u ∷ vs))) e k in
    let is = number_is reads n t all.0.0 r all.0.1 h in
    let number : r.0 ≡ n = is.0 in
    let small : n < 2 ^ 64 = is.1 in
    let next : c.next ≡ r.0 = omega (arith, at, number, small) in
    let near : r.0 ≤ furthest c before = omega (arith, next) in
    let not_less : c.next ≤ r.0 = omega (arith, next) in
    record {
      m = n + 1;
      same = rw (le-ltb (furthest c before) r.0 near) refl;
      past_is = rw (le-ltb r.0 c.next not_less) (ap (λ m. min (m + 1) most) number);
      next_is = rw (le-ltb r.0 c.next not_less) (ap (λ m. min (m + 1) most) number);
      counted = all.1;
      long = ap (λ u. n + length (values_of (u ∷ vs))) e ∙ (let z : n + length (t ∷ values_of vs) ≡ (n + 1) + length (values_of vs) = omega arith in z);
    }
one_counted reads n c before through Damaged v vs e k at = none_counted n c before through Damaged v vs refl refl refl (ap (λ u. values_of (u ∷ vs)) e) k at
one_counted reads n c before through TooLong v vs e k at = none_counted n c before through TooLong v vs refl refl refl (ap (λ u. values_of (u ∷ vs)) e) k at
one_counted reads n c before through Cut v vs e k at = none_counted n c before through Cut v vs refl refl refl (ap (λ u. values_of (u ∷ vs)) e) k at

-- of a counted log all answers are handed on as they are
all_counted : {V : Type 0} (reads : Tree → V → Type 0) (n : ℕ) (c : Numbering) (located : List (Located V)) (verdicts : List Verdict)
    → AllZip (Matches (reads_record reads)) (answers_in located) verdicts → Counted numbered n (values_of verdicts) → c.next ≡ min n most
    → (all_believed c located ≡ answers_in located) × (past_all c.next (all_believed c located) ≡ min (n + length (values_of verdicts)) most)
all_counted reads n c [] [] z k at = (refl, at ∙ ap (λ m. min m most) (let e : n ≡ n + 0 = omega arith in e))
all_counted reads n c [] (v ∷ verdicts) z k at = absurd z
all_counted reads n c (p ∷ located) [] z k at = absurd z
all_counted reads n c (p ∷ located) (v ∷ verdicts) z k at =
    let o = one_counted reads n c p.before p.through p.answer v verdicts z.0 k at in
    let later = numbered_behind c p.through (believed c p.before p.answer) in
    let later_is : later.next ≡ min o.m most = ap (λ x. (numbered_behind c p.through x).next) o.same ∙ o.next_is in
    let rest = all_counted reads o.m later located verdicts z.1 o.counted later_is in (
      ap (λ x. x ∷ all_believed later located) o.same ∙ ap (λ x. p.answer ∷ x) rest.0,
      ap (λ m. past_all m (all_believed later located)) (ap (past c.next) o.same ∙ o.past_is ∙ sym later_is) ∙ rest.1 ∙ ap (λ m. min m most) (sym o.long),
    )

-- what is said of the bytes where they are told
pub told_of : (held : Option (List ℕ)) (bytes : List ℕ) (P : List ℕ → Type 0) → held ≡ Some bytes → IfSome held P → P bytes
told_of None bytes P e h = cc
told_of (Some x) bytes P e h = let same : x ≡ bytes = cc in subst P same h

module _ {S V : Type 0} (form : WireForm V) (limit : ℕ) (visit : Visited S V) (judging : Judging (ℕ × V))
    (counts : CountsOn (takes_record form.takes) judging.holds limit 0) (append : Appends judging.holds limit 0) (records : (t : Tree) (r : ℕ × V) → judging.reads t r → reads_record form.reads t r) where
  pub opens_history : (old : LineState) (place : LogPlace)
      → IsOpened (log_reading judging limit 0) visit old place
      → OpensHistory form limit visit old.told place
  opens_history old place o any events framed is e =
      let new = place.line in
      let log = line 0 (history 0 numbered any [] events) in
      let bytes : new.told ≡ Some (log ++ 0 ∷ []) = told_on log (0 ∷ []) new.told old.faults new.faults (subst (λ x. Grew x new.told old.faults new.faults (0 ∷ [])) e o.wrote.grew) o.quiet in
      let told = told_of new.told (log ++ 0 ∷ []) (λ x. IsHanded (log_reading judging limit 0) visit place.next x) bytes o.read in
      let read = told.read in
      let vs = read.given.verdicts in
      let matching = all_read judging.reads (reads_record form.reads) records (answers_in read.located) vs read.given.matching in
      let whole : Answers judging.holds limit 0 (log ++ 0 ∷ []) vs =
      subst (λ x. Answers judging.holds limit 0 x vs) (append-nil (log ++ 0 ∷ []))
      ((append (log ++ 0 ∷ []) [] vs (inr (log, refl))).1 (vs, [], read.given.given, record { done = []; each = tt; whole = sym (empty_ending limit) }, sym (append-nil vs))) in
      let c = counts numbered any events vs framed is whole in
      let all = all_counted form.reads 0 (numbered_from 0) read.located vs matching c.counted refl in
      let same : told.answers ≡ answers_in read.located = read.handed_on ∙ all.0 in
      record {
        answers = told.answers;
        handed = told.handed;
        bytes = bytes;
        verdicts = vs;
        matching = subst (λ x. AllZip (Matches (reads_record form.reads)) x vs) (sym same) matching;
        are = c.are;
        counted = c.counted;
        next_is =
            read.next_is ∙ ap (past_all 0) read.handed_on ∙ all.1 ∙ ap (λ n. min n most) ((let z : 0 + length (values_of vs) ≡ length (values_of vs) = omega arith in z) ∙ ap length c.are);
      }
