-- What is read of what repairing a log wrote, and of a front of a log.
use Rattle.std.proofs.Common.{◌≡◌, ◌↔◌, ℕ, zero, suc, List, [], ◌∷◌, ◌++◌, map, take, drop, refl, sym, ap, ◌∙◌, subst, inr, append_assoc}
use Rattle.std.proofs.lemmas.List.{append-nil, take-append-drop}
use Rattle.std.specs.List.{AllZip}
use Rattle.cobs.specs.Sentinel.{masked, frame_for}
use Rattle.postcard_tree.specs.Spelling.{short}
use Rattle.journal_scan.specs.Scanning.{with_zero}
use Rattle.postcard_tree.specs.Tree.{Tree}
use Rattle.link.specs.Stream.{value, ended, unfinished, IsAnswer, HoldsExactly, begun_answers, cut_answers, Answers}
use Rattle.link.specs.Run.{line, IsRun}
use Rattle.link.specs.Laws.{IsTold, HasOneAnswer}
use Rattle.link.specs.Lemmas.Pieces.{ended_skip, ended_behind, ended_alone, ends_at}
use Rattle.link.specs.Lemmas.HeardLaws.{zip_parts}
use Rattle.link.specs.Roads.{values_of}
use Rattle.link.specs.Lemmas.ValueLaws.{values_joined, values_done, none_in_begun}
use Rattle.journal.specs.Records.{takes_record}
use Rattle.journal_scan.specs.Repairs.{appended_anew, anew_joined, rewritten, AreReadIn, AreReadFirst}
use Rattle.journal_laws.specs.Laws.{anew}
use Rattle.journal_laws.specs.Again.{RepairsAgain}
use Rattle.journal_laws.proofs.RunsLemmas.{ends_none}
use Rattle.journal_laws.proofs.MendingLemmas.{told_anew, run_anew, framed_strictly}

values_back : (ts : List Tree) → values_of (map value ts) ≡ ts
values_back [] = refl
values_back (t ∷ ts) = ap (λ x. t ∷ x) (values_back ts)

-- what is read of a log, appended anew, is a run
read_run : (takes : Tree → Type 0) (limit : ℕ) (bytes : List ℕ) (ts : List Tree) → AreReadIn takes limit bytes ts → IsRun (takes_record takes) limit 0 (anew ts)
read_run takes limit bytes ts a =
    subst (λ us. IsRun (takes_record takes) limit 0 (anew us)) a.are (run_anew (takes_record takes) (HoldsExactly (takes_record takes)) limit (framed_strictly (takes_record takes) limit) 0 bytes a.answers a.whole)

-- what a repair writes ends the stretches of that run
same_ended : (ts : List Tree) → ended 0 (rewritten ts) ≡ ended 0 (line 0 (anew ts))
same_ended [] = ended_skip 0 []
same_ended (t ∷ ts) = ap (ended 0) (sym (append-nil (rewritten (t ∷ ts))))

-- records appended anew end with a zero
ends_with_zero : (front : List ℕ) (ts : List Tree) → (x : List ℕ) × ((front ++ 0 ∷ []) ++ appended_anew ts ≡ x ++ 0 ∷ [])
ends_with_zero front [] = (front, append-nil (front ++ 0 ∷ []))
ends_with_zero front (t ∷ ts) =
    let more = (front ++ 0 ∷ []) ++ frame_for 0 (short t) in
    let h = ends_with_zero more ts in (
      h.0,
      sym (append_assoc (front ++ 0 ∷ []) (frame_for 0 (short t) ++ 0 ∷ []) (appended_anew ts)) ∙ ap (λ x. x ++ appended_anew ts) (sym (append_assoc (front ++ 0 ∷ []) (frame_for 0 (short t)) (0 ∷ []))) ∙ h.1,
    )

-- one more zero ends nothing there
zero_ends_none : (ts : List Tree) → ended 0 (with_zero (rewritten ts)) ≡ ended 0 (rewritten ts)
zero_ends_none ts = ends_none (rewritten ts) (inr (ends_with_zero [] ts))

-- where the same stretches are ended the same records are read
reads_same : (takes : Tree → Type 0) (limit : ℕ) (x y : List ℕ) (us : List Tree) → ended 0 x ≡ ended 0 y → AreReadIn takes limit x us → AreReadIn takes limit y us
reads_same takes limit x y us e h =
    let strictly = HoldsExactly (takes_record takes) in
    let u = unfinished 0 y in
    let all = h.whole.done ++ (begun_answers limit u ++ cut_answers limit u) in
    let w : Answers strictly limit 0 y all = record { done = h.whole.done; each = subst (λ ps. AllZip (IsAnswer strictly limit) ps h.whole.done) e h.whole.each; whole = refl } in
    record { answers = all; whole = w; are = values_done w ∙ sym (values_done h.whole) ∙ h.are }

-- so what is read again, behind one more zero too
pub repairs_again : (takes : Tree → Type 0) (limit : ℕ) → IsTold (takes_record takes) (HoldsExactly (takes_record takes)) limit 0 → RepairsAgain takes limit
repairs_again takes limit told bytes ts us a = (by (rewritten ts) (same_ended ts), by (with_zero (rewritten ts)) (zero_ends_none ts ∙ same_ended ts))
  where
    log : List ℕ
    log = line 0 (anew ts)

    run : IsRun (takes_record takes) limit 0 (anew ts)
    run = read_run takes limit bytes ts a

    by : (x : List ℕ) → ended 0 x ≡ ended 0 log → AreReadIn takes limit x us ↔ (us ≡ ts)
    by x e = (
      λ k. let h = reads_same takes limit x log us e k in sym h.are ∙ ap values_of ((told (anew ts) h.answers run).0 h.whole ∙ told_anew 0 ts) ∙ values_back ts,
      λ k. reads_same takes limit log x us (sym e) (record { answers = map value ts; whole = (told (anew ts) (map value ts) run).1 (sym (told_anew 0 ts)); are = values_back ts ∙ sym k }),
    )

-- the stretches that are ended in a front are the first ones
record MoreEnded (a b : List ℕ) : Type 0 where
  more : List (List ℕ)
  are : ended 0 (a ++ b) ≡ ended 0 a ++ more

more_ended : (a b : List ℕ) → MoreEnded a b
more_ended a b =
    let h = ends_at 0 a in
    let tail = masked 0 (unfinished 0 a) in
    let own : ended 0 a ≡ ended 0 h.front = ap (ended 0) h.whole ∙ ended_behind 0 h.front tail h.between ∙ ap (λ x. ended 0 h.front ++ x) (ended_alone 0 (unfinished 0 a) h.nonzero) ∙ append-nil (ended 0 h.front) in
    record {
      more = ended 0 (tail ++ b);
      are = ap (λ x. ended 0 (x ++ b)) h.whole ∙ ap (ended 0) (append_assoc h.front tail b) ∙ ended_behind 0 h.front (tail ++ b) h.between ∙ ap (λ x. x ++ ended 0 (tail ++ b)) (sym own);
    }

fronts : (k : ℕ) (a b : List ℕ) → (j : ℕ) × (take k a ≡ take j (a ++ b))
fronts zero a b = (0, refl)
fronts (suc k) [] b = (0, refl)
fronts (suc k) (x ∷ a) b = let h = fronts k a b in (suc h.0, ap (λ y. x ∷ y) h.1)

-- of a front of a log the first records are read
pub repairs_in_fronts : (takes : Tree → Type 0) (limit : ℕ) → HasOneAnswer (HoldsExactly (takes_record takes)) limit 0 → (bytes : List ℕ) (ts us : List Tree) (count : ℕ) → AreReadFirst takes limit bytes ts → AreReadIn takes limit bytes us
    → (k : ℕ) × (take count (rewritten ts) ≡ take k (rewritten us))
repairs_in_fronts takes limit one bytes ts us count f w =
    let strict = IsAnswer (HoldsExactly (takes_record takes)) limit in
    let a = take f.count bytes in
    let m = more_ended a (drop f.count bytes) in
    let z = zip_parts strict (ended 0 a) m.more w.whole.done (subst (λ ps. AllZip strict ps w.whole.done) (ap (ended 0) (sym (take-append-drop f.count bytes)) ∙ m.are) w.whole.each) in
    let said = begun_answers limit (unfinished 0 a) in
    let same : z.us ++ said ≡ f.answers = one.given a (z.us ++ said) f.answers (record { done = z.us; each = z.first; whole = refl }) f.given in
    let first : values_of z.us ≡ ts = sym (append-nil (values_of z.us)) ∙ ap (λ x. values_of z.us ++ x) (sym (none_in_begun limit (unfinished 0 a))) ∙ sym (values_joined z.us said) ∙ ap values_of same ∙ f.are in
    let all : us ≡ ts ++ values_of z.vs = sym w.are ∙ values_done w.whole ∙ ap values_of z.whole ∙ values_joined z.us z.vs ∙ ap (λ x. x ++ values_of z.vs) first in
    let bytes_are : rewritten us ≡ rewritten ts ++ appended_anew (values_of z.vs) = ap rewritten all ∙ ap (λ x. 0 ∷ x) (anew_joined ts (values_of z.vs)) in
    let k = fronts count (rewritten ts) (appended_anew (values_of z.vs)) in
    (k.0, k.1 ∙ ap (take k.0) (sym bytes_are))
