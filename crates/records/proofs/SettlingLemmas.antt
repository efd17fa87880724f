-- Records that were appended since a line stood somewhere, and one more.
use Rattle.std.proofs.Common.{◌≡◌, ℕ, ◌+◌, ◌<◌, ◌≤◌, Bool, true, false, refl, List, [], ◌∷◌, ◌++◌, length, drop, Option, Some, Ok, Err, sym, ap, ◌∙◌, subst, append_assoc, append-nil, length-append, length-drop, take-append-drop, arith}
use Rattle.line_io.specs.Device.{LineState, Wrote, Grew}
use Rattle.line_io.specs.Calls.{Wrote-none, Wrote-then}
use Rattle.postcard_tree.specs.Tree.{Tree, IsTree}
use Rattle.link.specs.Run.{Send, IsSend, sent, written, completed}
use Rattle.journal.specs.Records.{numbered}
use Rattle.journal.specs.Appending.{LogPlace, Appended, IsAppend}
use Rattle.journal.specs.declared.log.AppendError.{AppendError}
use Rattle.journal.specs.declared.log.AppendError.TheVariants.{Refused, Line, Spent, Full}
use Rattle.records.specs.Settling.{records_from, HasGrown, IsTorn}
use Rattle.records.specs.Lines.{HasOneMore, AreAppended, left_out_status}

records_more : (n : ℕ) (vs : List Tree) (v : Tree) → records_from n vs ++ sent 0 true (numbered (n + length vs) v) ≡ records_from n (vs ++ v ∷ [])
records_more n [] v = ap (λ m. sent 0 true (numbered m v)) (let e : n + 0 ≡ n = omega arith in e) ∙ sym (append-nil (sent 0 true (numbered n v)))
records_more n (u ∷ vs) v =
    append_assoc (sent 0 true (numbered n u)) (records_from (n + 1) vs) (sent 0 true (numbered (n + length (u ∷ vs)) v))
    ∙ ap (λ x. sent 0 true (numbered n u) ++ x) (ap (λ m. records_from (n + 1) vs ++ sent 0 true (numbered m v)) (let e : n + length (u ∷ vs) ≡ (n + 1) + length vs = omega arith in e) ∙ records_more (n + 1) vs v)

-- what an append that completed makes of what was appended before
pub record GrewOn (writes : Option Tree) (start new : LineState) (first behind : ℕ) (values : List Tree) : Type 0 where
  pub value : Tree
  pub is : writes ≡ Some value
  pub grown : HasGrown start new first behind (values ++ value ∷ []) []

pub grows : (limit : ℕ) (writes : Option Tree) (m first behind : ℕ) (start : LineState) (old new : LogPlace) (values : List Tree)
    → Appended limit writes (Ok m) old new → behind ≡ old.next → HasGrown start old.line first behind values [] → GrewOn writes start new.line first (m + 1) values
grows limit writes m first behind start old new values a e h =
    let n = old.next in
    let v = a.is.1.0 in
    let done : a.send ≡ completed (numbered n v) = a.is.1.2 in
    let here : n ≡ first + length values = sym e ∙ h.numbers in
    let bytes : Wrote old.line new.line (sent 0 true (numbered n v)) = subst (λ x. Wrote old.line new.line (written 0 true x)) done a.wrote in
    record {
      value = v;
      is = a.is.1.1;
      grown = record {
        wrote = subst (λ b. Wrote start new.line b)
            (ap (λ b. b ++ sent 0 true (numbered n v)) (append-nil (records_from first values)) ∙ ap (λ m. records_from first values ++ sent 0 true (numbered m v)) here ∙ records_more first values v ∙ sym (append-nil (records_from first (values ++ v ∷ []))))
            (Wrote-then _ _ _ _ _ h.wrote bytes);
        numbers = omega (arith, a.is.0, here, length-append values (v ∷ []));
      };
    }

-- what one that failed leaves of its record
torn : (limit : ℕ) (spent : Bool) (writes : Option Tree) (n : ℕ) (e : AppendError) (send : Send)
    → IsSend IsTree limit 0 true send → IsAppend limit spent n writes (Err e) send → IsTorn n writes (Err e) (written 0 true send)
torn limit spent writes n Line send s i =
    let bytes = sent 0 true (numbered n i.0) in
    let fewer : i.1 < length bytes = (subst (λ x. IsSend IsTree limit 0 true x) i.3 s).1 in
    record {
      value = i.0;
      is = i.2;
      missing = drop i.1 bytes;
      some_missing = omega (arith, fewer, length-drop i.1 bytes);
      whole = ap (λ x. written 0 true x ++ drop i.1 bytes) i.3 ∙ take-append-drop i.1 bytes;
    }
torn limit spent writes n (Refused e) send s i = ap (λ x. written 0 true x) i.0
torn limit spent writes n Spent send s i = ap (λ x. written 0 true x) i.0
torn limit spent writes n Full send s i = ap (λ x. written 0 true x) i.0

-- what one that failed leaves: the same records, and what went out of it
pub grew_by : (limit : ℕ) (writes : Option Tree) (first behind : ℕ) (e : AppendError) (start : LineState) (old new : LogPlace) (values : List Tree)
    → Appended limit writes (Err e) old new → HasGrown start old.line first behind values []
    → (rest : List ℕ) × IsTorn old.next writes (Err e) rest × HasGrown start new.line first behind values rest
grew_by limit writes first behind e start old new values a h = (
  written 0 true a.send,
  torn limit old.spent writes old.next e a.send a.is_send a.is,
  record {
    wrote = subst (λ b. Wrote start new.line b) (ap (λ b. b ++ written 0 true a.send) (append-nil (records_from first values))) (Wrote-then _ _ _ _ _ h.wrote a.wrote);
    numbers = h.numbers;
  },
)

-- one that completed is one whole record more
pub one_more : (limit : ℕ) (writes : Option Tree) (m : ℕ) (old new : LogPlace) → Appended limit writes (Ok m) old new → new.next ≡ old.next + 1
    → HasOneMore old new
one_more limit writes m old new a e = record {
  value = a.is.1.0;
  wrote = subst (λ x. Wrote old.line new.line (written 0 true x)) a.is.1.2 a.wrote;
  next_is = e;
}

-- Lines that were appended, one after another

-- of no lines each was appended
pub none_appended : (log : LogPlace) (lines : ℕ) → AreAppended log log lines lines 0
none_appended log lines = record {
  values = [];
  grown = record { wrote = Wrote-none log.line; numbers = omega arith };
  all = λ e. omega arith;
  fewer = λ e. absurd (omega (arith, e));
}

-- one line more was
pub line_appended : (old mid new : LogPlace) (before lines status : ℕ) → AreAppended old mid before lines status → HasOneMore mid new
    → AreAppended old new before (lines + 1) status
line_appended old mid new before lines status a h =
    let here : mid.next ≡ old.next + length a.values = a.grown.numbers in
    let longer = length-append a.values (h.value ∷ []) in
    record {
      values = a.values ++ h.value ∷ [];
      grown = record {
        wrote = subst (λ b. Wrote old.line new.line b)
            (ap (λ b. b ++ sent 0 true (numbered mid.next h.value)) (append-nil (records_from old.next a.values)) ∙ ap (λ m. records_from old.next a.values ++ sent 0 true (numbered m h.value)) here ∙ records_more old.next a.values h.value ∙ sym (append-nil (records_from old.next (a.values ++ h.value ∷ []))))
            (Wrote-then _ _ _ _ _ a.grown.wrote h.wrote);
        numbers = omega (arith, h.next_is, here, longer);
      };
      all = λ e. let f = a.all e in omega (arith, f, longer);
      fewer = λ e. let f = a.fewer e in omega (arith, f, longer);
    }

-- how many were appended at most
at_most : (old new : LogPlace) (before lines : ℕ) (left_out : Bool) (a : AreAppended old new before lines (left_out_status left_out)) → before + length a.values ≤ lines
at_most old new before lines true a = let f = a.fewer refl in omega (arith, f)
at_most old new before lines false a = let f = a.all refl in omega (arith, f)

-- one line more was left out
pub line_left_out : (old new : LogPlace) (before lines : ℕ) (left_out : Bool) → AreAppended old new before lines (left_out_status left_out)
    → AreAppended old new before (lines + 1) 1
line_left_out old new before lines left_out a =
    let most = at_most old new before lines left_out a in
    record {
      values = a.values;
      grown = a.grown;
      all = λ e. absurd (omega (arith, e));
      fewer = λ e. omega (arith, most);
    }

-- the log has the same bytes and the same next number, and no call was a fault
pub same_appended : (old mid new : LogPlace) (before lines status : ℕ) → new.line.told ≡ mid.line.told → new.line.faults ≡ mid.line.faults → new.next ≡ mid.next
    → AreAppended old mid before lines status → AreAppended old new before lines status
same_appended old mid new before lines status told faults next a = record {
  values = a.values;
  grown = record {
    wrote = record {
      grew = subst (λ t. Grew old.line.told t old.line.faults new.line.faults (records_from old.next a.values ++ [])) (sym told)
          (subst (λ f. Grew old.line.told mid.line.told old.line.faults f (records_from old.next a.values ++ [])) (sym faults) a.grown.wrote.grew);
      more = omega (arith, faults, a.grown.wrote.more);
    };
    numbers = next ∙ a.grown.numbers;
  };
  all = a.all;
  fewer = a.fewer;
}
