-- How answers are handed on and kept, push by push, also behind a value that had no memory.
use Rattle.std.proofs.Common.{◌≡◌, ◌-◌, ◌<◌, ◌≤◌, ◌+◌, Bool, false, ℕ, zero, suc, arith, List, [], ◌∷◌, ◌++◌, length, take, Option, Some, None, Result, Ok, Err, refl, sym, ap, ◌∙◌, subst, inl, inr, append_assoc, append-nil, length-append, length-take-le, true, drop, is_err, IsErr, OnOk, OnErr, take-append-drop, nat_lt, if◌then◌else◌}
use Rattle.line_io.specs.Device.{LineState, Gave, read_faults}
use Rattle.line_io.specs.Calls.{Gave-then, Failed-later}
use Rattle.postcard_tree.specs.Tree.{Tree}
use Rattle.link.specs.Filled.{Filled}
use Rattle.link.specs.Link.{IsBehind, Judging, IsLost, Answered, kept, over, begun, EndsBetween, IsAt}
use Rattle.line_io.specs.Transfers.{HasRead}
use Rattle.link.specs.Listening.{KeepsAnswer, Hears, IsHeard, Loss, through, answers_before, bytes_through, StopsAt, Recovers}
use Rattle.line_io.specs.declared.transfers.End.{End}
use Rattle.line_io.specs.declared.transfers.End.TheVariants.{Ended, ReadFault, NoMemory as NoneLeft}
use Rattle.link.specs.declared.reception.Reception.{Reception}
use Rattle.link.specs.Each.{Handed, HearerLaws, UsesFew, last_call, Adds, AddsBy, IsHeardNow, LastRead, WasAsked, IsAsked}
use Rattle.link.specs.declared.receiver.Answer.{Answer}
use Rattle.link.specs.declared.receiver.NoMemory.{NoMemory}
use Rattle.link.specs.Lemmas.Givens.{none_begun, none_given}
use Rattle.link.specs.Lemmas.Pieces.{unfinished_behind}

module _ {H V : Type 0} (hears : H → List (Answer V) → H → Type 0) (laws : HearerLaws hears) where
  -- nothing was handed on
  pub handed_none : (h : H) (P : List (Answer V) → Type 0) → P [] → Handed hears h h P
  handed_none h P p = record { answers = []; heard = laws.none h; so = p }

  -- the same where the others are known to be behind these
  pub handed_next : (h m k : H) (P Q R : List (Answer V) → Type 0) (p : Handed hears h m P) → Handed hears m k Q → ((ys : List (Answer V)) → Q ys → R (p.answers ++ ys)) → Handed hears h k R
  handed_next h m k P Q R p q f =
      record { answers = p.answers ++ q.answers; heard = laws.more h m k p.answers q.answers p.heard q.heard; so = f q.answers q.so }

  -- and then a pause
  pub handed_paused : (h m k : H) (P : List (Answer V) → Type 0) → Handed hears h m P → hears m [] k → Handed hears h k P
  handed_paused h m k P p q = record { answers = p.answers; heard = subst (λ xs. hears h xs k) (append-nil p.answers) (laws.more h m k p.answers [] p.heard q); so = p.so }

  pub handed_as : (h k : H) (P Q : List (Answer V) → Type 0) → Handed hears h k P → ((xs : List (Answer V)) → P xs → Q xs) → Handed hears h k Q
  handed_as h k P Q p f = record { answers = p.answers; heard = p.heard; so = f p.answers p.so }

module _ {D H V : Type 0} (inside : D → Filled) (judging : Judging V) (hears : H → List (Answer V) → H → Type 0) (enough : H → Bool) (settled : H → Type 0) (room : ℕ) (line now : LineState) (r : Reception D) (h k : H) where
  -- it was asked before a read
  pub was_asked : (end : Option End) (m : Reception D) (l : H) (a b : List ℕ) (more : List (Answer V)) (p : Adds inside judging hears a r m h k) → hears k more l → enough k ≡ false → (settled h → settled k) → LastRead room line now end a b → WasAsked inside judging hears enough settled room line now end r h l (p.answers ++ more) (a ++ b)
  was_asked end m l a b more p q n still read = record {
    before = a;
    last = b;
    parts = refl;
    read = read;
    early = p.answers;
    later = more;
    said = refl;
    asked = k;
    heard = p.heard;
    wants = n;
    settles = still;
    hears_on = q;
    given = λ limit s stream given x. (p.so limit s stream given x).given;
  }

  -- and the end added answers
  pub still_asked : (laws : HearerLaws hears) (end : End) (l : H) (a : List (Answer V)) (bytes : List ℕ) (more : List (Answer V)) → IsAsked inside judging hears enough settled room line now (Some end) r h k a bytes → hears k more l → IsAsked inside judging hears enough settled room line now (Some end) r h l (a ++ more) bytes
  still_asked laws end l a bytes more (inl e) q = let no = e.0 in cc
  still_asked laws end l a bytes more (inr w) q = inr (record {
    before = w.before;
    last = w.last;
    parts = w.parts;
    read = w.read;
    early = w.early;
    later = w.later ++ more;
    said = ap (λ x. x ++ more) w.said ∙ append_assoc w.early w.later more;
    asked = w.asked;
    heard = w.heard;
    wants = w.wants;
    settles = w.settles;
    hears_on = laws.more w.asked k l w.later more w.hears_on q;
    given = w.given;
  })

-- answers, and then others
abbrev pub adds_then : {D H V : Type 0} (inside : D → Filled) (judging : Judging V)
    (hears : H → List (Answer V) → H → Type 0) (laws : HearerLaws hears) (on : Bool) (a b : List ℕ)
    (r m s : Reception D) (h k l : H) (end : Option End) → Adds inside judging hears a r m h k
    → AddsBy inside judging hears on b m s k l end → AddsBy inside judging hears on (a ++ b) r s h l end
adds_then inside judging hears laws on a b r m s h k l end p q = record {
  answers = p.answers ++ q.answers;
  heard = laws.more h k l p.answers q.answers p.heard q.heard;
  so = λ limit z stream given x.
      let now = IsHeardNow inside judging.holds judging.reads limit z on end s in
      subst (now (given ++ (p.answers ++ q.answers))) (append_assoc stream a b)
      (subst (λ xs. now xs ((stream ++ a) ++ b)) (append_assoc given p.answers q.answers)
      (q.so limit z (stream ++ a) (given ++ p.answers) (p.so limit z stream given x)));
}

-- where a receiver stands of which this is heard
pub stands_by : {D V : Type 0} (inside : D → Filled) (holds : List ℕ → Tree → Type 0) (reads : Tree → V → Type 0) (limit s : ℕ) (end : End) (r : Reception D) (answers : List (Answer V)) (stream : List ℕ)
    → IsHeard inside holds reads limit s false end r answers stream → IsBehind inside limit s r stream
stands_by inside holds reads limit s Ended r answers stream h = h.after
stands_by inside holds reads limit s ReadFault r answers stream h = h.after
stands_by inside holds reads limit s NoneLeft r answers stream h = h.1

-- an answer that is kept behind none is kept behind others
pub keeps_behind : {V : Type 0} (answer : Result (Option (Answer V)) NoMemory) (old more : List (Answer V)) → KeepsAnswer answer [] more → KeepsAnswer answer old (old ++ more)
keeps_behind (Ok None) old more k = ap (λ x. old ++ x) k ∙ append-nil old
keeps_behind (Ok (Some a)) old more k = ap (λ x. old ++ x) k
keeps_behind (Err e) old more k = absurd k

-- no byte came, and nothing was handed on
pub nothing_more : {D V : Type 0} (inside : D → Filled) (holds : List ℕ → Tree → Type 0) (reads : Tree → V → Type 0) (limit s : ℕ) (r : Reception D) (given : List (Answer V)) (stream bytes : List ℕ) → bytes ≡ []
    → Hears inside holds reads limit s r given stream → Hears inside holds reads limit s r (given ++ []) (stream ++ bytes)
nothing_more inside holds reads limit s r given stream bytes e h =
    subst (λ xs. Hears inside holds reads limit s r xs (stream ++ bytes)) (sym (append-nil given))
    (subst (λ x. Hears inside holds reads limit s r given x) (sym (ap (λ x. stream ++ x) e ∙ append-nil stream)) h)

-- reads that were no fault, and then the last ones
pub read_then : (u v w : LineState) (a b : List ℕ) (end : End) → Gave u v a → v.faults ≡ u.faults → HasRead v w end b → HasRead u w end (a ++ b)
read_then u v w a b Ended g q h = (Gave-then _ _ _ _ _ g h.0, h.1 ∙ q, h.2)
read_then u v w a b ReadFault g q h = (Gave-then _ _ _ _ _ g h.0, Failed-later u v w q h.1)
read_then u v w a b NoneLeft g q h = (Gave-then _ _ _ _ _ g h.0, h.1 ∙ q)

-- no more calls than these bytes, and then no more than those and the last one
pub few_then : (k m n : ℕ) (a b : List ℕ) (last : ℕ) → k ≤ m + length a + 0 → m ≤ n + length b + last → k ≤ n + length (a ++ b) + last
few_then k m n a b last p q = omega (arith, p, q, length-append a b)

-- few calls, and then few others
pub uses_then : (u v w : LineState) (last : ℕ) → UsesFew u v 0 → UsesFew v w last → UsesFew u w last
uses_then u v w last p q = record {
  bytes = p.bytes ++ q.bytes;
  gave = Gave-then u v w p.bytes q.bytes p.gave q.gave;
  few = omega (arith, p.few, q.few, length-append p.bytes q.bytes);
}

-- what was taken isn't empty
pub taken_some : (n : ℕ) (room : List ℕ) → (n ≡ 0 → ⊥) → n ≤ length room → 0 < length (take n room)
taken_some n room some bound = omega (arith, length-take-le n room bound, some)

-- a buffer that was read into: the bytes at its front, and behind them what it held
pub read_front : (n : ℕ) (new old : List ℕ) → n ≤ length new → drop n new ≡ drop n old → new ≡ take n new ++ drop (length (take n new)) old
read_front n new old l past = sym (take-append-drop n new) ∙ ap (λ x. take n new ++ x) (past ∙ ap (λ k. drop k old) (sym (length-take-le n new l)))

-- a read that took bytes
pub uses_read : (u w : LineState) (bytes : List ℕ) → Gave u w bytes → w.calls_left ≡ u.calls_left - 1 → 0 < length bytes → UsesFew u w 0
uses_read u w bytes g z l = record { bytes = bytes; gave = g; few = omega (arith, z, l) }

-- one read is one fault at most
pub one_read : (calls : ℕ) (answer : Option ℕ) → read_faults calls answer ≤ 1
one_read zero answer = omega arith
one_read (suc calls) None = omega arith
one_read (suc calls) (Some n) = omega arith

-- the last read
pub uses_last : (u w : LineState) (bytes : List ℕ) → Gave u w bytes → w.calls_left ≡ u.calls_left - 1 → UsesFew u w 1
uses_last u w bytes g z = record { bytes = bytes; gave = g; few = omega (arith, z) }

-- few calls, however it ended
pub few_ended : (k m : ℕ) (end : Option End) → k ≤ m + last_call end → k ≤ m + 1
few_ended k m None l = omega arith
few_ended k m (Some end) l = l

pub on_err : {A E : Type 0} (r : Result A E) (P : Type 0) → is_err r ≡ true → OnErr r P → P
on_err (Ok x) P e h = cc
on_err (Err x) P e h = h

pub on_ok : {A E : Type 0} (r : Result A E) (P : Type 0) → is_err r ≡ false → OnOk r P → P
on_ok (Ok x) P e h = h
on_ok (Err x) P e h = cc

module _ {V : Type 0} (holds : List ℕ → Tree → Type 0) (reads : Tree → V → Type 0) (limit s : ℕ) (front rest : List ℕ) (used : ℕ) where
  -- what failed was lost
  pub lost_by : (answer : Result (Option (Answer V)) NoMemory) → Answered holds reads limit s front rest used answer → IsErr answer → IsLost holds limit s front rest used
  lost_by (Ok x) h e = cc
  lost_by (Err e) h n = h

-- behind a stream that ends between stretches what comes begins as behind nothing
begun_on : (limit s : ℕ) (x y : List ℕ) → EndsBetween s x
    → begun limit s (x ++ y) ≡ begun limit s y
begun_on limit s x y e =
    ap (λ u. if nat_lt limit (length u) then over else kept u) (unfinished_behind s x y e)

-- what such a stream stands behind ends there too
ends_on : (s : ℕ) (x y : List ℕ) → EndsBetween s x → EndsBetween s y → EndsBetween s (x ++ y)
ends_on s x y e (inl f) = subst (EndsBetween s) (sym (ap (λ z. x ++ z) f ∙ append-nil x)) e
ends_on s x y e (inr (z, f)) = inr (x ++ z, ap (λ w. x ++ w) f ∙ sym (append_assoc x z (s ∷ [])))

module _ {V : Type 0} {holds : List ℕ → Tree → Type 0} {reads : Tree → V → Type 0} {limit s : ℕ} where
  -- a stream ends between stretches behind such a value
  ends_through : (l : Loss holds reads limit s) → EndsBetween s (through l)
  ends_through l = inr (l.front ++ l.lost.front, ap (λ x. l.front ++ x) l.lost.bytes ∙ sym (append_assoc l.front l.lost.front (s ∷ [])))

module _ {D V : Type 0} (inside : D → Filled) (holds : List ℕ → Tree → Type 0) (reads : Tree → V → Type 0) (limit s : ℕ) where
  answers_then : (ls : List (Loss holds reads limit s)) (l : Loss holds reads limit s) → answers_before (ls ++ l ∷ []) ≡ answers_before ls ++ l.answers
  answers_then [] l = append-nil l.answers
  answers_then (k ∷ ls) l = ap (λ x. k.answers ++ x) (answers_then ls l) ∙ sym (append_assoc k.answers (answers_before ls) l.answers)

  bytes_then : (ls : List (Loss holds reads limit s)) (l : Loss holds reads limit s) → bytes_through (ls ++ l ∷ []) ≡ bytes_through ls ++ through l
  bytes_then [] l = append-nil (through l)
  bytes_then (k ∷ ls) l = ap (λ x. through k ++ x) (bytes_then ls l) ∙ sym (append_assoc (through k) (bytes_through ls) (through l))

  -- behind such values, with nothing begun
  pub record HasLost (r : Reception D) (answers : List (Answer V)) (stream : List ℕ) : Type 0 where
    pub first : Loss holds reads limit s
    pub others : List (Loss holds reads limit s)
    pub said : answers ≡ answers_before (first ∷ others)
    pub parts : stream ≡ bytes_through (first ∷ others)
    pub ends : EndsBetween s stream
    pub at : IsAt inside limit s r (kept [])

  whole : (l : Loss holds reads limit s) (left : List ℕ) → left ≡ drop l.used l.rest → through l ++ left ≡ l.front ++ l.rest
  whole l left e = append_assoc l.front (take l.used l.rest) left ∙ ap (λ x. l.front ++ x) (ap (λ x. take l.used l.rest ++ x) e ∙ take-append-drop l.used l.rest)

  module _ (r : Reception D) (answers : List (Answer V)) (stream piece left : List ℕ) (p : StopsAt inside holds reads limit s r answers stream piece left) where
    pub stopped_parts : stream ++ piece ≡ through p.loss ++ left
    stopped_parts = p.parts ∙ sym (whole p.loss left p.left_is)

    stops_between : IsAt inside limit s r (kept [])
    stops_between = subst (IsAt inside limit s r) (sym p.loss.lost.after) p.after

    pub lost_first : HasLost r answers (through p.loss)
    lost_first = record { first = p.loss; others = []; said = p.said ∙ sym (append-nil p.loss.answers); parts = sym (append-nil (through p.loss)); ends = ends_through p.loss; at = stops_between }

  -- what comes is heard as by a receiver that was given nothing
  pub heard_anew : (r : Reception D) (answers : List (Answer V)) (stream : List ℕ) → HasLost r answers stream → Hears inside holds reads limit s r [] []
  heard_anew r answers stream p = record { after = subst (IsAt inside limit s r) (sym (none_begun limit s)) p.at; given = none_given holds reads limit s }

  pub lost_next : (r q : Reception D) (answers more : List (Answer V)) (stream piece left : List ℕ) → HasLost r answers stream → (h : StopsAt inside holds reads limit s q more [] piece left) → HasLost q (answers ++ more) (stream ++ through h.loss)
  lost_next r q answers more stream piece left p h = record {
    first = p.first;
    others = p.others ++ h.loss ∷ [];
    said = ap (λ x. x ++ more) p.said ∙ ap (λ x. answers_before (p.first ∷ p.others) ++ x) h.said ∙ sym (answers_then (p.first ∷ p.others) h.loss);
    parts = ap (λ x. x ++ through h.loss) p.parts ∙ sym (bytes_then (p.first ∷ p.others) h.loss);
    ends = ends_on s stream (through h.loss) p.ends (ends_through h.loss);
    at = stops_between q more [] piece left h;
  }

  pub recovered : (r q : Reception D) (answers more : List (Answer V)) (stream rest : List ℕ) → HasLost r answers stream → Hears inside holds reads limit s q more rest → Recovers inside holds reads limit s q (answers ++ more) (stream ++ rest)
  recovered r q answers more stream rest p h = record {
    after = subst (IsAt inside limit s q) (sym (begun_on limit s stream rest p.ends)) h.after;
    first = p.first;
    others = p.others;
    later = more;
    rest = rest;
    said = ap (λ x. x ++ more) p.said;
    parts = ap (λ x. x ++ rest) p.parts;
    hears = h;
  }
