-- The first answers of a reception: where a value is lost, the reading ended, or a list kept no more.
use Rattle.std.proofs.Common.{◌≡◌, ℕ, Bool, true, false, List, [], ◌∷◌, ◌++◌, Option, Some, None, refl, sym, ap, ◌∙◌, subst, append_assoc, ◌≢◌, append-nil, inl, inr, arith, ◌+◌, ◌<◌, ◌≤◌, length, take, drop, length-append, take-append-drop, length-take, take-take}
use Rattle.std.specs.Prelude.{Vec}
use Rattle.std.specs.List.{AllZip}
use Rattle.line_io.specs.Device.{LineState}
use Rattle.postcard_tree.specs.Tree.{Tree}
use Rattle.link.specs.Filled.{Filled}
use Rattle.link.specs.Link.{Verdict, IsAnswer, Answers, cut_answers, unfinished, IsJudged, Judging, Matches, HasAllButLast, HasBegun, IsReceived, EndsAtLoss, EndsFor, begun_answers, Given, ended, IsLost}
use Rattle.line_io.specs.Transfers.{HasRead}
use Rattle.link.specs.Each.{HasReadNow, IsReceivedNow, MayLackMemory, IsAsked, WasAsked}
use Rattle.link.specs.Firsts.{KeepsFirst, listed_end, not_both as no_both}
use Rattle.link.specs.declared.receiver.Answer.{Answer}
use Rattle.line_io.specs.declared.transfers.End.{End}
use Rattle.line_io.specs.declared.transfers.End.TheVariants.{Ended, ReadFault, NoMemory}
use Rattle.link.specs.Lemmas.HeardLaws.{zip_parts, heard_once, at_end, zip_once, heard_parts}
use Rattle.link.specs.Lemmas.Facts.{one_answer, some_bytes}
use Rattle.link.specs.declared.reception.Reception.{Reception}
use Rattle.std.proofs.Math.Seq.{take-append_seam}
use Rattle.cobs.specs.Frames.{NoZero}
use Rattle.cobs.specs.Sentinel.{masked}
use Rattle.link.specs.Listening.{AnswersBeginProperly, IsKeptDue, Hears}
use Rattle.link.specs.Lemmas.FeedLaws.{is_short, short_answers, ended_front}
use Rattle.link.specs.Lemmas.Pieces.{ends_at, ended_at}

module _ (holds : List ℕ → Tree → Type 0) (judged : IsJudged holds) (limit s : ℕ) where
  one : (p : List ℕ) (v w : Verdict) → IsAnswer holds limit p v → IsAnswer holds limit p w → v ≡ w
  one = one_answer holds limit judged.one

  -- the end of a stream adds what is cut
  pub given_first : (stream : List ℕ) (us all : List Verdict) → Given holds limit s stream us
      → Answers holds limit s stream all → all ≡ us ++ cut_answers limit (unfinished s stream)
  given_first stream us all g a =
      let u = unfinished s stream in
      a.whole ∙ ap (λ x. x ++ (begun_answers limit u ++ cut_answers limit u))
      (zip_once (IsAnswer holds limit) one (ended s stream) a.done g.done a.each g.each)
      ∙ sym (append_assoc g.done (begun_answers limit u) (cut_answers limit u))
      ∙ ap (λ x. x ++ cut_answers limit u) (sym g.whole)

  -- an ended stretch has the first answer
  first_answer : (p stream : List ℕ) (vs : List Verdict) → 0 < length p → NoZero p
      → Answers holds limit s (masked s p ++ (s ∷ stream)) vs
      → (a : Verdict) × (more : List Verdict) × (vs ≡ a ∷ more)
  first_answer [] stream vs l z h = absurd (omega arith)
  first_answer (b ∷ p) stream vs l z h =
      go h.done (subst (λ ps. AllZip (IsAnswer holds limit) ps h.done) (ended_at s b p stream z) h.each) h.whole
    where
      said : List Verdict
      said = at_end limit (unfinished s (masked s (b ∷ p) ++ (s ∷ stream)))

      go : (done : List Verdict)
          → AllZip (IsAnswer holds limit) ((b ∷ p) ∷ ended s stream) done
          → vs ≡ done ++ said → (a : Verdict) × (more : List Verdict) × (vs ≡ a ∷ more)
      go [] e w = absurd e
      go (a ∷ done) e w = (a, done ++ said, w)

  -- a sentinel behind an unfinished stretch brings a further answer
  given_ended : (x z : List ℕ) (us all : List Verdict) → 0 < length (unfinished s x)
      → length (unfinished s x) ≤ limit → Given holds limit s x us
      → Answers holds limit s (x ++ (s ∷ z)) all
      → (w : Verdict) × (more : List Verdict) × (all ≡ us ++ (w ∷ more))
  given_ended x z us all l n g a =
      let h = ends_at s x in
      let u = unfinished s x in
      let rest = masked s u ++ (s ∷ z) in
      let whole : x ++ (s ∷ z) ≡ h.front ++ rest =
      ap (λ y. y ++ (s ∷ z)) h.whole ∙ append_assoc h.front (masked s u) (s ∷ z) in
      let k = heard_parts (IsAnswer holds limit) (at_end limit) s (λ p. []) refl h.front rest all h.between (subst (λ y. Answers holds limit s y all) whole a) in
      let same : k.0 ≡ g.done = heard_once (IsAnswer holds limit) (λ p. []) s one h.front k.0 g.done k.2 (record {
        done = g.done;
        each = subst (λ ps. AllZip (IsAnswer holds limit) ps g.done) (ended_front s x) g.each;
        whole = sym (append-nil g.done);
      }) in
      let f = first_answer u z k.1 l h.nonzero k.3 in
      let none : us ≡ g.done =
      g.whole ∙ ap (λ y. g.done ++ y) (short_answers limit u n) ∙ append-nil g.done in
      (f.0, f.1, k.4 ∙ ap (λ y. y ++ k.1) (same ∙ sym none) ∙ ap (λ y. us ++ y) f.2)

  module _ (front rest : List ℕ) (vs : List Verdict) (g : Given holds limit s front vs) where
    -- where a value is lost, the answers so far are a proper beginning of all
    pub by_loss : (used : ℕ) → IsLost holds limit s front rest used → (more : List ℕ)
        → AnswersBeginProperly holds limit s ((front ++ take used rest) ++ more) vs
    by_loss used l more all h =
        let n = length l.front in
        let long : n + 1 ≤ used = omega (arith, ap length l.bytes, length-append l.front (s ∷ []), length-take used rest) in
        let begins : take n rest ≡ l.front = sym (take-take n used rest (omega arith)) ∙ ap (take n) l.bytes ∙ take-append_seam l.front (s ∷ []) in
        let given = subst (λ y. Given holds limit s (front ++ y) vs) begins (l.least.same vs g n (omega arith)) in
        let parts : (front ++ take used rest) ++ more ≡ (front ++ l.front) ++ (s ∷ more) =
        ap (λ y. y ++ more) (ap (λ y. front ++ y) l.bytes ∙ sym (append_assoc front l.front (s ∷ []))) ∙ append_assoc (front ++ l.front) (s ∷ []) more in
        let k = is_short limit (unfinished s (front ++ l.front)) l.stretch l.begun in
        given_ended (front ++ l.front) more vs all (omega (arith, ap length k.0, some_bytes l.stretch l.message l.frame)) k.1 given (subst (λ y. Answers holds limit s y all) parts h)

-- what was kept is what is received
pub received : {V : Type 0} (holds : List ℕ → Tree → Type 0) (reads : Tree → V → Type 0) (limit s : ℕ) (end : End) (answers : List (Answer V)) (stream : List ℕ) → HasAllButLast holds reads limit s 1024 answers stream → IsKeptDue holds reads limit s end answers stream → IsReceived holds reads limit s end answers stream
received holds reads limit s Ended answers stream l h = h
received holds reads limit s ReadFault answers stream l h = h
received holds reads limit s NoMemory answers stream early h =
    let l = h.loss in record {
      verdicts = l.given.verdicts;
      begins = subst (λ x. AnswersBeginProperly holds limit s x l.given.verdicts) (append_assoc l.front (take l.used l.rest) (drop l.used l.rest) ∙ ap (λ x. l.front ++ x) (take-append-drop l.used l.rest) ∙ sym h.parts) (l.begins (drop l.used l.rest));
      matching = subst (λ xs. AllZip (Matches reads) xs l.given.verdicts) (sym h.said) l.given.matching;
      early = early;
    }

-- and which value was lost
pub lost_value : {V : Type 0} (holds : List ℕ → Tree → Type 0) (reads : Tree → V → Type 0) (limit s : ℕ) (end : End) (answers : List (Answer V)) (stream : List ℕ) → IsKeptDue holds reads limit s end answers stream → Some end ≡ Some NoMemory → EndsAtLoss holds reads limit s answers stream
lost_value holds reads limit s Ended answers stream h e = cc
lost_value holds reads limit s ReadFault answers stream h e = cc
lost_value holds reads limit s NoMemory answers stream h e = h

some_zip : {A B : Type 0} (R : A → B → Type 0) (xs : List A) (ys : List B) → xs ≢ [] → AllZip R xs ys → (y : B) × (more : List B) × (ys ≡ y ∷ more)
some_zip R [] ys n h = absurd (n refl)
some_zip R (x ∷ xs) [] n h = absurd h
some_zip R (x ∷ xs) (y ∷ ys) n h = (y, ys, refl)

module _ {V : Type 0} (holds : List ℕ → Tree → Type 0) (judged : IsJudged holds) (reads : Tree → V → Type 0) (limit s : ℕ) (stream : List ℕ) (kept lost : List (Answer V)) (early : HasAllButLast holds reads limit s 1024 kept stream) where
  -- the verdicts of those that were kept, and at least one more
  record Apart (verdicts : List Verdict) : Type 0 where
    pub first : List Verdict
    pub next : Verdict
    pub more : List Verdict
    pub parts : verdicts ≡ first ++ next ∷ more
    pub matching : AllZip (Matches reads) kept first

  apart : (verdicts : List Verdict) → lost ≢ [] → AllZip (Matches reads) (kept ++ lost) verdicts → Apart verdicts
  apart verdicts n h =
      let z = zip_parts (Matches reads) kept lost verdicts h in
      let m = some_zip (Matches reads) lost z.vs n z.second in
      record { first = z.us; next = m.0; more = m.1; parts = z.whole ∙ ap (λ y. z.us ++ y) m.2; matching = z.first }

  begun_by : (verdicts : List Verdict) → AllZip (Matches reads) (kept ++ lost) verdicts → lost ≢ []
      → ((all : List Verdict) → Answers holds limit s stream all
      → (tail : List Verdict) × (all ≡ verdicts ++ tail))
      → HasBegun holds reads limit s kept stream
  begun_by verdicts h n f =
      let p = apart verdicts n h in
      record {
        verdicts = p.first;
        begins = λ all a.
            let t = f all a in
            (p.next, p.more ++ t.0, t.1 ∙ ap (λ y. y ++ t.0) p.parts ∙ append_assoc p.first (p.next ∷ p.more) t.0);
        matching = p.matching;
        early = early;
      }

  by_end : (end : Option End) → lost ≢ [] → (end ≡ Some ReadFault → ⊥)
      → IsReceivedNow holds reads limit s end (kept ++ lost) stream
      → HasBegun holds reads limit s kept stream
  by_end None n m h = begun_by h.verdicts h.matching n (λ all a. (cut_answers limit (unfinished s stream), given_first holds judged limit s stream h.verdicts all h.given a))
  by_end (Some Ended) n m h = begun_by h.verdicts h.matching n (λ all a. ([], heard_once (IsAnswer holds limit) (at_end limit) s (one_answer holds limit judged.one) stream all h.verdicts a h.all ∙ sym (append-nil h.verdicts)))
  by_end (Some ReadFault) n m h = absurd (m refl)
  by_end (Some NoMemory) n m h = begun_by h.verdicts h.matching n (λ all a. let t = h.begins all a in (t.0 ∷ t.1, t.2))

-- what is kept where nothing was missed is all
all_kept : {V A : Type 0} (old list : Vec (Answer V) A) (answers : List (Answer V)) → old.items ≡ [] → KeepsFirst old list false false answers → answers ≡ list.items
all_kept old list answers o k = k.parts ∙ ap (λ y. k.kept ++ y) (k.whole refl).1 ∙ append-nil k.kept ∙ sym (k.items ∙ ap (λ y. y ++ k.kept) o)

-- what a list keeps is what is received
pub received_by : {V A : Type 0} (holds : List ℕ → Tree → Type 0) (judged : IsJudged holds) (reads : Tree → V → Type 0) (limit s : ℕ) (stream : List ℕ) (end : Option End) (full : Bool) (old list : Vec (Answer V) A) (answers : List (Answer V)) → old.items ≡ []
    → HasAllButLast holds reads limit s 1024 list.items stream → KeepsFirst old list false full answers → (end ≡ None → full ≡ true) → (end ≡ Some ReadFault → full ≡ false) → IsReceivedNow holds reads limit s end answers stream → IsReceived holds reads limit s (listed_end end full) list.items stream
received_by holds judged reads limit s stream end true old list answers o early k n m h =
    let same : list.items ≡ k.kept = k.items ∙ ap (λ y. y ++ k.kept) o in
    subst (λ y. HasBegun holds reads limit s y stream) (sym same)
    (by_end holds judged reads limit s stream k.kept k.lost (subst (λ y. HasAllButLast holds reads limit s 1024 y stream) same early) end (k.missed refl refl) (λ e. absurd (no_both true refl (m e))) (subst (λ y. IsReceivedNow holds reads limit s end y stream) k.parts h))
received_by holds judged reads limit s stream None false old list answers o early k n m h = absurd (no_both false (n refl) refl)
received_by holds judged reads limit s stream (Some end) false old list answers o early k n m h = subst (λ y. IsReceived holds reads limit s end y stream) (all_kept old list answers o k) h

-- and what was read
pub read_by : (old new : LineState) (bytes : List ℕ) (end : Option End) (full : Bool) → (end ≡ None → full ≡ true) → (end ≡ Some ReadFault → full ≡ false)
    → HasReadNow old new end bytes → HasRead old new (listed_end end full) bytes
read_by old new bytes None true n m h = h
read_by old new bytes (Some Ended) true n m h = (h.0, h.1)
read_by old new bytes (Some ReadFault) true n m h = absurd (no_both true refl (m refl))
read_by old new bytes (Some NoMemory) true n m h = h
read_by old new bytes None false n m h = absurd (no_both false (n refl) refl)
read_by old new bytes (Some end) false n m h = h

-- and when out of memory, either it has no place left, or it ends before a value that had none
module _ {V A : Type 0} (holds : List ℕ → Tree → Type 0) (reads : Tree → V → Type 0) (growing : Bool) (limit s : ℕ) (stream : List ℕ) (old list : Vec (Answer V) A) (answers : List (Answer V)) (o : old.items ≡ []) where
  pub ends_by : (end : Option End) (full : Bool) → KeepsFirst old list false full answers → (end ≡ None → full ≡ true) → MayLackMemory growing end → (end ≡ Some NoMemory → EndsAtLoss holds reads limit s answers stream) → listed_end end full ≡ NoMemory → EndsFor holds reads growing limit s list stream
  ends_by end true k n m f e = inl (k.filled (λ q. cc) refl)
  ends_by None false k n m f e = absurd (no_both false (n refl) refl)
  ends_by (Some Ended) false k n m f e = cc
  ends_by (Some ReadFault) false k n m f e = cc
  ends_by (Some NoMemory) false k n m f e = inr (m, subst (λ y. EndsAtLoss holds reads limit s y stream) (all_kept old list answers o k) (f refl))

module _ {D H V : Type 0} (inside : D → Filled) (judging : Judging V) (hears : H → List (Answer V) → H → Type 0) (enough : H → Bool) (settled : H → Type 0) (room : ℕ) (line now : LineState) (end : Option End) (r : Reception D) (h k : H) (answers : List (Answer V)) (bytes : List ℕ) (limit s : ℕ) (stream : List ℕ) (had : List (Answer V)) (heard : Hears inside judging.holds judging.reads limit s r had stream) where
  -- nothing was read
  early_none : (xs : List (Answer V)) → bytes ≡ [] → HasAllButLast judging.holds judging.reads limit s room (had ++ xs) (stream ++ bytes)
  early_none xs e = record {
    before = stream;
    last = bytes;
    early = had;
    later = xs;
    parts = refl;
    short = omega (arith, ap length e);
    given = heard.given;
    said = refl;
  }

  early_as : (w : WasAsked inside judging hears enough settled room line now end r h k answers bytes)
      (xs later : List (Answer V)) → xs ≡ w.early ++ later
      → HasAllButLast judging.holds judging.reads limit s room (had ++ xs) (stream ++ bytes)
  early_as w xs later e = record {
    before = stream ++ w.before;
    last = w.last;
    early = had ++ w.early;
    later = later;
    parts = ap (λ y. stream ++ y) w.parts ∙ sym (append_assoc stream w.before w.last);
    short = w.read.short;
    given = w.given limit s stream had heard;
    said = ap (λ y. had ++ y) e ∙ sym (append_assoc had w.early later);
  }

  -- the answers to what was read before the last read are the first of all
  pub early_of : IsAsked inside judging hears enough settled room line now end r h k answers bytes
      → HasAllButLast judging.holds judging.reads limit s room (had ++ answers) (stream ++ bytes)
  early_of (inl e) = early_none answers e.2
  early_of (inr w) = early_as w answers w.later w.said

  -- and a list that keeps what it hears, until an answer finds no memory, has them
  module _ {A : Type 0} (list : H → Vec (Answer V) A) (full : H → Bool) (keeps : (x y : H) (a : List (Answer V)) → hears x a y → KeepsFirst (list x) (list y) (full x) (full y) a) (same : (x : H) → enough x ≡ full x) where
    pub early_kept : (list h).items ≡ [] → IsAsked inside judging hears enough settled room line now end r h k answers bytes → HasAllButLast judging.holds judging.reads limit s room (had ++ (list k).items) (stream ++ bytes)
    early_kept e (inl f) = early_none (list k).items f.2
    early_kept e (inr w) =
        let p = keeps h w.asked w.early w.heard in
        let q = keeps w.asked k w.later w.hears_on in
        let all : w.early ≡ p.kept = p.parts ∙ ap (λ y. p.kept ++ y) (p.whole (sym (same w.asked) ∙ w.wants)).1 ∙ append-nil p.kept in
        let mid : (list w.asked).items ≡ w.early = p.items ∙ ap (λ y. y ++ p.kept) e ∙ sym all in
        early_as w (list k).items q.kept (q.items ∙ ap (λ y. y ++ q.kept) mid)
