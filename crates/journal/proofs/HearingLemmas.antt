-- How answers are handed on, push by push, and what is read of a store so far.
use Rattle.std.proofs.Common.{◌≡◌, ℕ, ◌+◌, ◌-◌, ◌*◌, ◌<◌, ◌≤◌, ◌/◌, ◌^◌, min, nat_lt, Bool, true, false, get_or, List, [], ◌∷◌, ◌++◌, length, take, drop, Option, Some, None, Result, Ok, Err, refl, sym, ap, ◌∙◌, subst, inl, inr, append_assoc, arith, rules}
use Rattle.std.specs.Prelude.{IfSome, IfErr, IsErrAnd, if◌then◌else◌}
use Rattle.std.proofs.lemmas.Result.{err_from_is_err_and}
use Rattle.std.proofs.lemmas.Bool.{lt-ltb, le-ltb, cases_lt}
use Rattle.std.proofs.lemmas.List.{append-nil, take-append-le, take_all, take_more, length-take, length-append, take-append-drop}
use Rattle.std.proofs.Math.Seq.{take-add}
use Rattle.line_io.specs.Device.{LineState}
use Rattle.postcard_tree.specs.Tree.{Tree}
use Rattle.link.specs.declared.decoding.ArrayBuffer.{ArrayBuffer}
use Rattle.link.specs.Decoding.{in_array}
use Rattle.link.specs.Lemmas.Givens.{kept_given}
use Rattle.link.specs.Lemmas.Lengths.{parts_on}
use Rattle.link.specs.Receivers.{IsBehind}
use Rattle.link.specs.Pushes.{Answered, IsLeast, IsStretchOf}
use Rattle.link.specs.Listening.{HasGiven}
use Rattle.link.specs.Judged.{Judging}
use Rattle.link.specs.declared.receiver.Answer.{Answer}
use Rattle.link.specs.declared.receiver.Answer.TheVariants.{Value, Damaged, TooLong, Cut}
use Rattle.link.specs.declared.receiver.NoMemory.{NoMemory}
use Rattle.link.specs.declared.reception.Reception.{Reception}
use Rattle.journal.specs.Store.{GaveAt, EndsBefore}
use Rattle.journal.specs.Records.{past, past_all}
use Rattle.journal.specs.Places.{Located, answers_in, IsLocatedIn, AreLocatedIn, Numbering, numbered_from, furthest, believed, numbered_behind, all_believed, numbered_after}
use Rattle.journal.specs.declared.numbers.Count.{Count}
use Rattle.journal.specs.Visits.{VisitorLaws}
use Rattle.journal.specs.Reading.{LogReading, log_reading, Visited, visited, IsRead, IsReadTo, HearsLog, HearsMore, HandsOnBelieved, HearsPart, IsHandedTo, ReadByCalls, StopsBefore, StoppedAt, ReadCause, HandedUntil, numbering_of}
use Rattle.journal.specs.declared.reading.ReadError.{ReadError}
use Rattle.journal.specs.declared.reading.ReadError.TheVariants.{Fault, NoMemory as NoMemoryFound, Halted}

-- a record moves the next number by no more than there are bytes from the last one through it
moves_by : (next first through later before n : ℕ) → next ≤ first + through → through < later → before < later → n ≤ next + (before - through) / 3
    → min (n + 1) (2 ^ 64 - 1) ≤ first + later
moves_by next first through later before n w t b l =
    let third : (before - through) / 3 ≤ before - through = omega arith in
    omega (arith, third)

module _ {V : Type 0} where
  -- the number behind answers that are handed on
  past_one : (c : Numbering) (through : ℕ) (a : Answer (ℕ × V)) → past c.next a ≡ (numbered_behind c through a).next
  past_one c through (Value r) = go (nat_lt r.0 c.next)
    where
      go : (b : Bool) → (if b then c.next else min (r.0 + 1) (2 ^ 64 - 1)) ≡ (let n : Numbering = if b then c else record { next = min (r.0 + 1) (2 ^ 64 - 1); through = through } in n.next)
      go true = refl
      go false = refl
  past_one c through Damaged = refl
  past_one c through TooLong = refl
  past_one c through Cut = refl

  pub next_past : (c : Numbering) (located : List (Located V)) → past_all c.next (all_believed c located) ≡ (numbered_after c located).next
  next_past c [] = refl
  next_past c (p ∷ located) =
      let b = believed c p.before p.answer in
      let later = numbered_behind c p.through b in
      ap (λ n. past_all n (all_believed later located)) (past_one c p.through b) ∙ next_past later located

  -- one more answer behind others
  pub answers_more : (located : List (Located V)) (p : Located V) → answers_in (located ++ p ∷ []) ≡ answers_in located ++ p.answer ∷ []
  answers_more [] p = refl
  answers_more (q ∷ located) p = ap (λ x. q.answer ∷ x) (answers_more located p)

  pub believed_more : (c : Numbering) (located : List (Located V)) (p : Located V) → all_believed c (located ++ p ∷ []) ≡ all_believed c located ++ believed (numbered_after c located) p.before p.answer ∷ []
  believed_more c [] p = refl
  believed_more c (q ∷ located) p = ap (λ x. believed c q.before q.answer ∷ x) (believed_more (numbered_behind c q.through (believed c q.before q.answer)) located p)

  pub numbered_more : (c : Numbering) (located : List (Located V)) (p : Located V)
      → numbered_after c (located ++ p ∷ []) ≡ numbered_behind (numbered_after c located) p.through (believed (numbered_after c located) p.before p.answer)
  numbered_more c [] p = refl
  numbered_more c (q ∷ located) p = numbered_more (numbered_behind c q.through (believed c q.before q.answer)) located p

  pub moves_within : (c : Numbering) (first before through : ℕ) (a : Answer (ℕ × V)) → c.next ≤ first + c.through → c.through < through → before < through
      → (numbered_behind c through (believed c before a)).next ≤ first + (numbered_behind c through (believed c before a)).through
  moves_within c first before through (Value r) w t b = elim (cases_lt (furthest c before) r.0) [
    | inl l ↦ rw (lt-ltb (furthest c before) r.0 l) w
    | inr l ↦ rw (le-ltb (furthest c before) r.0 l) (elim (cases_lt r.0 c.next) [
      | inl m ↦ rw (lt-ltb r.0 c.next m) w
      | inr m ↦ rw (le-ltb r.0 c.next m) (moves_by c.next first c.through through before r.0 w t b l)
    ])
  ]
  moves_within c first before through Damaged w t b = w
  moves_within c first before through TooLong w t b = w
  moves_within c first before through Cut w t b = w

  pub moves_to : (c : Numbering) (through : ℕ) (a : Answer (ℕ × V)) → c.through ≤ through → (numbered_behind c through a).through ≤ through
  moves_to c through (Value r) l = elim (cases_lt r.0 c.next) [
    | inl m ↦ rw (lt-ltb r.0 c.next m) l
    | inr m ↦ rw (le-ltb r.0 c.next m) (omega arith)
  ]
  moves_to c through Damaged l = l
  moves_to c through TooLong l = l
  moves_to c through Cut l = l

module _ {V : Type 0} (holds : List ℕ → Tree → Type 0) (reads : Tree → ℕ × V → Type 0) (limit : ℕ) where
  -- in a longer log
  one_longer : (bytes more : List ℕ) (given : List (Answer (ℕ × V))) (p : Located V) → IsLocatedIn holds reads limit bytes given p → IsLocatedIn holds reads limit (bytes ++ more) given p
  one_longer bytes more given p h = record {
    front = h.front;
    byte = h.byte;
    rest = h.rest ++ more;
    bytes_are = ap (λ x. x ++ more) h.bytes_are ∙ append_assoc (h.front ++ h.byte ∷ []) h.rest more;
    not_yet = h.not_yet;
    now = h.now;
    before_is = h.before_is;
    through_is = h.through_is;
  }

  pub located_longer : (bytes more : List ℕ) (given : List (Answer (ℕ × V))) (located : List (Located V)) → AreLocatedIn holds reads limit bytes given located → AreLocatedIn holds reads limit (bytes ++ more) given located
  located_longer bytes more given [] h = tt
  located_longer bytes more given (p ∷ located) h = (one_longer bytes more given p h.0, located_longer bytes more (given ++ p.answer ∷ []) located h.1)

  pub located_more : (bytes : List ℕ) (given : List (Answer (ℕ × V))) (located : List (Located V)) (p : Located V)
      → AreLocatedIn holds reads limit bytes given located → IsLocatedIn holds reads limit bytes (given ++ answers_in located) p → AreLocatedIn holds reads limit bytes given (located ++ p ∷ [])
  located_more bytes given [] p h k = (subst (λ g. IsLocatedIn holds reads limit bytes g p) (append-nil given) k, tt)
  located_more bytes given (q ∷ located) p h k = (
    h.0,
    located_more bytes (given ++ q.answer ∷ []) located p h.1 (subst (λ g. IsLocatedIn holds reads limit bytes g p) (sym (append_assoc given (q.answer ∷ []) (answers_in located))) k),
  )

module _ {V : Type 0} (log : LogReading V) where
  -- what is said of all bytes
  pub read_whole : (answers : List (Answer (ℕ × V))) (c : Numbering) (bytes : List ℕ) → IsReadTo log answers c bytes → IsRead log answers c.next bytes
  read_whole answers c bytes h = record {
    located = h.located;
    given = h.given;
    places = h.places;
    handed_on = h.handed_on;
    next_is = ap (λ n. n.next) h.numbers ∙ sym (next_past (numbered_from log.first) h.located) ∙ ap (past_all log.first) (sym h.handed_on);
    within = omega (arith, h.within, h.so_far);
  }

  -- what is said of some bytes is said of equal ones
  pub read_as : (answers : List (Answer (ℕ × V))) (c : Numbering) (x y : List ℕ) → x ≡ y → IsReadTo log answers c x → IsReadTo log answers c y
  read_as answers c x y e g = record {
    located = g.located;
    given = subst (λ z. HasGiven log.judging.holds log.judging.reads log.limit 0 (answers_in g.located) z) e g.given;
    places = subst (λ z. AreLocatedIn log.judging.holds log.judging.reads log.limit z [] g.located) e g.places;
    handed_on = g.handed_on;
    numbers = g.numbers;
    within = g.within;
    so_far = subst (λ z. c.through ≤ length z) e g.so_far;
  }

module _ {V : Type 0} (log : LogReading V) (front rest : List ℕ) (used : ℕ) where
  -- a push that answered nothing
  pub read_quiet : (answers : List (Answer (ℕ × V))) (c : Numbering) → IsReadTo log answers c front
      → Answered log.judging.holds log.judging.reads log.limit 0 front rest used (Ok None) → IsReadTo log answers c (front ++ take used rest)
  read_quiet answers c g h = record {
    located = g.located;
    given = kept_given log.judging.holds log.judging.reads log.limit 0 front rest (answers_in g.located) (answers_in g.located) used (Ok None) g.given h refl;
    places = located_longer log.judging.holds log.judging.reads log.limit front (take used rest) [] g.located g.places;
    handed_on = g.handed_on;
    numbers = g.numbers;
    within = g.within;
    so_far = omega (arith, g.so_far, length-append front (take used rest));
  }

  -- fewer bytes than a push takes bring about nothing
  pub read_before : (answers : List (Answer (ℕ × V))) (c : Numbering) (u : ℕ) → IsReadTo log answers c front
      → IsLeast log.judging.holds log.limit 0 front rest used → u < used → IsReadTo log answers c (front ++ take u rest)
  read_before answers c u g h l = record {
    located = g.located;
    given = record { verdicts = g.given.verdicts; given = h.same g.given.verdicts g.given.given u l; matching = g.given.matching };
    places = located_longer log.judging.holds log.judging.reads log.limit front (take u rest) [] g.located g.places;
    handed_on = g.handed_on;
    numbers = g.numbers;
    within = g.within;
    so_far = omega (arith, g.so_far, length-append front (take u rest));
  }

  -- so it is said of a push, whatever it answered
  pub least_of : (r : Result (Option (Answer (ℕ × V))) NoMemory) → Answered log.judging.holds log.judging.reads log.limit 0 front rest used r → IsLeast log.judging.holds log.limit 0 front rest used
  least_of (Ok o) (a, says, push) = push.least
  least_of (Err x) l = l.least

  -- where one that answered stands
  located_at : (answers : List (Answer (ℕ × V))) (x : Answer (ℕ × V)) (stretch heard : ℕ) → HasGiven log.judging.holds log.judging.reads log.limit 0 answers front
      → Answered log.judging.holds log.judging.reads log.limit 0 front rest used (Ok (Some x)) → IsStretchOf 0 front rest used (Ok (Some x)) stretch → 0 < used → used ≤ length rest → heard ≡ length front + used
      → IsLocatedIn log.judging.holds log.judging.reads log.limit (front ++ take used rest) answers (record { before = (heard - 1) - stretch; through = heard; answer = x })
  located_at answers x stretch heard g (a, says, push) st some fits e =
      let all = front ++ take (used - 1) rest in
      let byte = get_or rest (used - 1) 0 in
      let one : (used - 1) + 1 ≡ used = omega (arith, some) in
      let cut : take used rest ≡ take (used - 1) rest ++ byte ∷ [] = subst (λ n. take n rest ≡ take (used - 1) rest ++ byte ∷ []) one (take_more rest (used - 1) 0 (omega (arith, some, fits))) in
      let bytes : front ++ take used rest ≡ all ++ byte ∷ [] = ap (λ z. front ++ z) cut ∙ sym (append_assoc front (take (used - 1) rest) (byte ∷ [])) in
      let long : length all ≡ length front + (used - 1) = length-append front (take (used - 1) rest) ∙ ap (λ n. length front + n) (length-take (used - 1) rest ∙ omega (arith, fits)) in
      record {
        front = all;
        byte = byte;
        rest = [];
        bytes_are = bytes ∙ sym (append-nil (all ++ byte ∷ []));
        not_yet = record { verdicts = g.verdicts; given = push.least.same g.verdicts g.given (used - 1) (omega (arith, some)); matching = g.matching };
        now = subst (λ z. HasGiven log.judging.holds log.judging.reads log.limit 0 (answers ++ x ∷ []) z) bytes (kept_given log.judging.holds log.judging.reads log.limit 0 front rest answers (answers ++ x ∷ []) used (Ok (Some x)) g (a, says, push) refl);
        before_is = omega (arith, st, long, e, some);
        through_is = omega (arith, long, e, some);
      }

  pub read_answer : (answers : List (Answer (ℕ × V))) (c : Numbering) (x : Answer (ℕ × V)) (stretch heard : ℕ) → IsReadTo log answers c front
      → Answered log.judging.holds log.judging.reads log.limit 0 front rest used (Ok (Some x)) → IsStretchOf 0 front rest used (Ok (Some x)) stretch → 0 < used → used ≤ length rest → heard ≡ length front + used
      → IsReadTo log (answers ++ believed c ((heard - 1) - stretch) x ∷ []) (numbered_behind c heard (believed c ((heard - 1) - stretch) x)) (front ++ take used rest)
  read_answer answers c x stretch heard g h st some fits e =
      let before = (heard - 1) - stretch in
      let p : Located V = record { before = before; through = heard; answer = x } in
      let start = numbered_from log.first in
      let long : length (front ++ take used rest) ≡ heard = length-append front (take used rest) ∙ ap (λ n. length front + n) (length-take used rest ∙ omega (arith, fits)) ∙ sym e in
      let to : (numbered_behind c heard (believed c before x)).through ≤ heard = moves_to c heard (believed c before x) (omega (arith, g.so_far, e)) in
      record {
        located = g.located ++ p ∷ [];
        given = subst (λ z. HasGiven log.judging.holds log.judging.reads log.limit 0 z (front ++ take used rest)) (sym (answers_more g.located p)) (kept_given log.judging.holds log.judging.reads log.limit 0 front rest (answers_in g.located) (answers_in g.located ++ x ∷ []) used (Ok (Some x)) g.given h refl);
        places =
            located_more log.judging.holds log.judging.reads log.limit (front ++ take used rest) [] g.located p (located_longer log.judging.holds log.judging.reads log.limit front (take used rest) [] g.located g.places)
            (located_at (answers_in g.located) x stretch heard g.given h st some fits e);
        handed_on = ap (λ z. z ++ believed c before x ∷ []) g.handed_on ∙ ap (λ n. all_believed start g.located ++ believed n before x ∷ []) g.numbers ∙ sym (believed_more start g.located p);
        numbers = ap (λ n. numbered_behind n heard (believed n before x)) g.numbers ∙ sym (numbered_more start g.located p);
        within = moves_within c log.first before heard x g.within (omega (arith, g.so_far, e, some)) (omega (arith, e, some));
        so_far = omega (arith, to, long);
      }

  -- either, and its answer was handed on
  pub read_on : {S : Type 0} {took : S → List (Answer (ℕ × V)) → S → Type 0} (halts : S → Type 0) → VisitorLaws took → (answers more : List (Answer (ℕ × V))) (c later : Numbering) (stretch heard : ℕ) (r : Result (Option (Answer (ℕ × V))) NoMemory) (old mid new : S)
      → took old more mid → IsReadTo log (answers ++ more) c front
      → Answered log.judging.holds log.judging.reads log.limit 0 front rest used r → IsStretchOf 0 front rest used r stretch → 0 < used → used ≤ length rest → heard ≡ length front + used
      → HandsOnBelieved (visited took halts mid new) r ((heard - 1) - stretch) heard c later
      → (also : List (Answer (ℕ × V))) × took old also new × IsReadTo log (answers ++ also) later (front ++ take used rest)
  read_on {took} halts laws answers more c later stretch heard (Ok None) old mid new before g h st some fits e k = (
    more ++ [],
    laws.more old mid new more [] before k.0,
    subst (λ z. IsReadTo log (answers ++ z) later (front ++ take used rest)) (sym (append-nil more))
        (subst (λ n. IsReadTo log (answers ++ more) n (front ++ take used rest)) (sym k.1) (read_quiet (answers ++ more) c g h)),
  )
  read_on {took} halts laws answers more c later stretch heard (Ok (Some x)) old mid new before g h st some fits e k = (
    more ++ believed c ((heard - 1) - stretch) x ∷ [],
    laws.more old mid new more (believed c ((heard - 1) - stretch) x ∷ []) before k.0,
    subst (λ z. IsReadTo log z later (front ++ take used rest)) (append_assoc answers more (believed c ((heard - 1) - stretch) x ∷ []))
        (subst (λ n. IsReadTo log ((answers ++ more) ++ believed c ((heard - 1) - stretch) x ∷ []) n (front ++ take used rest)) (sym k.1) (read_answer (answers ++ more) c x stretch heard g h st some fits e)),
  )
  read_on halts laws answers more c later stretch heard (Err x) old mid new before g h st some fits e k = absurd k

module _ {S V : Type 0} {N : ℕ} {took : S → List (Answer (ℕ × V)) → S → Type 0} (halts : S → Type 0) (laws : VisitorLaws took) (log : LogReading V) where
  -- nothing was heard yet
  pub heard_none : (visitor : S) (receiver : Reception (ArrayBuffer N)) (answers : List (Answer (ℕ × V))) (count : Count) (stream : List ℕ)
      → HearsLog log receiver answers count stream → HearsMore log (visited took halts visitor visitor) receiver answers count (stream ++ [])
  heard_none visitor receiver answers count stream h = record {
    more = [];
    handed = laws.nothing visitor;
    hears = subst (λ z. HearsLog log receiver z count (stream ++ [])) (sym (append-nil answers)) (subst (λ z. HearsLog log receiver answers count z) (sym (append-nil stream)) h);
  }

  -- at the start of a log
  pub heard_first : (visitor : S) (receiver : Reception (ArrayBuffer N))
      → IsBehind in_array N 0 receiver [] → HearsMore log (visited took halts visitor visitor) receiver [] (record { next = log.first; through = 0; heard = 0 }) []
  heard_first visitor receiver h = record {
    more = [];
    handed = laws.nothing visitor;
    hears = record {
      after = h;
      read = record { located = []; given = record { verdicts = []; given = search rules; matching = tt }; places = tt; handed_on = refl; numbers = refl; within = omega arith; so_far = omega arith };
      heard = refl;
    };
  }

  -- more was heard behind what was
  pub then_more : (old mid new : S) (receiver : Reception (ArrayBuffer N)) (answers before : List (Answer (ℕ × V))) (count : Count) (stream : List ℕ)
      → took old before mid → HearsMore log (visited took halts mid new) receiver (answers ++ before) count stream → HearsMore log (visited took halts old new) receiver answers count stream
  then_more old mid new receiver answers before count stream b h = record {
    more = before ++ h.more;
    handed = laws.more old mid new before h.more b h.handed;
    hears = subst (λ z. HearsLog log receiver z count stream) (append_assoc answers before h.more) h.hears;
  }

-- n bytes more were read
more_read : (bytes room : List ℕ) (at n : ℕ) → n ≤ length room → drop at bytes ≡ take n room ++ drop (at + n) bytes → take (at + n) bytes ≡ take at bytes ++ take n room
more_read bytes room at n l e =
    let long : length (take n room) ≡ n = length-take n room ∙ omega arith in
    take-add at n bytes ∙ ap (λ x. take at bytes ++ x) (ap (take n) e ∙ take-append-le n (take n room) (drop (at + n) bytes) (omega (arith, long)) ∙ take_all n (take n room) (omega (arith, long)))

-- what is said of the bytes so far
pub reads_on : (held : Option (List ℕ)) (room : List ℕ) (at n : ℕ) (P Q : List ℕ → Type 0) → n ≤ length room → GaveAt held at n room → IfSome held (λ bytes. P (take at bytes))
    → ((stream : List ℕ) → P stream → Q (stream ++ take n room)) → IfSome held (λ bytes. Q (take (at + n) bytes))
reads_on None room at n P Q l g h f = tt
reads_on (Some bytes) room at n P Q l g h f = subst Q (sym (more_read bytes room at n l g)) (f (take at bytes) h)

-- and at the end of all
pub reads_all : (held : Option (List ℕ)) (at : ℕ) (P Q : List ℕ → Type 0) → EndsBefore held at → IfSome held (λ bytes. P (take at bytes)) → ((stream : List ℕ) → P stream → Q stream) → IfSome held Q
reads_all None at P Q e h f = tt
reads_all (Some bytes) at P Q e h f = subst Q (take_all at bytes e) (f (take at bytes) h)

-- at the start
pub reads_none : (held : Option (List ℕ)) (P : List ℕ → Type 0) → P [] → IfSome held (λ bytes. P (take 0 bytes))
reads_none None P h = tt
reads_none (Some bytes) P h = h

-- the calls that gave these bytes, and one that failed
pub calls_failed : (old mid new : LineState) (at : ℕ) → old.calls_left ≤ mid.calls_left + at → mid.calls_left ≤ old.calls_left → at ≤ 1024 * (old.calls_left - mid.calls_left)
    → new.calls_left ≡ mid.calls_left - 1 → ReadByCalls old new 1 at
calls_failed old mid new at few down most one = record { fewest = omega (arith, few, one); most = omega (arith, most, down, one) }

-- the same, and one that gave some bytes more, of which not all were read on
pub calls_partly : (old mid new : LineState) (at n : ℕ) → old.calls_left ≤ mid.calls_left + at → mid.calls_left ≤ old.calls_left → at ≤ 1024 * (old.calls_left - mid.calls_left)
    → new.calls_left ≡ mid.calls_left - 1 → new.calls_left < mid.calls_left → n ≤ 1024 → (count : ℕ) → at ≤ count → count < at + n → ReadByCalls old new 1 count
calls_partly old mid new at n few down most one some fits count from to = record { fewest = omega (arith, few, one, from); most = omega (arith, most, down, one, some, fits, to) }

-- what is said at a fault, of the bytes so far
pub handed_to : {S V : Type 0} {N : ℕ} (log : LogReading V) (visit : Visited S V) (receiver : Reception (ArrayBuffer N)) (count : Count) (calls : ℕ → Type 0) (held : Option (List ℕ))
    → calls count.heard → IfSome held (λ bytes. HearsMore log visit receiver [] count (take count.heard bytes)) → IfSome held (λ bytes. IsHandedTo log visit calls Fault bytes)
handed_to log visit receiver count calls None by h = tt
handed_to log visit receiver count calls (Some bytes) by h = record {
  count = count.heard;
  within = (let long = h.hears.heard in let part = length-take count.heard bytes in omega (arith, long, part));
  by = by;
  answers = h.more;
  handed = h.handed;
  numbers = numbering_of count;
  read = h.hears.read;
  stops = tt;
}

-- how many calls were used, by the bytes that were heard
pub few_calls : {S V : Type 0} {N : ℕ} (log : LogReading V) (visit : Visited S V) (receiver : Reception (ArrayBuffer N)) (count : Count) (held : Option (List ℕ)) (all left : ℕ)
    → IfSome held (λ bytes. HearsMore log visit receiver [] count (take count.heard bytes)) → all ≤ left + (count.heard + 1) → IfSome held (λ bytes. all ≤ left + (length bytes + 1))
few_calls log visit receiver count None all left h l = tt
few_calls log visit receiver count (Some bytes) all left h l = (let long = h.hears.heard in let part = length-take count.heard bytes in omega (arith, long, part, l))

-- a fact of an error that is passed on
pub if_passed : {T E : Type 0} (r : Result T E) (e : E) (P : E → Type 0) → IsErrAnd r (λ y. y ≡ e) → P e → IfErr r P
if_passed r e P h p = let a = err_from_is_err_and r h in rw a.1 (subst P (sym a.2) p)

-- the cause of what was read as that of the whole
pub cause_on : (e : ReadError) (failed : Type 0) (growing : Bool) (halts later : Type 0) → (halts → later) → ReadCause ⊥ growing halts e → ReadCause failed growing later e
cause_on Fault failed growing halts later f h = absurd h
cause_on NoMemoryFound failed growing halts later f h = h
cause_on Halted failed growing halts later f h = f h

-- the answers that a push handed on, behind others
pub handed_more : {S V : Type 0} {took : S → List (Answer (ℕ × V)) → S → Type 0} (halts : S → Type 0) → VisitorLaws took → (r : Result (Option (Answer (ℕ × V))) NoMemory) (before through : ℕ) (old mid new : S) (c later : Numbering) (more : List (Answer (ℕ × V)))
    → took old more mid → HandsOnBelieved (visited took halts mid new) r before through c later → (answers : List (Answer (ℕ × V))) × took old answers new
handed_more halts laws (Ok None) before through old mid new c later more t h = (more ++ [], laws.more old mid new more [] t h.0)
handed_more halts laws (Ok (Some a)) before through old mid new c later more t h = (more ++ believed c before a ∷ [], laws.more old mid new more (believed c before a ∷ []) t h.0)
handed_more halts laws (Err e) before through old mid new c later more t h = absurd h

module _ {S : Type 0} (P Q halts : S → Type 0) where
  -- what is known of the visitor before is known of it when reading stopped
  pub so_far_here : (mid new : S) (e : ReadError) → HandedUntil (λ v. v ≡ mid) halts new e → P mid → HandedUntil P halts new e
  so_far_here mid new Fault h p = subst P (sym h) p
  so_far_here mid new NoMemoryFound h p = subst P (sym h) p
  so_far_here mid new Halted (v, h, stops) p = (v, subst P (sym h) p, stops)

  -- and what follows from that
  so_far_map : (new : S) (e : ReadError) → ((v : S) → P v → Q v) → HandedUntil P halts new e → HandedUntil Q halts new e
  so_far_map new Fault f h = f new h
  so_far_map new NoMemoryFound f h = f new h
  so_far_map new Halted f (v, h, stops) = (v, f v h, stops)

-- a log by what was read before, a part of a chunk, and the rest
parts_of : (bytes before after piece done rest more : List ℕ) (used : ℕ) → before ++ after ≡ bytes → after ≡ piece ++ more → piece ≡ done ++ rest
    → bytes ≡ ((before ++ done) ++ take used rest) ++ (drop used rest ++ more)
parts_of bytes before after piece done rest more used p q r =
    let cut = take used rest in
    let left = drop used rest in
    let split : after ≡ (done ++ cut) ++ (left ++ more) = q ∙ ap (λ x. x ++ more) (parts_on piece done rest used r) ∙ append_assoc (done ++ cut) left more in
    sym p ∙ ap (λ x. before ++ x) split ∙ sym (append_assoc before (done ++ cut) (left ++ more)) ∙ ap (λ x. x ++ (left ++ more)) (sym (append_assoc before done cut))

-- the first of two parts
first_part : (bytes front rest : List ℕ) → bytes ≡ front ++ rest → take (length front) bytes ≡ front
first_part bytes front rest e = ap (take (length front)) e ∙ take-append-le (length front) front rest (omega arith) ∙ take_all (length front) front (omega arith)

-- why no more of a log was read on than what comes before the last byte of a push
stops_before : {V : Type 0} (judging : Judging (ℕ × V)) (limit : ℕ) (front rest : List ℕ) (used : ℕ) (answers : List (Answer (ℕ × V))) (stretch : ℕ) (r : Result (Option (Answer (ℕ × V))) NoMemory) (e : ReadError) (behind bytes : List ℕ)
    → HasGiven judging.holds judging.reads limit 0 answers front → Answered judging.holds judging.reads limit 0 front rest used r → IsStretchOf 0 front rest used r stretch → 0 < used → used ≤ length rest
    → StoppedAt e r → bytes ≡ (front ++ take used rest) ++ behind → StopsBefore judging limit answers (length front + (used - 1)) bytes e
stops_before judging limit front rest used answers stretch (Err x) NoMemoryFound behind bytes g l st some fits s all =
    let size : length l.front ≡ used - 1 = (let whole = ap length l.bytes ∙ length-append l.front (0 ∷ []) in let part = length-take used rest in omega (arith, whole, part, fits)) in
    record {
      front = front ++ l.front;
      rest = behind;
      bytes_are = all ∙ ap (λ x. (front ++ x) ++ behind) l.bytes ∙ ap (λ x. x ++ behind) (sym (append_assoc front l.front (0 ∷ []))) ∙ append_assoc (front ++ l.front) (0 ∷ []) behind;
      count_is = sym (length-append front l.front ∙ ap (λ n. length front + n) size);
      stretch = l.stretch;
      message = l.message;
      begun = l.begun;
      frame = l.frame;
    }
stops_before {V} judging limit front rest used answers stretch (Ok (Some a)) Halted behind bytes g h st some fits s all =
    let heard = length front + used in
    let p : Located V = record { before = (heard - 1) - stretch; through = heard; answer = a } in
    let here = located_at (log_reading judging limit 0) front rest used answers a stretch heard g h st some fits refl in
    record {
      next = p;
      located = subst (λ z. IsLocatedIn judging.holds judging.reads limit z answers p) (sym all) (one_longer judging.holds judging.reads limit (front ++ take used rest) behind answers p here);
      one_more = omega (arith, some);
    }
stops_before judging limit front rest used answers stretch r Fault behind bytes g h st some fits s all = absurd s
stops_before judging limit front rest used answers stretch (Ok o) NoMemoryFound behind bytes g h st some fits s all = absurd s
stops_before judging limit front rest used answers stretch (Ok None) Halted behind bytes g h st some fits s all = absurd s
stops_before judging limit front rest used answers stretch (Err x) Halted behind bytes g h st some fits s all = absurd s

module _ {S V : Type 0} {took : S → List (Answer (ℕ × V)) → S → Type 0} (laws : VisitorLaws took) (halts : S → Type 0) (log : LogReading V) (old mid new : S) (e : ReadError) (calls : ℕ → Type 0) where
  -- what was handed on of a chunk, behind what was before it
  handed_part : (bytes room : List ℕ) (at n : ℕ) (before : List (Answer (ℕ × V))) → drop at bytes ≡ take n room ++ drop (at + n) bytes → at ≡ length (take at bytes) → took old before mid
      → ((count : ℕ) → at ≤ count → count < at + n → calls count)
      → HearsPart log (visited took halts mid new) before (take at bytes) (take n room) e → IsHandedTo log (visited took halts old new) calls e bytes
  unfolding read_as read_before
  handed_part bytes room at n before cut long b by p =
      let front = take at bytes ++ p.done in
      let more = drop (at + n) bytes in
      let u = p.used - 1 in
      let count = length front + u in
      let parts : (used : ℕ) → bytes ≡ (front ++ take used p.rest) ++ (drop used p.rest ++ more) = λ used. parts_of bytes (take at bytes) (drop at bytes) (take n room) p.done p.rest more used (take-append-drop at bytes) cut p.piece_is in
      let size : length (front ++ take u p.rest) ≡ count = length-append front (take u p.rest) ∙ ap (λ m. length front + m) (length-take u p.rest ∙ (let fits = p.within in omega (arith, fits))) in
      let here : front ++ take u p.rest ≡ take count bytes = sym (ap (λ m. take m bytes) (sym size) ∙ first_part bytes (front ++ take u p.rest) (drop u p.rest ++ more) (parts u)) in
      let least = least_of log front p.rest p.used p.result p.answered in
      let read = read_before log front p.rest p.used (before ++ p.more) (numbering_of p.count) u p.hears.read least (let some = p.some in omega (arith, some)) in
      let long_front : length front ≡ at + length p.done = length-append (take at bytes) p.done ∙ ap (λ m. m + length p.done) (sym long) in
      let long_piece : length p.done + length p.rest ≤ n = (let both = ap length p.piece_is ∙ length-append p.done p.rest in let part = length-take n room in omega (arith, both, part)) in
      record {
        count = count;
        within = (let all = ap length (parts u) ∙ length-append (front ++ take u p.rest) (drop u p.rest ++ more) in omega (arith, all, size));
        by = by count (omega (arith, long_front)) (let fits = p.within in let some = p.some in omega (arith, long_front, long_piece, fits, some));
        answers = before ++ p.more;
        handed = so_far_map (took mid p.more) (took old (before ++ p.more)) halts new e (λ v h. laws.more old mid v before p.more b h) p.handed;
        numbers = numbering_of p.count;
        read = read_as log (before ++ p.more) (numbering_of p.count) (front ++ take u p.rest) (take count bytes) here read;
        stops = stops_before log.judging log.limit front p.rest p.used (answers_in p.hears.read.located) p.stretch p.result e (drop p.used p.rest ++ more) bytes p.hears.read.given p.answered p.stretch_is p.some p.within p.stopped (parts p.used);
      }

  -- what was handed on when a chunk wasn't read to its end
  pub so_far_read : (receiver : Reception (ArrayBuffer log.limit)) (count : Count) (held : Option (List ℕ)) (room : List ℕ) (n : ℕ)
      → GaveAt held count.heard n room → IfSome held (λ bytes. HearsMore log (visited took halts old mid) receiver [] count (take count.heard bytes))
      → ((c : ℕ) → count.heard ≤ c → c < count.heard + n → calls c)
      → ((stream : List ℕ) (answers : List (Answer (ℕ × V))) → HearsLog log receiver answers count stream → HearsPart log (visited took halts mid new) answers stream (take n room) e)
      → IfSome held (λ bytes. IsHandedTo log (visited took halts old new) calls e bytes)
  so_far_read receiver count None room n g h by f = tt
  so_far_read receiver count (Some bytes) room n g h by f = handed_part bytes room count.heard n h.more g h.hears.heard h.handed by (f (take count.heard bytes) h.more h.hears)

-- what was handed on of a store that holds the same, by calls of which more is known
pub handed_by : {S V : Type 0} (log : LogReading V) (visit : Visited S V) (e : ReadError) (calls more : ℕ → Type 0) (held later : Option (List ℕ))
    → later ≡ held → ((n : ℕ) → calls n → more n) → IfSome held (λ bytes. IsHandedTo log visit calls e bytes) → IfSome later (λ bytes. IsHandedTo log visit more e bytes)
handed_by log visit e calls more None later same f h = rw same tt
handed_by log visit e calls more (Some bytes) later same f h =
    rw same (record { count = h.count; within = h.within; by = f h.count h.by; answers = h.answers; handed = h.handed; numbers = h.numbers; read = h.read; stops = h.stops })

-- the calls of reads, and few before them
pub calls_before : (old mid new : LineState) (few count : ℕ) → old.calls_left ≤ mid.calls_left + few → mid.calls_left ≤ old.calls_left → ReadByCalls mid new 1 count → ReadByCalls old new (few + 1) count
calls_before old mid new few count more down h = record { fewest = (let l = h.fewest in omega (arith, l, more)); most = (let l = h.most in omega (arith, l, down)) }
