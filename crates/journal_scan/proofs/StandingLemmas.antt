-- What each step of a scan makes of where it stands.
use Rattle.std.proofs.Common.{◌≡◌, ℕ, ◌+◌, ◌-◌, ◌<◌, ◌≤◌, nat_lt, Bool, true, false, List, [], ◌∷◌, ◌++◌, length, take, drop, Option, Some, None, Result, Ok, Err, refl, sym, ap, ◌∙◌, subst, inl, inr, append_assoc, arith}
use Rattle.std.specs.Prelude.{if◌then◌else◌}
use Rattle.std.proofs.lemmas.Bool.{ltb-true, ltb-false, lt-ltb}
use Rattle.std.proofs.lemmas.List.{append-nil, length-append, length-take, take-append-le, drop-append-le, take-append-drop, length-drop, drop-drop, drop_all, nil_from_length}
use Rattle.std.proofs.Math.Seq.{take-add}
use Rattle.cobs.specs.Frames.{NoZero, Frame}
use Rattle.link.specs.declared.decoding.OwnedBuffer.{OwnedBuffer}
use Rattle.postcard_tree.specs.Tree.{Tree}
use Rattle.postcard_tree.specs.ReadingLaws.{WireForm}
use Rattle.link.specs.Stream.{Verdict, value, too_long, Begun, kept, over, begun, ended, unfinished, IsAnswer, HoldsExactly}
use Rattle.link.specs.Laws.{EndsBetween}
use Rattle.link.specs.Lemmas.Pieces.{none_unfinished, ended_skip}
use Rattle.link.specs.Lemmas.RoadLaws.{no_ended}
use Rattle.link.specs.Pushes.{IsPush, IsLost, Matches, Answered}
use Rattle.link.specs.Decoding.{in_owner}
use Rattle.link.specs.Receivers.{IsBehind, IsAt}
use Rattle.link.specs.declared.reception.Reception.{Reception}
use Rattle.link.specs.declared.receiver.Answer.{Answer}
use Rattle.link.specs.declared.receiver.Answer.TheVariants.{Value, Damaged, TooLong, Cut}
use Rattle.link.specs.declared.receiver.NoMemory.{NoMemory}
use Rattle.journal.specs.Records.{takes_record, reads_record}
use Rattle.journal_scan.specs.declared.scanning.Stretch.{Stretch}
use Rattle.journal_scan.specs.Stretches.{is_past, ended_stretch}
use Rattle.journal_scan.specs.Scanning.{ScanStands, IsNextStretch, IsLostStretch, IsLostLast, Found, FoundLast, with_zero}
use Rattle.journal_scan.proofs.WalkingLemmas.{lt_zero, no_zero_more, alone_unfinished, zero_ended, zero_unfinished, behind_of, first_of, last_of, but_last, spelled_some, push_quiet, push_lost, push_answer}

-- what is begun depends on the unfinished stretch alone
abbrev begun_by : ℕ → List ℕ → Begun
begun_by limit u = if nat_lt limit (length u) then over else kept u

same_behind : (limit : ℕ) (r : Reception OwnedBuffer) (x y : List ℕ) → begun limit 0 x ≡ begun limit 0 y → IsBehind in_owner limit 0 r x → IsBehind in_owner limit 0 r y
same_behind limit r x y e h = subst (IsAt in_owner limit 0 r) e h

none_begun : (limit : ℕ) (x : List ℕ) → kept [] ≡ begun_by limit x → x ≡ []
none_begun limit x e = go (nat_lt limit (length x)) e
  where
    go : (b : Bool) → kept [] ≡ (if b then over else kept x) → x ≡ []
    go false e = cc
    go true e = cc

kept_same : (limit : ℕ) (p x : List ℕ) → nat_lt limit (length x) ≡ false → kept p ≡ begun_by limit x → p ≡ x
kept_same limit p x f e = go (nat_lt limit (length x)) f e
  where
    go : (b : Bool) → b ≡ false → kept p ≡ (if b then over else kept x) → p ≡ x
    go false f e = cc
    go true f e = cc

-- so many of the bytes that were read were gone over
pub record Moved (at used : ℕ) (unread rest bytes : List ℕ) : Type 0 where
  pub taken : take (at + used) bytes ≡ take at bytes ++ take used unread
  pub inside : at + used ≤ length bytes
  pub left : drop (at + used) bytes ≡ drop used unread ++ rest

pub moved : (at used : ℕ) (unread rest bytes : List ℕ) → at ≤ length bytes → drop at bytes ≡ unread ++ rest → used ≤ length unread → Moved at used unread rest bytes
moved at used unread rest bytes within e l = record {
  taken = take-add at used bytes ∙ ap (λ x. take at bytes ++ x) (ap (take used) e ∙ take-append-le used unread rest l);
  inside = omega (arith, within, l, sym (length-drop at bytes) ∙ ap length e ∙ length-append unread rest);
  left = sym (drop-drop used at bytes) ∙ ap (drop used) e ∙ drop-append-le used unread rest l;
}

-- a new one
pub stands_new : (limit at : ℕ) (r : Reception OwnedBuffer) (bytes : List ℕ) → at ≤ length bytes → EndsBetween 0 (take at bytes) → IsBehind in_owner limit 0 r [] → ScanStands limit r at at false [] bytes
stands_new limit at r bytes l e h =
    let none : unfinished 0 (take at bytes) ≡ [] = none_unfinished 0 (take at bytes) e in
    record {
      within = l;
      rest = drop at bytes;
      unread_is = refl;
      from_is = omega (arith, ap length none);
      behind = same_behind limit r [] (take at bytes) (ap (begun_by limit) (sym none)) h;
      past_is = sym (ap (λ u. nat_lt limit (length u)) none ∙ lt_zero limit);
    }

-- one that read other bytes from where it is
pub stands_read : {limit at from : ℕ} {r : Reception OwnedBuffer} {past : Bool} {unread bytes : List ℕ} (now rest : List ℕ) → ScanStands limit r at from past unread bytes → drop at bytes ≡ now ++ rest → ScanStands limit r at from past now bytes
stands_read now rest s e = record { within = s.within; rest = rest; unread_is = e; from_is = s.from_is; behind = s.behind; past_is = s.past_is }

-- where the unfinished stretch begins behind what was found
abbrev pub next_begin : {V : Type 0} → ℕ → ℕ → Option (Stretch V) → ℕ
next_begin from at None = from
next_begin from at (Some s) = at

-- what a push of the bytes that were read says, which leaves these of them
abbrev pub StandsPushed : {V : Type 0} → WireForm V → ℕ → ℕ → ℕ → ℕ → Reception OwnedBuffer → List ℕ → List ℕ → Result (Option (Answer (ℕ × V))) NoMemory → Type 0
StandsPushed form limit at from used now left bytes (Ok o) =
    ScanStands limit now (at + used) (next_begin from (at + used) (ended_stretch from (at + (used - 1)) o)) (is_past o) left bytes
    × Found form limit bytes at (at + used) (ended_stretch from (at + (used - 1)) o)
StandsPushed form limit at from used now left bytes (Err e) = ScanStands limit now (at + used) (at + used) false left bytes × IsLostStretch limit bytes at (at + used)

module _ {limit at from : ℕ} {r : Reception OwnedBuffer} {past : Bool} {unread bytes : List ℕ} (s : ScanStands limit r at from past unread bytes) where
  abbrev stream : List ℕ
  stream = take at bytes

  abbrev u : List ℕ
  u = unfinished 0 (take at bytes)

  -- the place of a stretch that a zero ends
  pub found : {V : Type 0} (form : WireForm V) (later : List ℕ) (used : ℕ) (answer : Answer (ℕ × V)) (v : Verdict) → Matches (reads_record form.reads) answer v → 0 < used → used ≤ length unread → take used unread ≡ later ++ 0 ∷ []
      → NoZero (u ++ later) → 0 < length (u ++ later) → IsAnswer (HoldsExactly (takes_record form.takes)) limit (u ++ later) v → IsNextStretch form limit bytes at (at + used) (record { from = from; to = at + (used - 1); answer = answer })
  found form later used answer v says some l are z more is =
      let m = moved at used unread s.rest bytes s.within s.unread_is l in
      let k = behind_of stream (take used unread) in
      let all : u ++ take used unread ≡ (u ++ later) ++ 0 ∷ [] = ap (λ x. u ++ x) are ∙ sym (append_assoc u later (0 ∷ [])) in
      let size : length later + 1 ≡ used = sym (length-append later (0 ∷ [])) ∙ ap length (sym are) ∙ length-take used unread ∙ omega (arith, l) in
      let lengths : at ≡ length k.front + length u = sym (length-take at bytes ∙ omega (arith, s.within)) ∙ ap length k.whole ∙ length-append k.front u in
      record {
        stretch = u ++ later;
        is = record {
          front = k.front;
          rest = drop (at + used) bytes;
          bytes_are = sym (take-append-drop (at + used) bytes) ∙ ap (λ x. x ++ drop (at + used) bytes) (m.taken ∙ ap (λ x. x ++ take used unread) k.whole ∙ append_assoc k.front u (take used unread) ∙ ap (λ x. k.front ++ x) all)
              ∙ append_assoc k.front ((u ++ later) ++ 0 ∷ []) (drop (at + used) bytes) ∙ ap (λ x. k.front ++ x) (append_assoc (u ++ later) (0 ∷ []) (drop (at + used) bytes));
          from_is = omega (arith, lengths, s.from_is);
          to_is = omega (arith, s.from_is, size, length-append u later);
          between = k.between;
          nonzero = z;
          some = more;
          verdict = v;
          says = says;
          is = is;
        };
        behind = omega (arith, some);
        next = ap (ended 0) m.taken ∙ k.more_ended ∙ ap (λ x. ended 0 stream ++ x) (ap (ended 0) all ∙ zero_ended (u ++ later) z more);
      }

  -- the place of a stretch whose value was lost
  lost_here : (later message : List ℕ) (used : ℕ) → used ≤ length unread → take used unread ≡ later ++ 0 ∷ [] → NoZero (u ++ later) → Frame (u ++ later) message → length (u ++ later) ≤ limit → IsLostStretch limit bytes at (at + used)
  lost_here later message used l are z f fits =
      let m = moved at used unread s.rest bytes s.within s.unread_is l in
      let k = behind_of stream (take used unread) in
      let all : u ++ take used unread ≡ (u ++ later) ++ 0 ∷ [] = ap (λ x. u ++ x) are ∙ sym (append_assoc u later (0 ∷ [])) in
      let more : 0 < length (u ++ later) = omega (arith, ap length f.spells, spelled_some f.first f.others) in
      record {
        stretch = u ++ later;
        front = k.front;
        between = k.between;
        bytes_are = m.taken ∙ ap (λ x. x ++ take used unread) k.whole ∙ append_assoc k.front u (take used unread) ∙ ap (λ x. k.front ++ x) all;
        message = message;
        frame = f;
        fits = fits;
        next = ap (ended 0) m.taken ∙ k.more_ended ∙ ap (λ x. ended 0 stream ++ x) (ap (ended 0) all ∙ zero_ended (u ++ later) z more);
      }

  -- no stretch is unfinished then
  pub stands_between : (used : ℕ) (now : Reception OwnedBuffer) → used ≤ length unread → unfinished 0 (u ++ take used unread) ≡ []
      → (begun limit 0 (take (at + used) bytes) ≡ kept [] → IsBehind in_owner limit 0 now (take (at + used) bytes)) → ScanStands limit now (at + used) (at + used) false (drop used unread) bytes
  stands_between used now l e h =
      let m = moved at used unread s.rest bytes s.within s.unread_is l in
      let k = behind_of stream (take used unread) in
      let none : unfinished 0 (take (at + used) bytes) ≡ [] = ap (unfinished 0) m.taken ∙ k.more_unfinished ∙ e in
      record {
        within = m.inside;
        rest = s.rest;
        unread_is = m.left;
        from_is = omega (arith, ap length none);
        behind = h (ap (begun_by limit) none ∙ ap (λ b. if b then over else kept []) (lt_zero limit));
        past_is = sym (ap (λ x. nat_lt limit (length x)) none ∙ lt_zero limit);
      }

  -- behind a zero that ends a stretch
  pub stands_found : (later : List ℕ) (used : ℕ) (now : Reception OwnedBuffer) → used ≤ length unread → take used unread ≡ later ++ 0 ∷ [] → NoZero (u ++ later)
      → (begun limit 0 (take (at + used) bytes) ≡ kept [] → IsBehind in_owner limit 0 now (take (at + used) bytes)) → ScanStands limit now (at + used) (at + used) false (drop used unread) bytes
  stands_found later used now l are z h =
      stands_between used now l (ap (unfinished 0) (ap (λ x. u ++ x) are ∙ sym (append_assoc u later (0 ∷ []))) ∙ zero_unfinished (u ++ later) z) h

  -- more bytes of a stretch that goes on
  pub stands_on : (used : ℕ) (now : Reception OwnedBuffer) (later : Bool) → used ≤ length unread → NoZero (u ++ take used unread) → nat_lt limit (length (u ++ take used unread)) ≡ later
      → IsBehind in_owner limit 0 now (take (at + used) bytes) → ScanStands limit now (at + used) from later (drop used unread) bytes × (ended 0 (take (at + used) bytes) ≡ ended 0 (take at bytes))
  stands_on used now later l z past_now h =
      let m = moved at used unread s.rest bytes s.within s.unread_is l in
      let k = behind_of stream (take used unread) in
      let w = u ++ take used unread in
      let same : unfinished 0 (take (at + used) bytes) ≡ w = ap (unfinished 0) m.taken ∙ k.more_unfinished ∙ alone_unfinished w z in
      let size : length (take used unread) ≡ used = length-take used unread ∙ omega (arith, l) in (
        record {
          within = m.inside;
          rest = s.rest;
          unread_is = m.left;
          from_is = omega (arith, ap length same, length-append u (take used unread), size, s.from_is);
          behind = h;
          past_is = sym (ap (λ x. nat_lt limit (length x)) same ∙ past_now);
        },
        ap (ended 0) m.taken ∙ k.more_ended ∙ ap (λ x. ended 0 stream ++ x) (no_ended w z) ∙ append-nil (ended 0 stream),
      )

  -- a zero before a stretch
  pub stands_zero : (later : List ℕ) → from ≡ at → unread ≡ 0 ∷ later → ScanStands limit r (at + 1) (at + 1) past later bytes × (ended 0 (take (at + 1) bytes) ≡ ended 0 (take at bytes))
  stands_zero later e z =
      let m = moved at 1 unread s.rest bytes s.within s.unread_is (omega (arith, ap length z)) in
      let k = behind_of stream (take 1 unread) in
      let none : u ≡ [] = nil_from_length u (omega (arith, e, s.from_is)) in
      let all : u ++ take 1 unread ≡ 0 ∷ [] = ap (λ x. x ++ take 1 unread) none ∙ ap (take 1) z in
      let none_now : unfinished 0 (take (at + 1) bytes) ≡ [] = ap (unfinished 0) m.taken ∙ k.more_unfinished ∙ ap (unfinished 0) all ∙ zero_unfinished [] tt in (
        record {
          within = m.inside;
          rest = s.rest;
          unread_is = m.left ∙ ap (λ x. drop 1 x ++ s.rest) z;
          from_is = omega (arith, ap length none_now);
          behind = same_behind limit r (take at bytes) (take (at + 1) bytes) (ap (begun_by limit) (none ∙ sym none_now)) s.behind;
          past_is = s.past_is ∙ ap (λ x. nat_lt limit (length x)) (none ∙ sym none_now);
        },
        ap (ended 0) m.taken ∙ k.more_ended ∙ ap (λ x. ended 0 stream ++ x) (ap (ended 0) all ∙ ended_skip 0 []) ∙ append-nil (ended 0 stream),
      )

  nonzero : NoZero u
  nonzero = (behind_of stream []).nonzero

  -- the receiver stands behind the unfinished stretch alone, too
  own : IsBehind in_owner limit 0 r u
  own = same_behind limit r stream u (ap (begun_by limit) (sym (alone_unfinished u nonzero))) s.behind

  -- what a push of the bytes that were read says
  module _ {V : Type 0} (form : WireForm V) (used : ℕ) (now : Reception OwnedBuffer) (fresh : past ≡ false) (first : from ≡ at → (later : List ℕ) → unread ≡ 0 ∷ later → ⊥)
      (some : 0 < used) (l : used ≤ length unread) (stands : (stream : List ℕ) → IsBehind in_owner limit 0 r stream → IsBehind in_owner limit 0 now (stream ++ take used unread)) where
    abbrev holds : List ℕ → Tree → Type 0
    holds = HoldsExactly (takes_record form.takes)

    fits : nat_lt limit (length u) ≡ false
    fits = sym s.past_is ∙ fresh

    first_byte : (later : List ℕ) → u ++ unread ≡ 0 ∷ later → ⊥
    first_byte = first_of u unread nonzero (λ e. first (omega (arith, s.from_is, ap length e)))

    later_behind : IsBehind in_owner limit 0 now (take (at + used) bytes)
    later_behind = subst (IsBehind in_owner limit 0 now) (sym (moved at used unread s.rest bytes s.within s.unread_is l).taken) (stands stream s.behind)

    pushed_none : Answered {V = ℕ × V} holds (reads_record form.reads) limit 0 u unread used (Ok None) → ScanStands limit now (at + used) from false (drop used unread) bytes × (ended 0 (take (at + used) bytes) ≡ ended 0 (take at bytes))
    pushed_none (a, e, p) =
        let k = push_quiet holds limit u unread used nonzero fits first_byte (subst (IsPush holds limit 0 u unread used) e p) in
        stands_on used now false l k.0 k.1 later_behind

    pushed_over : Answered {V = ℕ × V} holds (reads_record form.reads) limit 0 u unread used (Ok (Some TooLong)) → ScanStands limit now (at + used) from true (drop used unread) bytes × (ended 0 (take (at + used) bytes) ≡ ended 0 (take at bytes))
    pushed_over (a, says, p) = elim (push_answer holds limit u unread used nonzero fits first_byte says.0 some l (subst (IsPush holds limit 0 u unread used) says.2 p)) [
      | inl e ↦ absurd (omega (arith, ltb-false limit (length (u ++ take (used - 1) unread)) e.fits, subst (IsAnswer holds limit (u ++ take (used - 1) unread)) says.1 e.is))
      | inr e ↦ stands_on used now true l e.nonzero e.long later_behind
    ]

    pushed_found : (x : Answer (ℕ × V)) → ((y : Verdict) → Matches (reads_record form.reads) x y → y ≡ too_long → ⊥) → Answered holds (reads_record form.reads) limit 0 u unread used (Ok (Some x))
        → ScanStands limit now (at + used) (at + used) false (drop used unread) bytes × IsNextStretch form limit bytes at (at + used) (record { from = from; to = at + (used - 1); answer = x })
    pushed_found x other (a, says, p) = elim (push_answer holds limit u unread used nonzero fits first_byte says.0 some l (subst (IsPush holds limit 0 u unread used) says.2 p)) [
      | inl e ↦ (
        stands_found (take (used - 1) unread) used now l e.are e.nonzero (λ _. later_behind),
        found form (take (used - 1) unread) used x says.0 says.1 some l e.are e.nonzero e.some e.is,
      )
      | inr e ↦ absurd (other says.0 says.1 e.is)
    ]

    pushed_lost : IsLost holds limit 0 u unread used → ScanStands limit now (at + used) (at + used) false (drop used unread) bytes × IsLostStretch limit bytes at (at + used)
    pushed_lost h =
        let k = push_lost holds limit u unread used nonzero fits first_byte some h in
        let last = last_of unread used some l in
        let front : take (used - 1) unread ≡ h.front = but_last (take (used - 1) unread) h.front last.byte 0 (sym last.are ∙ h.bytes) in
        let z : NoZero (u ++ h.front) = subst (λ x. NoZero (u ++ x)) front k.0 in
        let within : nat_lt limit (length (u ++ h.front)) ≡ false = ap (λ x. nat_lt limit (length (u ++ x))) (sym front) ∙ k.1 in
        let same : h.stretch ≡ u ++ h.front = kept_same limit h.stretch (u ++ h.front) within (h.begun ∙ ap (begun_by limit) (alone_unfinished (u ++ h.front) z)) in (
          stands_between used now l (none_begun limit (unfinished 0 (u ++ take used unread)) h.after) (λ _. later_behind),
          lost_here h.front h.message used l h.bytes z (subst (λ x. Frame x h.message) same h.frame) (ltb-false limit (length (u ++ h.front)) within),
        )

    -- all of it
    pub pushed : (result : Result (Option (Answer (ℕ × V))) NoMemory) → ((stream : List ℕ) → IsBehind in_owner limit 0 r stream → Answered holds (reads_record form.reads) limit 0 stream unread used result)
        → StandsPushed form limit at from used now (drop used unread) bytes result
    pushed (Ok None) h = pushed_none (h u own)
    pushed (Ok (Some TooLong)) h = pushed_over (h u own)
    pushed (Ok (Some (Value v))) h = pushed_found (Value v) (λ y m e. let same : value m.0 ≡ too_long = sym m.2 ∙ e in cc) (h u own)
    pushed (Ok (Some Damaged)) h = pushed_found Damaged (λ y m e. cc) (h u own)
    pushed (Ok (Some Cut)) h = pushed_found Cut (λ y m e. cc) (h u own)
    pushed (Err e) h = pushed_lost (h u own)

  -- a byte of a stretch that is too long
  pub stands_past : (b : ℕ) (later : List ℕ) → past ≡ true → 0 < b → unread ≡ b ∷ later → ScanStands limit r (at + 1) from past later bytes × (ended 0 (take (at + 1) bytes) ≡ ended 0 (take at bytes))
  stands_past b later e l z =
      let k = behind_of stream [] in
      let m = moved at 1 unread s.rest bytes s.within s.unread_is (omega (arith, ap length z)) in
      let all : u ++ take 1 unread ≡ u ++ b ∷ [] = ap (λ x. u ++ take 1 x) z in
      let n : NoZero (u ++ take 1 unread) = subst NoZero (sym all) (no_zero_more u b k.nonzero l) in
      let long : limit < length u = ltb-true limit (length u) (sym s.past_is ∙ e) in
      let later_long : nat_lt limit (length (u ++ take 1 unread)) ≡ true = lt-ltb limit (length (u ++ take 1 unread)) (omega (arith, long, ap length all, length-append u (b ∷ []))) in
      let same : unfinished 0 (take (at + 1) bytes) ≡ u ++ take 1 unread = ap (unfinished 0) m.taken ∙ (behind_of stream (take 1 unread)).more_unfinished ∙ alone_unfinished (u ++ take 1 unread) n in
      let both : begun limit 0 stream ≡ begun limit 0 (take (at + 1) bytes) =
      ap (λ c. if c then over else kept u) (sym s.past_is ∙ e) ∙ sym (ap (begun_by limit) same ∙ ap (λ c. if c then over else kept (u ++ take 1 unread)) later_long) in
      let t = stands_on 1 r true (omega (arith, ap length z)) n later_long (same_behind limit r stream (take (at + 1) bytes) both s.behind) in
      (subst (λ x. ScanStands limit r (at + 1) from past x bytes) (ap (drop 1) z) (subst (λ c. ScanStands limit r (at + 1) from c (drop 1 unread) bytes) (sym e) t.0), t.1)

  -- the place of a stretch that is too long
  pub passed_found : {V : Type 0} (form : WireForm V) (later : List ℕ) → past ≡ true → unread ≡ 0 ∷ later → IsNextStretch form limit bytes at (at + 1) (record { from = from; to = at; answer = TooLong })
  passed_found form later e z =
      let zero_more : at + (1 - 1) ≡ at = omega arith in
      let k = behind_of stream [] in
      let within : 1 ≤ length unread = omega (arith, ap length z) in
      let long : limit < length u = ltb-true limit (length u) (sym s.past_is ∙ e) in
      let are : take 1 unread ≡ [] ++ 0 ∷ [] = ap (take 1) z in
      let n : NoZero (u ++ []) = subst NoZero (sym (append-nil u)) k.nonzero in
      let size : length (u ++ []) ≡ length u = ap length (append-nil u) in
      let f = found form [] 1 TooLong too_long refl (omega arith) within are n (omega (arith, size, long)) (omega (arith, size, long)) in
      subst (λ to. IsNextStretch form limit bytes at (at + 1) (record { from = from; to = to; answer = TooLong })) zero_more f

  -- and the zero that ends it
  pub stands_passed : {V : Type 0} (form : WireForm V) (now : Reception OwnedBuffer) (later : List ℕ) → past ≡ true → unread ≡ 0 ∷ later → IsBehind in_owner limit 0 now []
      → ScanStands limit now (at + 1) (at + 1) false later bytes × IsNextStretch form limit bytes at (at + 1) (record { from = from; to = at; answer = TooLong })
  stands_passed form now later e z h =
      let n : NoZero (u ++ []) = subst NoZero (sym (append-nil u)) (behind_of stream []).nonzero in
      let t = stands_found [] 1 now (omega (arith, ap length z)) (ap (take 1) z) n (λ g. same_behind limit now [] (take (at + 1) bytes) (ap (λ c. if c then over else kept []) (lt_zero limit) ∙ sym g) h) in
      (subst (λ x. ScanStands limit now (at + 1) (at + 1) false x bytes) (ap (drop 1) z) t, passed_found form later e z)

-- of a piece that is what was read; what is left of it stands behind the bytes that were used
pub stands_later : {V : Type 0} (form : WireForm V) (room : List ℕ) (start used : ℕ) (now : Reception OwnedBuffer) {limit at from : ℕ} {past : Bool} {bytes : List ℕ} {r : Reception OwnedBuffer} → ScanStands limit r at from past (drop start room) bytes → past ≡ false
    → (from ≡ at → (later : List ℕ) → drop start room ≡ 0 ∷ later → ⊥) → (piece : List ℕ) → piece ≡ drop start room → 0 < used → used ≤ length piece
    → ((stream : List ℕ) → IsBehind in_owner limit 0 r stream → IsBehind in_owner limit 0 now (stream ++ take used piece))
    → (result : Result (Option (Answer (ℕ × V))) NoMemory) → ((stream : List ℕ) → IsBehind in_owner limit 0 r stream → Answered (HoldsExactly (takes_record form.takes)) (reads_record form.reads) limit 0 stream piece used result)
    → (outcome : Result (Option (Answer (ℕ × V))) NoMemory) → result ≡ outcome → StandsPushed form limit at from used now (drop (start + used) room) bytes outcome
stands_later form room start used now {limit} {at} {from} {past} {bytes} {r} s fresh first piece same some l stands result answers outcome e =
    let here = subst (λ p. ScanStands limit r at from past p bytes) (sym same) s in
    let begins = subst (λ p. from ≡ at → (later : List ℕ) → p ≡ 0 ∷ later → ⊥) (sym same) first in
    subst (StandsPushed form limit at from used now (drop (start + used) room) bytes) e
    (subst (λ left. StandsPushed form limit at from used now left bytes result) (ap (drop used) same ∙ drop-drop used start room) (pushed here form used now fresh begins some l stands result answers))

-- the same by what was found, and whether the stretch is too long
pub stands_by : {V : Type 0} (form : WireForm V) (limit at from used : ℕ) (now : Reception OwnedBuffer) (left bytes : List ℕ) (o : Option (Answer (ℕ × V))) (past : Bool) (x : Option (Stretch V)) → past ≡ is_past o → ended_stretch from (at + (used - 1)) o ≡ x
    → StandsPushed form limit at from used now left bytes (Ok o) → ScanStands limit now (at + used) (next_begin from (at + used) x) past left bytes × Found form limit bytes at (at + used) x
stands_by form limit at from used now left bytes o past x e f h =
    subst (λ y. ScanStands limit now (at + used) (next_begin from (at + used) y) past left bytes × Found form limit bytes at (at + used) y) f
    (subst (λ b. ScanStands limit now (at + used) (next_begin from (at + used) (ended_stretch from (at + (used - 1)) o)) b left bytes × Found form limit bytes at (at + used) (ended_stretch from (at + (used - 1)) o)) (sym e) h)

-- from an offset before which no more stretch ends
pub next_from : {V : Type 0} {form : WireForm V} {limit first old new : ℕ} {bytes : List ℕ} {s : Stretch V} → ended 0 (take old bytes) ≡ ended 0 (take first bytes)
    → IsNextStretch form limit bytes old new s → IsNextStretch form limit bytes first new s
next_from e n = record { stretch = n.stretch; is = n.is; behind = n.behind; next = n.next ∙ ap (λ x. x ++ n.stretch ∷ []) e }

module _ {V : Type 0} (form : WireForm V) (limit : ℕ) (bytes : List ℕ) (first old new : ℕ) where
  pub found_from : (o x : Option (Stretch V)) → o ≡ x → ended 0 (take old bytes) ≡ ended 0 (take first bytes) → Found form limit bytes old new o → Found form limit bytes first new x
  found_from o None is e f = subst (Found form limit bytes old new) is f ∙ e
  found_from o (Some s) is e f = next_from e (subst (Found form limit bytes old new) is f)

-- the same of a stretch whose value was lost
pub lost_from : {limit first old new : ℕ} {bytes : List ℕ} → ended 0 (take old bytes) ≡ ended 0 (take first bytes) → IsLostStretch limit bytes old new → IsLostStretch limit bytes first new
lost_from e n = record { stretch = n.stretch; front = n.front; between = n.between; bytes_are = n.bytes_are; message = n.message; frame = n.frame; fits = n.fits; next = n.next ∙ ap (λ x. x ++ n.stretch ∷ []) e }

-- in a longer log
pub stands_longer : {limit at from : ℕ} {r : Reception OwnedBuffer} {past : Bool} {unread : List ℕ} (bytes more : List ℕ) → ScanStands limit r at from past unread bytes → ScanStands limit r at from past unread (bytes ++ more)
stands_longer {limit} {at} {from} {r} {past} {unread} bytes more s =
    let same : take at (bytes ++ more) ≡ take at bytes = take-append-le at bytes more s.within in
    record {
      within = omega (arith, s.within, length-append bytes more);
      rest = s.rest ++ more;
      unread_is = drop-append-le at bytes more s.within ∙ ap (λ x. x ++ more) s.unread_is ∙ append_assoc unread s.rest more;
      from_is = ap (λ x. from + length (unfinished 0 x)) same ∙ s.from_is;
      behind = subst (IsBehind in_owner limit 0 r) (sym same) s.behind;
      past_is = s.past_is ∙ ap (λ x. nat_lt limit (length (unfinished 0 x))) (sym same);
    }

-- a scan at the end of a log stands in front of the zero that is put behind it
pub stands_before_zero : {limit at from : ℕ} {r : Reception OwnedBuffer} {past : Bool} {unread bytes : List ℕ} → ScanStands limit r at from past unread bytes → at ≡ length bytes → ScanStands limit r at from past (0 ∷ []) (with_zero bytes)
stands_before_zero {at = at} {bytes = bytes} s end =
    stands_read (0 ∷ []) [] (stands_longer bytes (0 ∷ []) s) (drop-append-le at bytes (0 ∷ []) s.within ∙ ap (λ x. x ++ 0 ∷ []) (drop_all at bytes (omega (arith, end))))

-- what a zero behind a log says of what a scan at its end stands in
module _ {V : Type 0} (form : WireForm V) {limit at from : ℕ} {r : Reception OwnedBuffer} {past : Bool} {unread bytes : List ℕ} (s : ScanStands limit r at from past unread bytes) (end : at ≡ length bytes) where
  abbrev holds_at_end : List ℕ → Tree → Type 0
  holds_at_end = HoldsExactly (takes_record form.takes)

  last_is : (o : Option (Stretch V)) → Found form limit (with_zero bytes) at (at + 1) o → FoundLast form limit bytes o
  last_is o f = subst (λ n. Found form limit (with_zero bytes) n (n + 1) o) end f

  -- no stretch is begun there
  pub last_none : from ≡ at → FoundLast form limit bytes None
  last_none e = last_is None (stands_zero (stands_before_zero s end) [] e refl).1

  -- one is that is too long
  pub last_over : past ≡ true → FoundLast form limit bytes (Some (record { from = from; to = at; answer = TooLong }))
  last_over e = last_is (Some (record { from = from; to = at; answer = TooLong })) (passed_found (stands_before_zero s end) form [] e refl)

  -- one is that the receiver answers
  pub pushed_last : (used : ℕ) (now : Reception OwnedBuffer) → past ≡ false → (from ≡ at → ⊥) → 0 < used → used ≤ 1 → ((stream : List ℕ) → IsBehind in_owner limit 0 r stream → IsBehind in_owner limit 0 now (stream ++ take used (0 ∷ [])))
      → (result : Result (Option (Answer (ℕ × V))) NoMemory) → ((stream : List ℕ) → IsBehind in_owner limit 0 r stream → Answered holds_at_end (reads_record form.reads) limit 0 stream (0 ∷ []) used result) → (o : Option (Answer (ℕ × V))) → result ≡ Ok o
      → FoundLast form limit bytes (ended_stretch from at o)
  pushed_last used now fresh begun_there some l stands result answers o e =
      let h = pushed (stands_before_zero s end) form used now fresh (λ e later same. begun_there e) some l stands result answers in
      let found = (subst (StandsPushed form limit at from used now (drop used (0 ∷ [])) (with_zero bytes)) e h).1 in
      let one : used ≡ 1 = omega (arith, some, l) in
      let back : at + (1 - 1) ≡ at = omega arith in
      last_is (ended_stretch from at o) (subst (λ to. Found form limit (with_zero bytes) at (at + 1) (ended_stretch from to o)) back (subst (λ n. Found form limit (with_zero bytes) at (at + n) (ended_stretch from (at + (n - 1)) o)) one found))

  -- one is whose value was lost
  pub lost_last : (used : ℕ) (now : Reception OwnedBuffer) → past ≡ false → (from ≡ at → ⊥) → 0 < used → used ≤ 1 → ((stream : List ℕ) → IsBehind in_owner limit 0 r stream → IsBehind in_owner limit 0 now (stream ++ take used (0 ∷ [])))
      → (result : Result (Option (Answer (ℕ × V))) NoMemory) → ((stream : List ℕ) → IsBehind in_owner limit 0 r stream → Answered holds_at_end (reads_record form.reads) limit 0 stream (0 ∷ []) used result) → (e : NoMemory) → result ≡ Err e
      → IsLostLast limit bytes
  lost_last used now fresh begun_there some l stands result answers e is =
      let h = pushed (stands_before_zero s end) form used now fresh (λ e later same. begun_there e) some l stands result answers in
      let lost = (subst (StandsPushed form limit at from used now (drop used (0 ∷ [])) (with_zero bytes)) is h).1 in
      let one : used ≡ 1 = omega (arith, some, l) in
      subst (λ n. IsLostStretch limit (with_zero bytes) n (n + 1)) end (subst (λ n. IsLostStretch limit (with_zero bytes) at (at + n)) one lost)
