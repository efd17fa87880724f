-- Where a receiver stands behind runs and ends of stretches.
use Rattle.std.proofs.Common.{◌≡◌, ◌≢◌, ℕ, Bool, true, false, ◌+◌, ◌-◌, ◌<◌, ◌≤◌, List, [], ◌∷◌, ◌++◌, length, take, drop, Ok, refl, sym, ap, ◌∙◌, subst, inl, inr, arith, append_assoc}
use Rattle.std.specs.Prelude.{bit_xor, ◌==◌}
use Rattle.std.proofs.lemmas.Bool.{cases_eq, eq-eqb, ne_eqb}
use Rattle.std.proofs.lemmas.List.{length-append, map-append, take-append-le, length-take, length-take-le, length-drop}
use Rattle.std.proofs.Math.Seq.{take-append_seam}
use Rattle.cobs.specs.Frames.{Frame, NoZero}
use Rattle.cobs.specs.InPlace.{stretch}
use Rattle.cobs.specs.Sentinel.{masked}
use Rattle.link.specs.Stream.{Begun, kept, over}
use Rattle.link.specs.Steps.{Event, event_at, begun_at, RunsOn, RunsPast}
use Rattle.link.specs.Finds.{IsSpan}
use Rattle.frames.specs.Standing.{HasBuffer, KeepsFront, StandsAt}
use Rattle.frames.specs.declared.receiving.FrameReceiver.{FrameReceiver}
use Rattle.link.specs.Lemmas.MaskLaws.{masked_length}
use Rattle.link.specs.Lemmas.RunLaws.{over_on, runs_on, runs_past}

-- a stretch
pub stretch_of : (p : List ℕ) → NoZero p → stretch p ≡ p
stretch_of [] z = refl
stretch_of (b ∷ p) z = rw (ne_eqb b 0 (λ e. omega (arith, z.0, e))) (ap (λ x. b ∷ x) (stretch_of p z.1))

pub some_bytes : (p : List ℕ) → 0 < length p → p ≢ []
some_bytes p l e = omega (arith, l, ap length e)

-- what is begun, by the receiver
pub kept_is : (limit s : ℕ) (r : FrameReceiver) (buffer : List ℕ) (b : Begun) → r.past ≡ 0 → StandsAt limit s r buffer b
    → (p : List ℕ) × (b ≡ kept p) × KeepsFront s r buffer p
kept_is limit s r buffer (kept p) e i = (p, refl, i.begun.1)
kept_is limit s r buffer over e i = absurd (i.begun.0 e)

pub over_is : (limit s : ℕ) (r : FrameReceiver) (buffer : List ℕ) (b : Begun) → r.past ≢ 0 → StandsAt limit s r buffer b → b ≡ over
over_is limit s r buffer (kept p) n i = absurd (n i.begun.0)
over_is limit s r buffer over n i = refl

-- nothing is begun
pub stands_between : (limit s : ℕ) (r : FrameReceiver) (buffer : List ℕ) → HasBuffer limit s r buffer → r.past ≡ 0 → r.count ≡ 0
    → StandsAt limit s r buffer (kept [])
stands_between limit s r buffer t e c = record {
  terms = t;
  begun = (
    e,
    record {
      stands = ap (λ n. masked s (take n buffer)) c;
      counted = c;
      within = omega (arith, c);
      nonzero = tt;
    },
  );
}

runs_over : (limit s : ℕ) (x : List ℕ) (At : Begun → Type 0) → At over → NoZero (masked s x) → RunsOn limit s over x At
runs_over limit s x At h z = record { now = over; at = h; rest = λ later. over_on limit s x later z }

-- a run behind a stretch that is too long
pub over_run : (limit s : ℕ) (r : FrameReceiver) (buffer : List ℕ) (b : Begun) (run : List ℕ) → r.past ≢ 0 → StandsAt limit s r buffer b
    → NoZero (masked s run) → RunsOn limit s b run (StandsAt limit s r buffer)
over_run limit s r buffer b run n i z =
    let e = over_is limit s r buffer b n i in
    subst (λ x. RunsOn limit s x run (StandsAt limit s r buffer)) (sym e) (runs_over limit s run (StandsAt limit s r buffer) (subst (StandsAt limit s r buffer) e i) z)

-- one that goes past the limit
pub past_run : (limit s : ℕ) (r : FrameReceiver) (buffer : List ℕ) (b : Begun) (run : List ℕ) (later : FrameReceiver) → r.past ≡ 0 → StandsAt limit s r buffer b
    → NoZero (masked s run) → length buffer < r.count + length run → later.past ≡ 1 → later.count ≡ 0 → later.sentinel ≡ r.sentinel
    → RunsPast limit s b run (length buffer - r.count + 1) (StandsAt limit s later buffer)
past_run limit s r buffer b run later e i z far past none same =
    let k = kept_is limit s r buffer b e i in
    let room = i.terms.room in
    runs_past limit s b k.0 run (length buffer - r.count + 1) (StandsAt limit s later buffer) k.1 z
    (omega (arith, k.2.counted, k.2.within, room)) (omega (arith, far, k.2.counted, room))
    (omega (arith, k.2.counted, room))
    (record {
      terms = record { room = room; sentinel = same ∙ i.terms.sentinel };
      begun = (λ n. omega (arith, n, past), none);
    })

no_zero_joined : (p q : List ℕ) → NoZero p → NoZero q → NoZero (p ++ q)
no_zero_joined [] q z w = w
no_zero_joined (b ∷ p) q z w = (z.0, no_zero_joined p q z.1 w)

-- one that is kept
pub kept_run : (limit s : ℕ) (r : FrameReceiver) (buffer : List ℕ) (b : Begun) (run rest : List ℕ) (later : FrameReceiver) → r.past ≡ 0 → StandsAt limit s r buffer b
    → NoZero (masked s run) → r.count + length run ≤ length buffer → length rest + length run + r.count ≡ length buffer
    → later ≡ record { count = r.count + length run; past = r.past; sentinel = r.sentinel }
    → RunsOn limit s b run (StandsAt limit s later (take r.count buffer ++ (run ++ rest)))
kept_run limit s r buffer b run rest later e i z near sum is =
    let k = kept_is limit s r buffer b e i in
    let room = i.terms.room in
    let front = take r.count buffer in
    let sized : length front ≡ r.count = length-take-le r.count buffer k.2.within in
    let count : later.count ≡ r.count + length run = ap (λ (x : FrameReceiver). x.count) is in
    let all : length (front ++ run) ≡ later.count = length-append front run ∙ ap (λ n. n + length run) sized ∙ sym count in
    let taken : take later.count (front ++ (run ++ rest)) ≡ front ++ run = ap (λ n. take n (front ++ (run ++ rest))) (sym all) ∙ ap (take (length (front ++ run))) (sym (append_assoc front run rest)) ∙ take-append_seam (front ++ run) rest in
    let whole : length (front ++ (run ++ rest)) ≡ length buffer = omega (arith, length-append front (run ++ rest), length-append run rest, sized, sum) in
    runs_on limit s b k.0 run (StandsAt limit s later (front ++ (run ++ rest))) k.1 z
    (omega (arith, near, k.2.counted, room))
    (record {
      terms = record { room = whole ∙ room; sentinel = ap (λ (x : FrameReceiver). x.sentinel) is ∙ i.terms.sentinel };
      begun = (
        ap (λ (x : FrameReceiver). x.past) is ∙ e,
        record {
          stands = ap (masked s) taken ∙ map-append (bit_xor s) front run ∙ ap (λ x. x ++ masked s run) k.2.stands;
          counted = count ∙ omega (arith, k.2.counted, length-append k.0 (masked s run), masked_length s run);
          within = omega (arith, count, whole, near);
          nonzero = no_zero_joined k.0 (masked s run) k.2.nonzero z;
        },
      );
    })

-- how many bytes of a stretch stand before its sentinel
pub sentinel_span : (limit s : ℕ) (r : FrameReceiver) (buffer : List ℕ) (b : Begun) → StandsAt limit s r buffer b → IsSpan limit (event_at limit s b s) r.count
sentinel_span limit s r buffer (kept []) i = rw (eq-eqb s s refl) i.begun.1.counted
sentinel_span limit s r buffer (kept (x ∷ p)) i = rw (eq-eqb s s refl) i.begun.1.counted
sentinel_span limit s r buffer over i = i.begun.1

-- an end of a stretch
pub closed : (limit s : ℕ) (p : List ℕ) → 0 < length p → event_at limit s (kept p) s ≡ Event.ended p
closed limit s [] l = absurd (omega (arith, l))
closed limit s (b ∷ p) l = rw (eq-eqb s s refl) refl

pub has_bytes : (rest : List ℕ) (b : Bool) → b ≡ (length rest == 0) → b ≡ false → 0 < length rest
has_bytes [] b e f = let no : true ≡ false = sym e ∙ f in absurd (cc)
has_bytes (x ∷ rest) b e f = omega arith

-- a stretch that is decoded where it stands
module _ (limit s : ℕ) (r later : FrameReceiver) (buffer p front decoded back : List ℕ) (i : StandsAt limit s r buffer (kept p)) (whole : length front + length back ≡ length buffer)
    (is_front : front ≡ take r.count buffer) (now : later ≡ record { count = 0; past = r.past; sentinel = r.sentinel }) (long : length decoded ≡ length front) where
  stretch_is : masked r.sentinel front ≡ p
  stretch_is = ap (λ n. masked n front) i.terms.sentinel ∙ ap (masked s) is_front ∙ i.begun.1.stands

  clear : NoZero (masked r.sentinel front)
  clear = subst NoZero (sym stretch_is) i.begun.1.nonzero

  pub closes : StandsAt limit s later (decoded ++ back) (kept [])
  closes = stands_between limit s later (decoded ++ back)
      (record {
        room = omega (arith, length-append decoded back, long, whole, i.terms.room);
        sentinel = ap (λ (x : FrameReceiver). x.sentinel) now ∙ i.terms.sentinel;
      }) (ap (λ (x : FrameReceiver). x.past) now ∙ i.begun.0) (ap (λ (x : FrameReceiver). x.count) now)

  -- a frame
  pub closes_frame : (size : ℕ) → size ≤ length decoded → (NoZero (masked r.sentinel front) → Frame (masked r.sentinel front) (take size decoded)) → Frame p (take size (decoded ++ back))
  closes_frame size small f = subst (λ m. Frame p m) (sym (take-append-le size decoded back small)) (subst (λ y. Frame y (take size decoded)) stretch_is (f clear))

  -- no frame
  pub closes_damaged : (NoZero (masked r.sentinel front) → (m : List ℕ) → Frame (masked r.sentinel front) m → ⊥) → (m : List ℕ) → Frame p m → ⊥
  closes_damaged f m g = f clear m (subst (λ y. Frame y m) (sym stretch_is) g)
