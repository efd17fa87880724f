-- How a receiver takes a piece, front by front; what comes of runs without sentinels, and where they end.
use Rattle.std.proofs.Common.{◌≡◌, ℕ, suc, ◌+◌, ◌-◌, ◌<◌, ◌≤◌, List, [], ◌∷◌, ◌++◌, length, take, drop, refl, sym, ap, ◌∙◌, subst, inl, inr, arith, append_assoc, bit_xor, ne_eqb, eq-eqb, lt-ltb, le-ltb, append-nil, length-append, length-drop}
use Rattle.std.proofs.lemmas.Bool.{cases_eq, cases_lt}
use Rattle.cobs.specs.Frames.{NoZero}
use Rattle.cobs.specs.InPlace.{stretch}
use Rattle.cobs.specs.Sentinel.{masked}
use Rattle.link.specs.Stream.{Begun, kept, over}
use Rattle.link.specs.Steps.{Event, quiet, passed, event_at, begun_at, Course, course_on, course_of, ahead, RunsOn, RunsPast, ended}
use Rattle.link.specs.Finds.{Finds, IsSpan, BringsNothing, BringsAbout, Brings, IsTaken}
use Rattle.link.specs.declared.reception.Found.{Found}
use Rattle.link.specs.declared.reception.Found.TheVariants.{Nothing, Damaged, TooLong, Whole}
use Rattle.link.specs.declared.reception.Taken.{Taken}
use Rattle.link.specs.Lemmas.MaskLaws.{sentinel_is_zero, no_sentinel, masked_length, nonzero as unlike}
use Rattle.std.proofs.lemmas.List.{drop_all}

-- The first i bytes of the piece brought nothing about, and this is begun now.
pub record Turn (limit s : ℕ) (b : Begun) (piece : List ℕ) (i : ℕ) (At : Begun → Type 0) : Type 0 where
  pub now : Begun
  pub at : At now
  pub rest : course_of limit s b piece ≡ ahead i (course_of limit s now (drop i piece))

module _ (limit s : ℕ) (b : Begun) (piece : List ℕ) (i : ℕ) (At : Begun → Type 0) (h : length piece ≤ i) (t : Turn limit s b piece i At) where
  all_quiet : course_of limit s b piece ≡ record { used = i + 0; event = quiet; begun = t.now }
  all_quiet = t.rest ∙ ap (λ x. ahead i (course_of limit s t.now x)) (drop_all i piece h)

  -- where these are the whole piece, it stands behind the piece
  pub at_whole : At (course_of limit s b piece).begun
  at_whole = subst (λ k. At k.begun) (sym all_quiet) t.at

  -- and nothing was found
  pub taken_whole : {M : Type 0} (message : M → List ℕ) → i ≤ length piece → IsTaken limit (course_of limit s b piece) message record { used = length piece; stretch = 0; found = Nothing }
  taken_whole message l = subst (λ k. IsTaken limit k message record { used = length piece; stretch = 0; found = Nothing }) (sym all_quiet) record { used = omega arith; finds = refl; span = refl }

-- what is found tells whether anything came about
pub nothing_found : {M : Type 0} (message : M → List ℕ) (e : Event) (found : Found M) → Finds message e found → found ≡ Nothing → e ≡ quiet
nothing_found message quiet found f q = refl
nothing_found message passed found f q = cc
nothing_found message (ended p) Nothing f q = absurd f
nothing_found message (ended p) Damaged f q = cc
nothing_found message (ended p) TooLong f q = absurd f
nothing_found message (ended p) (Whole m) f q = cc

pub some_found : {M : Type 0} (message : M → List ℕ) (e : Event) (found : Found M) (b : Begun) (later : Course) → Finds message e found → (found ≡ Nothing → ⊥) → course_on e b later ≡ record { used = 1; event = e; begun = b }
some_found message quiet found b later f n = absurd (n f)
some_found message (ended p) found b later f n = refl
some_found message passed found b later f n = refl

pub above : (b : ℕ) → 0 < b → b ≡ 0 → ⊥
above b l e = omega (arith, l, e)

-- the first sentinel
stretch_none : (s b : ℕ) (x : List ℕ) → b ≡ s → stretch (masked s (b ∷ x)) ≡ []
stretch_none s b x e = rw (eq-eqb (bit_xor s b) 0 (sentinel_is_zero s b e)) refl

stretch_byte : (s b : ℕ) (x : List ℕ) → (b ≡ s → ⊥) → stretch (masked s (b ∷ x)) ≡ bit_xor s b ∷ stretch (masked s x)
stretch_byte s b x n = rw (ne_eqb (bit_xor s b) 0 (above (bit_xor s b) (unlike s b n))) refl

-- courses over runs
course_as : (used later : ℕ) (e : Event) (c : Begun) → used ≡ later → (let k : Course = record { used = used; event = e; begun = c } in k) ≡ record { used = later; event = e; begun = c }
course_as used later e c h = ap (λ n. let k : Course = record { used = n; event = e; begun = c } in k) h

ahead_more : (n : ℕ) (k : Course) → course_on quiet over (ahead n k) ≡ ahead (suc n) k
ahead_more n k = course_as ((n + k.used) + 1) (suc n + k.used) k.event k.begun (omega arith)

pub over_on : (limit s : ℕ) (x later : List ℕ) → NoZero (masked s x) → course_of limit s over (x ++ later) ≡ ahead (length x) (course_of limit s over later)
over_on limit s [] later z = let k = course_of limit s over later in course_as k.used (0 + k.used) k.event k.begun (omega arith)
over_on limit s (b ∷ x) later z =
    let k = course_of limit s over later in
    rw (ne_eqb b s (no_sentinel s b z.0)) (ap (course_on quiet over) (over_on limit s x later z.1) ∙ ahead_more (length x) k)

kept_on : (limit s : ℕ) (p x later : List ℕ) → NoZero (masked s x) → length p + length x ≤ limit → course_of limit s (kept p) (x ++ later) ≡ ahead (length x) (course_of limit s (kept (p ++ masked s x)) later)
kept_on limit s p [] later z l =
    let k = course_of limit s (kept p) later in
    course_as k.used (0 + k.used) k.event k.begun (omega arith) ∙ ap (λ q. ahead 0 (course_of limit s (kept q) later)) (sym (append-nil p))
kept_on limit s p (b ∷ x) later z l =
    let c = bit_xor s b in
    let k = course_of limit s (kept (p ++ (c ∷ masked s x))) later in
    let short : length p < limit = omega (arith, l) in
    let behind : length (p ++ c ∷ []) + length x ≤ limit = omega (arith, l, length-append p (c ∷ [])) in
    rw (ne_eqb b s (no_sentinel s b z.0), lt-ltb (length p) limit short)
    (ap (course_on quiet over) (kept_on limit s (p ++ c ∷ []) x later z.1 behind ∙ ap (λ q. ahead (length x) (course_of limit s (kept q) later)) (append_assoc p (c ∷ []) (masked s x))) ∙ ahead_more (length x) k)

kept_past : (limit s : ℕ) (p x later : List ℕ) → NoZero (masked s x) → length p ≤ limit → limit < length p + length x → course_of limit s (kept p) (x ++ later) ≡ record { used = (limit - length p) + 1; event = passed; begun = over }
kept_past limit s p [] later z l m = absurd (omega (arith, l, m))
kept_past limit s p (b ∷ x) later z l m = elim (cases_lt (length p) limit) [
  | inl short ↦ (
      let c = bit_xor s b in
      let behind = length-append p (c ∷ []) in
      let rest = kept_past limit s (p ++ c ∷ []) x later z.1 (omega (arith, short, behind)) (omega (arith, m, behind)) in
      rw (ne_eqb b s (no_sentinel s b z.0), lt-ltb (length p) limit short)
      (ap (course_on quiet over) rest ∙ course_as (((limit - length (p ++ c ∷ [])) + 1) + 1) ((limit - length p) + 1) passed over (omega (arith, short, behind))))
  | inr full ↦ rw (ne_eqb b s (no_sentinel s b z.0), le-ltb (length p) limit full) (course_as 1 ((limit - length p) + 1) passed over (omega (arith, full)))
]

pub runs_on : (limit s : ℕ) (b : Begun) (p x : List ℕ) (At : Begun → Type 0) → b ≡ kept p → NoZero (masked s x) → length p + length x ≤ limit → At (kept (p ++ masked s x)) → RunsOn limit s b x At
runs_on limit s b p x At e z l h = record { now = kept (p ++ masked s x); at = h; rest = λ later. ap (λ c. course_of limit s c (x ++ later)) e ∙ kept_on limit s p x later z l }

pub runs_past : (limit s : ℕ) (b : Begun) (p x : List ℕ) (used : ℕ) (At : Begun → Type 0) → b ≡ kept p → NoZero (masked s x) → length p ≤ limit → limit < length p + length x → used ≡ (limit - length p) + 1 → At over → RunsPast limit s b x used At
runs_past limit s b p x used At e z l m u h = record {
  at = h;
  rest = λ later. ap (λ c. course_of limit s c (x ++ later)) e ∙ kept_past limit s p x later z l m ∙ course_as ((limit - length p) + 1) used passed over (sym u);
}

-- a stretch, and the sentinel behind it
no_zero_in : (s : ℕ) (x : List ℕ) → NoZero (masked s (take (length (stretch (masked s x))) x))
no_zero_in s [] = tt
no_zero_in s (b ∷ x) = elim (cases_eq b s) [
  | inl e ↦ subst (λ y. NoZero (masked s (take (length y) (b ∷ x)))) (sym (stretch_none s b x e)) tt
  | inr n ↦ subst (λ y. NoZero (masked s (take (length y) (b ∷ x)))) (sym (stretch_byte s b x n)) (unlike s b n, no_zero_in s x)
]

pub run_of : (s : ℕ) (x run : List ℕ) (size : ℕ) → size ≡ length (stretch (masked s x)) → run ≡ take size x → NoZero (masked s run)
run_of s x run size e f = subst (λ y. NoZero (masked s y)) (sym (f ∙ ap (λ n. take n x) e)) (no_zero_in s x)

sentinel_follows : (s : ℕ) (x : List ℕ) → length (stretch (masked s x)) < length x → drop (length (stretch (masked s x))) x ≡ s ∷ drop (suc (length (stretch (masked s x)))) x
sentinel_follows s [] l = absurd (omega (arith, l))
sentinel_follows s (b ∷ x) l = elim (cases_eq b s) [
  | inl e ↦ rw (ap length (stretch_none s b x e)) (ap (λ c. c ∷ x) e)
  | inr n ↦ (
      let e : length (stretch (masked s (b ∷ x))) ≡ suc (length (stretch (masked s x))) = ap length (stretch_byte s b x n) in
      rw e (sentinel_follows s x (omega (arith, l, e))))
]

pub sentinel_behind : (s : ℕ) (x behind : List ℕ) (size : ℕ) → size ≡ length (stretch (masked s x)) → behind ≡ drop size x → 0 < length behind → behind ≡ s ∷ drop (size + 1) x
sentinel_behind s x behind size e f l =
    let g : behind ≡ drop (length (stretch (masked s x))) x = f ∙ ap (λ n. drop n x) e in
    let short : length (stretch (masked s x)) < length x = omega (arith, l, ap length g, length-drop (length (stretch (masked s x))) x) in
    let n : suc (length (stretch (masked s x))) ≡ size + 1 = omega (arith, e) in
    g ∙ sentinel_follows s x short ∙ ap (λ n. s ∷ drop n x) n

-- what a course brings
about : {M : Type 0} (limit s : ℕ) (b : Begun) (bytes : List ℕ) (message : M → List ℕ) (taken : Taken M) (At : Begun → Type 0) (e : Event) (c : Begun)
    → course_of limit s b bytes ≡ record { used = taken.used; event = e; begun = c } → Finds message e taken.found → IsSpan limit e taken.stretch → At c → BringsAbout limit s b bytes message taken At
about limit s b bytes message taken At e c q f n h = record {
  about = record {
    used = sym (ap (λ (k : Course). k.used) q);
    finds = subst (λ (x : Event). Finds message x taken.found) (sym (ap (λ (k : Course). k.event) q)) f;
    span = subst (λ (x : Event). IsSpan limit x taken.stretch) (sym (ap (λ (k : Course). k.event) q)) n;
  };
  at = subst At (sym (ap (λ (k : Course). k.begun) q)) h;
}

ahead_on : (n : ℕ) (c : Begun) (k : Course) → ahead n (course_on quiet c k) ≡ ahead (n + 1) k
ahead_on n c k = course_as (n + (k.used + 1)) ((n + 1) + k.used) k.event k.begun (omega arith)

-- the sentinel behind a stretch that isn't empty
event_is : (limit s : ℕ) (run : List ℕ) → 0 < length run → event_at limit s (kept (masked s run)) s ≡ Event.ended (masked s run)
event_is limit s [] l = absurd (omega (arith, l))
event_is limit s (b ∷ x) l = rw (eq-eqb s s refl) refl

begun_is : (limit s : ℕ) (p : List ℕ) → begun_at limit s (kept p) s ≡ kept []
begun_is limit s p = rw (eq-eqb s s refl) refl

pub none_kept : (p : List ℕ) (count : ℕ) → count ≡ length p → count ≡ 0 → p ≡ []
none_kept [] count e z = refl
none_kept (b ∷ p) count e z = absurd (omega (arith, e, z))

module _ {M : Type 0} (limit s : ℕ) (b : Begun) (bytes run behind : List ℕ) (message : M → List ℕ) (size : ℕ) (parts : bytes ≡ run ++ behind) where
  pub past_brings : (used : ℕ) (At : Begun → Type 0) (stretch : ℕ) → stretch ≡ limit → RunsPast limit s b run used At → BringsAbout limit s b bytes message (record { used = used; stretch = stretch; found = TooLong }) At
  past_brings used At stretch e r = about limit s b bytes message (record { used = used; stretch = stretch; found = TooLong }) At passed over (ap (course_of limit s b) parts ∙ r.rest behind) refl e r.at

  module _ (sized : length run ≡ size) (Before : Begun → Type 0) (r : RunsOn limit s b run Before) where
    to_here : course_of limit s b bytes ≡ ahead size (course_of limit s r.now behind)
    to_here = ap (course_of limit s b) parts ∙ r.rest behind ∙ ap (λ n. ahead n (course_of limit s r.now behind)) sized

    pub run_brings : behind ≡ drop size bytes → BringsNothing limit s b bytes size Before
    run_brings e = record { now = r.now; at = r.at; rest = to_here ∙ ap (λ x. ahead size (course_of limit s r.now x)) e }

    module _ (At : Begun → Type 0) (marked : behind ≡ s ∷ drop (size + 1) bytes) (h : At (begun_at limit s r.now s)) (stretch : ℕ) (n : IsSpan limit (event_at limit s r.now s) stretch) where
      to_sentinel : course_of limit s b bytes ≡ ahead size (course_on (event_at limit s r.now s) (begun_at limit s r.now s) (course_of limit s (begun_at limit s r.now s) (drop (size + 1) bytes)))
      to_sentinel = to_here ∙ ap (λ x. ahead size (course_of limit s r.now x)) marked

      ends_nothing : Finds message (event_at limit s r.now s) Nothing → BringsNothing limit s b bytes (size + 1) At
      ends_nothing f =
          let k = course_of limit s (begun_at limit s r.now s) (drop (size + 1) bytes) in
          let q = nothing_found message (event_at limit s r.now s) Nothing f refl in
          record { now = begun_at limit s r.now s; at = h; rest = to_sentinel ∙ ap (λ e. ahead size (course_on e (begun_at limit s r.now s) k)) q ∙ ahead_on size (begun_at limit s r.now s) k }

      ends_about : (found : Found M) → Finds message (event_at limit s r.now s) found → (found ≡ Nothing → ⊥) → BringsAbout limit s b bytes message (record { used = size + 1; stretch = stretch; found = found }) At
      ends_about found f m =
          let k = course_of limit s (begun_at limit s r.now s) (drop (size + 1) bytes) in
          about limit s b bytes message (record { used = size + 1; stretch = stretch; found = found }) At (event_at limit s r.now s) (begun_at limit s r.now s)
          (to_sentinel ∙ ap (ahead size) (some_found message (event_at limit s r.now s) found (begun_at limit s r.now s) k f m)) f n h

      pub sentinel_brings : (found : Found M) → Finds message (event_at limit s r.now s) found → Brings limit s b bytes message (record { used = size + 1; stretch = stretch; found = found }) At
      sentinel_brings Nothing f = ends_nothing f
      sentinel_brings Damaged f = ends_about Damaged f (λ e. cc)
      sentinel_brings TooLong f = ends_about TooLong f (λ e. cc)
      sentinel_brings (Whole m) f = ends_about (Whole m) f (λ e. cc)

  -- a stretch that lies whole
  pub whole_brings : (At : Begun → Type 0) → b ≡ kept [] → NoZero (masked s run) → 0 < length run → length run ≤ limit → length run ≡ size → behind ≡ s ∷ drop (size + 1) bytes → At (kept [])
      → (found : Found M) → Finds message (Event.ended (masked s run)) found → Brings limit s b bytes message (record { used = size + 1; stretch = size; found = found }) At
  whole_brings At e z some short sized marked h found f =
      let r : RunsOn limit s b run (λ now. now ≡ kept (masked s run)) = record { now = kept (masked s run); at = refl; rest = λ later. ap (λ c. course_of limit s c (run ++ later)) e ∙ kept_on limit s [] run later z (omega (arith, short)) } in
      let q = event_is limit s run some in
      sentinel_brings sized (λ now. now ≡ kept (masked s run)) r At marked (subst At (sym (begun_is limit s (masked s run))) h) size
      (subst (λ x. IsSpan limit x size) (sym q) (omega (arith, sized, masked_length s run))) found (subst (λ x. Finds message x found) (sym q) f)

-- what comes about where something is found
pub brings_some : {M : Type 0} (limit s : ℕ) (b : Begun) (bytes : List ℕ) (message : M → List ℕ) (used stretch : ℕ) (found : Found M) (At : Begun → Type 0) → (found ≡ Nothing → ⊥)
    → Brings limit s b bytes message (record { used = used; stretch = stretch; found = found }) At → BringsAbout limit s b bytes message (record { used = used; stretch = stretch; found = found }) At
brings_some limit s b bytes message used stretch Nothing At n h = absurd (n refl)
brings_some limit s b bytes message used stretch Damaged At n h = h
brings_some limit s b bytes message used stretch TooLong At n h = h
brings_some limit s b bytes message used stretch (Whole m) At n h = h
