-- What runs without sentinels, and the sentinel behind one, bring about.
use Rattle.std.proofs.Common.{◌≡◌, ℕ, ◌+◌, ◌<◌, ◌≤◌, List, [], ◌∷◌, ◌++◌, length, drop, Option, Some, None, refl, sym, ap, ◌∙◌, subst, arith}
use Rattle.std.proofs.lemmas.Bool.{eq-eqb}
use Rattle.cobs.specs.Frames.{NoZero}
use Rattle.cobs.specs.Sentinel.{masked}
use Rattle.link.specs.Stream.{Begun, kept, over}
use Rattle.link.specs.Steps.{Event, quiet, passed, event_at, begun_at, Course, course_on, course_of, ahead, RunsOn, RunsPast}
use Rattle.link.specs.Finds.{IsSpan, BringsNothing}
use Rattle.link.specs.Lemmas.MaskLaws.{masked_length}
use Rattle.link.specs.Lemmas.RunLaws.{runs_on}
use Rattle.frames.specs.Events.{FindsFrame, BringsFrame, BringsBy}
use Rattle.frames.specs.declared.receiving.FrameEvent.{FrameEvent}
use Rattle.frames.specs.declared.receiving.FrameEvent.TheVariants.{TooLong}
use Rattle.frames.specs.declared.receiving.FramePush.{FramePush}
use Rattle.frames.proofs.TakingLemmas.{nothing_found, some_found}

about : (limit s : ℕ) (b : Begun) (bytes buffer : List ℕ) (p : FramePush) (At : Begun → Type 0) (e : Event) (c : Begun)
    → course_of limit s b bytes ≡ record { used = p.used; event = e; begun = c } → FindsFrame buffer e p.event → IsSpan limit e p.stretch → At c → BringsFrame limit s b bytes buffer p At
about limit s b bytes buffer p At e c q f n h = record {
  about = record {
    used = sym (ap (λ (k : Course). k.used) q);
    finds = subst (λ (x : Event). FindsFrame buffer x p.event) (sym (ap (λ (k : Course). k.event) q)) f;
    span = subst (λ (x : Event). IsSpan limit x p.stretch) (sym (ap (λ (k : Course). k.event) q)) n;
  };
  at = subst At (sym (ap (λ (k : Course). k.begun) q)) h;
}

course_as : (used later : ℕ) (e : Event) (c : Begun) → used ≡ later → (let k : Course = record { used = used; event = e; begun = c } in k) ≡ record { used = later; event = e; begun = c }
course_as used later e c h = ap (λ n. let k : Course = record { used = n; event = e; begun = c } in k) h

ahead_on : (n : ℕ) (c : Begun) (k : Course) → ahead n (course_on quiet c k) ≡ ahead (n + 1) k
ahead_on n c k = course_as (n + (k.used + 1)) ((n + 1) + k.used) k.event k.begun (omega arith)

-- the sentinel behind a stretch that isn't empty
event_is : (limit s : ℕ) (run : List ℕ) → 0 < length run → event_at limit s (kept (masked s run)) s ≡ Event.ended (masked s run)
event_is limit s [] l = absurd (omega (arith, l))
event_is limit s (b ∷ x) l = rw (eq-eqb s s refl) refl

begun_is : (limit s : ℕ) (p : List ℕ) → begun_at limit s (kept p) s ≡ kept []
begun_is limit s p = rw (eq-eqb s s refl) refl

module _ (limit s : ℕ) (b : Begun) (bytes run behind : List ℕ) (buffer : List ℕ) (size : ℕ) (parts : bytes ≡ run ++ behind) where
  pub past_brings : (used : ℕ) (At : Begun → Type 0) (stretch : ℕ) → stretch ≡ limit → RunsPast limit s b run used At → BringsFrame limit s b bytes buffer (record { used = used; stretch = stretch; event = Some TooLong }) At
  past_brings used At stretch e r = about limit s b bytes buffer (record { used = used; stretch = stretch; event = Some TooLong }) At passed over (ap (course_of limit s b) parts ∙ r.rest behind) refl e r.at

  module _ (sized : length run ≡ size) (Before : Begun → Type 0) (r : RunsOn limit s b run Before) where
    to_here : course_of limit s b bytes ≡ ahead size (course_of limit s r.now behind)
    to_here = ap (course_of limit s b) parts ∙ r.rest behind ∙ ap (λ n. ahead n (course_of limit s r.now behind)) sized

    pub run_brings : behind ≡ drop size bytes → BringsNothing limit s b bytes size Before
    run_brings e = record { now = r.now; at = r.at; rest = to_here ∙ ap (λ x. ahead size (course_of limit s r.now x)) e }

    module _ (At : Begun → Type 0) (marked : behind ≡ s ∷ drop (size + 1) bytes) (h : At (begun_at limit s r.now s)) (stretch : ℕ) (n : IsSpan limit (event_at limit s r.now s) stretch) where
      to_sentinel : course_of limit s b bytes ≡ ahead size (course_on (event_at limit s r.now s) (begun_at limit s r.now s) (course_of limit s (begun_at limit s r.now s) (drop (size + 1) bytes)))
      to_sentinel = to_here ∙ ap (λ x. ahead size (course_of limit s r.now x)) marked

      pub sentinel_brings : (found : Option FrameEvent) → FindsFrame buffer (event_at limit s r.now s) found → BringsBy limit s b bytes buffer (record { used = size + 1; stretch = stretch; event = found }) At
      sentinel_brings None f =
          let k = course_of limit s (begun_at limit s r.now s) (drop (size + 1) bytes) in
          let q = nothing_found buffer (event_at limit s r.now s) None f refl in
          record { now = begun_at limit s r.now s; at = h; rest = to_sentinel ∙ ap (λ e. ahead size (course_on e (begun_at limit s r.now s) k)) q ∙ ahead_on size (begun_at limit s r.now s) k }
      sentinel_brings (Some found) f =
          let k = course_of limit s (begun_at limit s r.now s) (drop (size + 1) bytes) in
          about limit s b bytes buffer (record { used = size + 1; stretch = stretch; event = Some found }) At (event_at limit s r.now s) (begun_at limit s r.now s)
          (to_sentinel ∙ ap (ahead size) (some_found buffer (event_at limit s r.now s) found (begun_at limit s r.now s) k f)) f n h

  -- a stretch that lies whole
  pub whole_brings : (At : Begun → Type 0) → b ≡ kept [] → NoZero (masked s run) → 0 < length run → length run ≤ limit → length run ≡ size → behind ≡ s ∷ drop (size + 1) bytes → At (kept [])
      → (found : Option FrameEvent) → FindsFrame buffer (Event.ended (masked s run)) found → BringsBy limit s b bytes buffer (record { used = size + 1; stretch = size; event = found }) At
  whole_brings At e z some short sized marked h found f =
      let r : RunsOn limit s b run (λ now. now ≡ kept (masked s run)) = runs_on limit s b [] run (λ now. now ≡ kept (masked s run)) e z (omega (arith, short)) refl in
      let m : r.now ≡ kept (masked s run) = r.at in
      let q : event_at limit s r.now s ≡ Event.ended (masked s run) = ap (λ c. event_at limit s c s) m ∙ event_is limit s run some in
      let g : begun_at limit s r.now s ≡ kept [] = ap (λ c. begun_at limit s c s) m ∙ begun_is limit s (masked s run) in
      sentinel_brings sized (λ now. now ≡ kept (masked s run)) r At marked (subst At (sym g) h) size
      (subst (λ x. IsSpan limit x size) (sym q) (omega (arith, sized, masked_length s run))) found (subst (λ x. FindsFrame buffer x found) (sym q) f)
