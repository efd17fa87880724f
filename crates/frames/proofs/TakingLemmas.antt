-- How a receiver takes a piece, front by front.
use Rattle.std.proofs.Common.{◌≡◌, ℕ, ◌+◌, ◌≤◌, List, length, drop, Option, Some, None, refl, sym, ap, ◌∙◌, subst, arith}
use Rattle.std.proofs.lemmas.List.{drop_all, drop-drop}
use Rattle.link.specs.Stream.{Begun}
use Rattle.link.specs.Steps.{Event, quiet, ended, passed, Course, course_on, course_of, ahead}
use Rattle.link.specs.Finds.{BringsNothing}
use Rattle.link.specs.Lemmas.RunLaws.{Turn}
use Rattle.frames.specs.Events.{FindsFrame, TakesFrame, BringsFrame, WhereNone}
use Rattle.frames.specs.declared.receiving.FrameEvent.{FrameEvent}
use Rattle.frames.specs.declared.receiving.FramePush.{FramePush}

module _ (limit s : ℕ) (b : Begun) (piece : List ℕ) (i : ℕ) (At : Begun → Type 0) (h : length piece ≤ i) (t : Turn limit s b piece i At) where
  all_quiet : course_of limit s b piece ≡ record { used = i + 0; event = quiet; begun = t.now }
  all_quiet = t.rest ∙ ap (λ x. ahead i (course_of limit s t.now x)) (drop_all i piece h)

  -- where these are the whole piece, nothing was found
  pub taken_whole : (buffer : List ℕ) → i ≤ length piece → TakesFrame limit (course_of limit s b piece) buffer record { used = length piece; stretch = 0; event = None }
  taken_whole buffer l = subst (λ k. TakesFrame limit k buffer record { used = length piece; stretch = 0; event = None }) (sym all_quiet) record { used = omega arith; finds = refl; span = refl }

-- what is found tells whether anything came about
pub nothing_found : (buffer : List ℕ) (e : Event) (found : Option FrameEvent) → FindsFrame buffer e found → found ≡ None → e ≡ quiet
nothing_found buffer quiet found f q = refl
nothing_found buffer passed found f q = cc
nothing_found buffer (ended p) None f q = absurd f
nothing_found buffer (ended p) (Some x) f q = cc

pub some_found : (buffer : List ℕ) (e : Event) (found : FrameEvent) (b : Begun) (later : Course) → FindsFrame buffer e (Some found) → course_on e b later ≡ record { used = 1; event = e; begun = b }
some_found buffer quiet found b later f = cc
some_found buffer (ended p) found b later f = refl
some_found buffer passed found b later f = refl

ahead_twice : (i n : ℕ) (k : Course) → ahead i (ahead n k) ≡ ahead (i + n) k
ahead_twice i n k = ap (λ u. let c : Course = record { used = u; event = k.event; begun = k.begun } in c) (let e : i + (n + k.used) ≡ (i + n) + k.used = omega arith in e)

module _ (limit s : ℕ) (b : Begun) (piece : List ℕ) (i : ℕ) (At Later : Begun → Type 0) (t : Turn limit s b piece i At) where
  -- further bytes that bring nothing about
  pub turn_on : (used : ℕ) → BringsNothing limit s t.now (drop i piece) used Later → Turn limit s b piece (i + used) Later
  turn_on used n = record {
    now = n.now;
    at = n.at;
    rest = t.rest ∙ ap (ahead i) n.rest ∙ ahead_twice i used (course_of limit s n.now (drop used (drop i piece))) ∙ ap (λ x. ahead (i + used) (course_of limit s n.now x)) (drop-drop used i piece);
  }

  -- and some that do
  pub at_about : (buffer : List ℕ) (p : FramePush) → BringsFrame limit s t.now (drop i piece) buffer p Later → Later (course_of limit s b piece).begun
  at_about buffer p a = subst (λ (k : Course). Later k.begun) (sym t.rest) a.at

  pub taken_about : (buffer : List ℕ) (used stretch : ℕ) (found : Option FrameEvent) → BringsFrame limit s t.now (drop i piece) buffer (record { used = used; stretch = stretch; event = found }) Later
      → TakesFrame limit (course_of limit s b piece) buffer (record { used = i + used; stretch = stretch; event = found })
  taken_about buffer used stretch found a = subst (λ k. TakesFrame limit k buffer (record { used = i + used; stretch = stretch; event = found })) (sym t.rest) (record {
    used = ap (λ n. i + n) a.about.used;
    finds = a.about.finds;
    span = a.about.span;
  })

pub where_none : (P Q : Type 0) (found : Option FrameEvent) → found ≡ None → WhereNone found P Q → P
where_none P Q None e h = h
where_none P Q (Some x) e h = cc

pub where_some : (P Q : Type 0) (found : Option FrameEvent) → (found ≡ None → ⊥) → WhereNone found P Q → Q
where_some P Q None n h = absurd (n refl)
where_some P Q (Some x) n h = h
