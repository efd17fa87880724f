use Rattle.std.proofs.Common.{◌≡◌, ℕ, ◌+◌, ◌<◌, length, take, drop, refl, sym, subst, arith, take-append-drop, get_or}
use Rattle.std.proofs.lemmas.List.{length-take-le}
use Rattle.link.specs.Stream.{Begun}
use Rattle.link.specs.Steps.{RunsOn, event_at, course_of}
use Rattle.link.specs.Finds.{Brings, BringsAbout, IsTaken, front_of}
use Rattle.link.specs.Receivers.{IsAt, buffer_in}
use Rattle.link.specs.declared.reception.Found.TheVariants.{Nothing}
use Rattle.link.proofs.ReceivingLemmas.{holds_front, marked_at, span_at, sentinel_ends}
use Rattle.link.specs.Lemmas.RunLaws.{Turn, run_brings, sentinel_brings, brings_some, nothing_found, at_whole, taken_whole}
use Rattle.link.proofs.reception.Reception.take_few.Given.{Over}
use Rattle.link.proofs.reception.Reception.take_few.Goals as goal

module _ (g : Over) (c : goal.Then-held-piece g) (limit s : ℕ) (b : Begun) (i : IsAt g.D.Decoding.inside limit s c.args.self.now b) where
  turned : Turn limit s b c.args.piece.now c.hold_until-held.result
      (IsAt g.D.Decoding.inside limit s (record { buffer = c.hold_until-held.new.self; past = c.args.self.now.past; sentinel = c.args.self.now.sentinel }))
  turned =
      let bytes = c.args.piece.now in
      let n = c.hold_until-held.result in
      let h = c.hold_until-held.ensures in
      let old = g.D.Decoding.inside c.args.self.now.buffer in
      let new = g.D.Decoding.inside c.hold_until-held.new.self in
      let At = IsAt g.D.Decoding.inside limit s (record { buffer = c.hold_until-held.new.self; past = c.args.self.now.past; sentinel = c.args.self.now.sentinel }) in
      let r = holds_front limit s _ old.bytes new.bytes old.count new.count n c.args.self.now.past b bytes At i.sentinel_is c.requires.begun i.state h.within h.clear c.requires.room h.bytes h.count (λ _ j. record { sentinel_is = i.sentinel_is; state = j }) in
      let q = run_brings limit s b bytes (take n bytes) (drop n bytes) (front_of new.bytes) n (sym (take-append-drop n bytes)) (length-take-le n bytes h.within) At r refl in
      record { now = q.now; at = q.at; rest = q.rest }

pub returns-then-held-piece-clause-at : goal.returns-then-held-piece-clause-at
returns-then-held-piece-clause-at g c limit s b i = at_whole limit s b c.args.piece.now c.hold_until-held.result _ (omega (arith, c.if-held-piece.true)) (turned g c limit s b i)

pub returns-then-held-piece-clause-taken : goal.returns-then-held-piece-clause-taken
returns-then-held-piece-clause-taken g c limit s b i =
    let front = front_of (buffer_in g.D.Decoding.inside (record { buffer = c.hold_until-held.new.self; past = c.args.self.now.past; sentinel = c.args.self.now.sentinel })) in
    subst (λ k. IsTaken limit (course_of limit s b c.args.piece.now) front (record { used = k; stretch = 0; found = Nothing })) (sym c.if-held-piece.true)
    (taken_whole limit s b c.args.piece.now c.hold_until-held.result _ (omega (arith, c.if-held-piece.true)) (turned g c limit s b i) front (omega (arith, c.if-held-piece.true)))

module _ (g : Over) (c : goal.After-take_sentinel g) (limit s : ℕ) (b : Begun) (i : IsAt g.D.Decoding.inside limit s c.args.self.now b) where
  ended : BringsAbout limit s b c.args.piece.now (front_of (buffer_in g.D.Decoding.inside c.take_sentinel.new.self))
      (record { used = c.hold_until-held.result + 1; stretch = c.held-stretch.result; found = c.take_sentinel.result }) (IsAt g.D.Decoding.inside limit s c.take_sentinel.new.self)
  ended =
      let bytes = c.args.piece.now in
      let n = c.hold_until-held.result in
      let h = c.hold_until-held.ensures in
      let old = g.D.Decoding.inside c.args.self.now.buffer in
      let new = g.D.Decoding.inside c.hold_until-held.new.self in
      let Held = IsAt g.D.Decoding.inside limit s (record { buffer = c.hold_until-held.new.self; past = c.args.self.now.past; sentinel = c.args.self.now.sentinel }) in
      let r : RunsOn limit s b (take n bytes) Held = holds_front limit s _ old.bytes new.bytes old.count new.count n c.args.self.now.past b bytes Held i.sentinel_is c.requires.begun i.state h.within h.clear c.requires.room h.bytes h.count (λ _ j. record { sentinel_is = i.sentinel_is; state = j }) in
      let short : n < length bytes = omega (arith, h.within, c.if-held-piece.false) in
      let some : new.count ≡ 0 → ⊥ = λ z. c.requires.first (subst (λ k. get_or bytes k 0 ≡ c.args.self.now.sentinel) (omega (arith, z, h.count)) (h.end short)) in
      let e = sentinel_ends limit s new.bytes new.count c.args.self.now.past r.now c.requires.begun some r.at.state in
      let front = front_of (buffer_in g.D.Decoding.inside c.take_sentinel.new.self) in
      let At = IsAt g.D.Decoding.inside limit s c.take_sentinel.new.self in
      let finds = c.take_sentinel.ensures.finds limit s r.now r.at in
      let found : c.take_sentinel.result ≡ Nothing → ⊥ = λ q. (let z = nothing_found front (event_at limit s r.now s) c.take_sentinel.result finds q in let w = e.3 in cc) in
      brings_some limit s b bytes front (n + 1) c.held-stretch.result c.take_sentinel.result At found
      (subst (λ k. Brings limit s b bytes front (record { used = n + 1; stretch = k; found = c.take_sentinel.result }) At) (sym c.held-stretch.ensures.count)
      (sentinel_brings limit s b bytes (take n bytes) (drop n bytes) front n (sym (take-append-drop n bytes)) (length-take-le n bytes h.within) Held r At
      (marked_at _ s n bytes i.sentinel_is short (h.end short)) (c.take_sentinel.ensures.at limit s r.now r.at) _ (span_at limit s _ _ _ r.now r.at.state) c.take_sentinel.result finds))

pub returns-clause-at : goal.returns-clause-at
returns-clause-at g c limit s b i = (ended g c limit s b i).at

pub returns-clause-taken : goal.returns-clause-taken
returns-clause-taken g c limit s b i = (ended g c limit s b i).about
