use Rattle.std.proofs.Common.{◌≡◌, ◌+◌, ◌-◌, ◌<◌, ◌≤◌, ℕ, length, refl, inl, inr, arith, subst, sym, ◌∙◌}
use Rattle.spans.specs.Span.{ahead_of}
use Rattle.postcard_de.proofs.FillingLemmas.{gave_filled, less_came, no_room_for}
use Rattle.postcard_de.proofs.de_flavors.io.IOReaderFlavor.try_take_n.Goals as goal
use Rattle.postcard_de.proofs.de_flavors.io.IOReaderFlavor.try_take_n.Goals.{then-self-ct-via-then-self-ct, then-self-ct-via-else-self-ct+then-remaining-ct}

pub returns-then-self-ct-clause-reads : goal.returns-then-self-ct-clause-reads
returns-then-self-ct-clause-reads g c =
    let s = c.args.self.now in
    no_room_for (g.R.Read.remaining s.reader) s.failed (length (ahead_of s.buffer.span)) s.limit c.args.ct
    (elim c.then-self-ct.branch [ then-self-ct-via-then-self-ct w ↦ inr w.if-self-ct.true | then-self-ct-via-else-self-ct+then-remaining-ct w ↦ inl (subst (λ n. n < c.args.ct) w.remaining.ensures w.if-remaining-ct.true) ])

past : {P : Type 0} (a b : ℕ) → a < b → b ≤ a → P
past a b p q = absurd (omega (arith, p, q))

-- what was taken is gone from the front
gone : (m n ct : ℕ) → m ≡ ct + n → m ≡ n + ct
gone m n ct r = omega (arith, r)

at_most : (m n ct : ℕ) → m ≡ ct + n → m ≤ n + ct
at_most m n ct r = omega (arith, r)

no_more : (m n ct : ℕ) → m ≡ ct + n → n ≤ m
no_more m n ct r = omega (arith, r)

less : (limit ct : ℕ) → ct ≤ limit → limit ≡ limit - ct + ct
less limit ct p = omega (arith, p)

pub returns-then-self-ct-clause-used : goal.returns-then-self-ct-clause-used
returns-then-self-ct-clause-used g c = λ p q. elim c.then-self-ct.branch [ then-self-ct-via-then-self-ct w ↦ past _ _ w.if-self-ct.true q | then-self-ct-via-else-self-ct+then-remaining-ct w ↦ past _ _ w.if-remaining-ct.true (subst (λ n. c.args.ct ≤ n) (sym w.remaining.ensures) p) ]

pub returns-then-self-ct-clause-too_small : goal.returns-then-self-ct-clause-too_small
returns-then-self-ct-clause-too_small g c = λ _. (refl, refl)

pub returns-then-self-ct-clause-past_limit : goal.returns-then-self-ct-clause-past_limit
returns-then-self-ct-clause-past_limit g c = λ _. (refl, refl)

pub overflow_sub-self : goal.overflow_sub-self
overflow_sub-self g c = c.if-self-ct.false

pub take_n-front-requires : goal.take_n-front-requires
take_n-front-requires g c = subst (λ n. c.args.ct ≤ n) c.remaining.ensures c.if-remaining-ct.false

pub returns-then-not-fill-clause-room : goal.returns-then-not-fill-clause-room
returns-then-not-fill-clause-room g c = tt

pub returns-then-not-fill-clause-used : goal.returns-then-not-fill-clause-used
returns-then-not-fill-clause-used g c = λ p q. (gone _ _ _ c.take_n-front.ensures.rest, less _ _ q)

pub returns-then-not-fill-clause-too_small : goal.returns-then-not-fill-clause-too_small
returns-then-not-fill-clause-too_small g c = λ p. past _ _ p (subst (λ n. c.args.ct ≤ n) c.remaining.ensures c.if-remaining-ct.false)

pub returns-then-not-fill-clause-past_limit : goal.returns-then-not-fill-clause-past_limit
returns-then-not-fill-clause-past_limit g c = λ p. past _ _ p c.if-self-ct.false

pub returns-clause-room : goal.returns-clause-room
returns-clause-room g c = gone _ _ _ c.take_n-front.ensures.rest

pub returns-clause-used : goal.returns-clause-used
returns-clause-used g c = λ p q. (gone _ _ _ c.take_n-front.ensures.rest, less _ _ q)

pub returns-clause-too_small : goal.returns-clause-too_small
returns-clause-too_small g c = λ p. past _ _ p (subst (λ n. c.args.ct ≤ n) c.remaining.ensures c.if-remaining-ct.false)

pub returns-clause-past_limit : goal.returns-clause-past_limit
returns-clause-past_limit g c = λ p. past _ _ p c.if-self-ct.false

pub returns-then-not-fill-clause-reads : goal.returns-then-not-fill-clause-reads
returns-then-not-fill-clause-reads g c =
    let s = c.args.self.now in
    let n : length c.fill.new.buf ≡ c.args.ct = c.fill.auto.buf ∙ c.take_n-front.ensures.front in
    less_came _ _ s.failed c.fill.new.failed (length (ahead_of s.buffer.span)) (length (ahead_of c.take_n-front.new.self.span)) s.limit c.args.ct (length c.fill.new.buf) (c.fill.ensures.short c.if-not-fill.true) n c.if-self-ct.false (no_more _ _ _ c.take_n-front.ensures.rest)

pub returns-clause-reads : goal.returns-clause-reads
returns-clause-reads g c =
    let s = c.args.self.now in
    let n : length c.fill.new.buf ≡ c.args.ct = c.fill.auto.buf ∙ c.take_n-front.ensures.front in
    record {
      taken = c.fill.new.buf;
      gave = gave_filled _ _ s.failed c.fill.new.failed c.fill.new.buf (length (ahead_of s.buffer.span)) (length (ahead_of c.take_n-front.new.self.span)) s.limit c.args.ct (c.fill.ensures.full c.if-not-fill.false) n c.if-self-ct.false (at_most _ _ _ c.take_n-front.ensures.rest) (no_more _ _ _ c.take_n-front.ensures.rest);
      found = (refl, n);
    }
