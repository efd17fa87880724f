-- What comes of a piece, byte by byte, is what it changes in what is given of the stream.
use Rattle.std.proofs.Common.{◌≡◌, ℕ, zero, suc, ◌+◌, ◌<◌, ◌≤◌, List, [], ◌∷◌, ◌++◌, length, take, refl, sym, ap, ◌∙◌, subst, inl, inr, arith, add-one, append_assoc, append-nil, eq-eqb, ne_eqb, lt-ltb, le-ltb}
use Rattle.std.proofs.lemmas.Bool.{cases_eq, cases_lt}
use Rattle.postcard_tree.specs.Tree.{Tree}
use Rattle.link.specs.Link.{Verdict, Given, Begun, kept, over, IsBegun}
use Rattle.link.specs.Steps.{Event, quiet, ended, passed, end_of, event_at, begun_at, Course, course_on, course_of}
use Rattle.link.specs.Lemmas.FeedLaws.{AnswersEvent, begun_byte, given_byte}

module _ (limit s : ℕ) where
  end_some : (r p : List ℕ) → end_of r ≡ ended p → (p ≡ r) × (0 < length p)
  end_some [] p q = cc
  end_some (x ∷ r) p q = let same : p ≡ x ∷ r = cc in (same, omega (arith, ap length same))

  no_end_passed : (p : List ℕ) → end_of p ≡ passed → ⊥
  no_end_passed [] q = cc
  no_end_passed (b ∷ p) q = cc

  -- where a byte ends a stretch
  pub ends_where : (b : Begun) (byte : ℕ) (p : List ℕ) → event_at limit s b byte ≡ ended p
      → (byte ≡ s) × (b ≡ kept p)
  ends_where (kept r) byte p q = elim (cases_eq byte s) [
    | inl e ↦ (let k = end_some r p (rw (eq-eqb byte s e) at q) in (e, ap kept (sym k.0)))
    | inr ne ↦ elim (cases_lt (length r) limit) [
      | inl l ↦ (let k = rw (ne_eqb byte s ne, lt-ltb (length r) limit l) at q in cc)
      | inr l ↦ (let k = rw (ne_eqb byte s ne, le-ltb (length r) limit l) at q in cc)
    ]
  ]
  ends_where over byte p q = cc

  -- and where it is the one past the limit
  pub passes_where : (b : Begun) (byte : ℕ) → event_at limit s b byte ≡ passed
      → (r : List ℕ) × (b ≡ kept r) × (limit ≤ length r)
  passes_where (kept r) byte q = elim (cases_eq byte s) [
    | inl e ↦ absurd (no_end_passed r (rw (eq-eqb byte s e) at q))
    | inr ne ↦ elim (cases_lt (length r) limit) [
      | inl l ↦ (let k = rw (ne_eqb byte s ne, lt-ltb (length r) limit l) at q in cc)
      | inr l ↦ (r, refl, l)
    ]
  ]
  passes_where over byte q = cc

module _ (holds : List ℕ → Tree → Type 0) (limit s : ℕ) where
  -- the last byte that is used brings the event about
  pub record EndsCourse (b : Begun) (piece : List ℕ) (k : Course) : Type 0 where
    pub front : List ℕ
    pub byte : ℕ
    pub at : Begun
    pub bytes : take k.used piece ≡ front ++ byte ∷ []
    pub begun : (stream : List ℕ) → IsBegun limit s stream b → IsBegun limit s (stream ++ front) at
    pub event : event_at limit s at byte ≡ k.event

  -- the bytes that a course uses add the answers of its event and lead to what is begun then, and no fewer of them add any
  pub record Comes (b : Begun) (piece : List ℕ) (k : Course) : Type 0 where
    pub within : k.used ≤ length piece
    pub whole : k.event ≡ quiet → k.used ≡ length piece
    pub begun : (stream : List ℕ) → IsBegun limit s stream b
        → IsBegun limit s (stream ++ take k.used piece) k.begun
    pub given : (stream : List ℕ) (us vs : List Verdict) → IsBegun limit s stream b
        → Given holds limit s stream us → AnswersEvent holds limit k.event vs
        → Given holds limit s (stream ++ take k.used piece) (us ++ vs)
    pub least : (stream : List ℕ) (us : List Verdict) → IsBegun limit s stream b
        → Given holds limit s stream us
        → (u : ℕ) → u < k.used → Given holds limit s (stream ++ take u piece) us
    pub ends : (k.event ≡ quiet → ⊥) → EndsCourse b piece k

  no_bytes : (stream : List ℕ) (us : List Verdict) → Given holds limit s stream us
      → Given holds limit s (stream ++ []) us
  no_bytes stream us g = subst (λ x. Given holds limit s x us) (sym (append-nil stream)) g

  begun_still : (b : Begun) (stream : List ℕ) → IsBegun limit s stream b
      → IsBegun limit s (stream ++ []) b
  begun_still b stream i = subst (λ x. IsBegun limit s x b) (sym (append-nil stream)) i

  -- a byte that brings nothing about adds nothing
  given_quiet : (b : Begun) (stream : List ℕ) (byte : ℕ) (us : List Verdict)
      → event_at limit s b byte ≡ quiet
      → IsBegun limit s stream b → Given holds limit s stream us
      → Given holds limit s (stream ++ byte ∷ []) us
  given_quiet b stream byte us q i g =
      subst (Given holds limit s (stream ++ byte ∷ [])) (append-nil us) (given_byte holds limit s b stream byte us [] i g (subst (λ e. AnswersEvent holds limit e []) (sym q) refl))

  module _ (b : Begun) (byte : ℕ) (bytes : List ℕ) where
    comes_last : (e : Event) → event_at limit s b byte ≡ e → (e ≡ quiet → ⊥)
        → Comes b (byte ∷ bytes) (record { used = 1; event = e; begun = begun_at limit s b byte })
    comes_last e q n = record {
      within = omega arith;
      whole = λ x. absurd (n x);
      begun = λ stream i. begun_byte holds limit s b stream byte i;
      given = λ stream us vs i g h. given_byte holds limit s b stream byte us vs i g (subst (λ x. AnswersEvent holds limit x vs) (sym q) h);
      least = λ stream us i g u l. subst (λ n. Given holds limit s (stream ++ take n (byte ∷ bytes)) us) (let none : 0 ≡ u = omega arith in none) (no_bytes stream us g);
      ends = λ x. record { front = []; byte = byte; at = b; bytes = refl; begun = begun_still b; event = q };
    }

    module _ (later : Course) (r : Comes (begun_at limit s b byte) bytes later) (q : event_at limit s b byte ≡ quiet) where
      one_more : (n : ℕ) → byte ∷ take n bytes ≡ take (n + 1) (byte ∷ bytes)
      one_more n = rw (add-one n) refl

      onto : (stream : List ℕ) (n : ℕ)
          → (stream ++ byte ∷ []) ++ take n bytes ≡ stream ++ take (n + 1) (byte ∷ bytes)
      onto stream n = append_assoc stream (byte ∷ []) (take n bytes) ∙ ap (λ x. stream ++ x) (one_more n)

      least_on : (stream : List ℕ) (us : List Verdict) → IsBegun limit s stream b
          → Given holds limit s stream us
          → (u : ℕ) → u < later.used + 1 → Given holds limit s (stream ++ take u (byte ∷ bytes)) us
      least_on stream us i g zero l = no_bytes stream us g
      least_on stream us i g (suc v) l =
          subst (λ x. Given holds limit s x us) (append_assoc stream (byte ∷ []) (take v bytes)) (r.least (stream ++ byte ∷ []) us (begun_byte holds limit s b stream byte i) (given_quiet b stream byte us q i g) v (omega arith))

      comes_on : Comes b (byte ∷ bytes) (record { used = later.used + 1; event = later.event; begun = later.begun })
      comes_on = record {
        within = omega (arith, r.within);
        whole = λ e. omega (arith, r.whole e);
        begun = λ stream i. subst (λ x. IsBegun limit s x later.begun) (onto stream later.used) (r.begun (stream ++ byte ∷ []) (begun_byte holds limit s b stream byte i));
        given = λ stream us vs i g h. subst (λ x. Given holds limit s x (us ++ vs)) (onto stream later.used) (r.given (stream ++ byte ∷ []) us vs (begun_byte holds limit s b stream byte i) (given_quiet b stream byte us q i g) h);
        least = least_on;
        ends = λ n. let h = r.ends n in record {
          front = byte ∷ h.front;
          byte = h.byte;
          at = h.at;
          bytes = sym (one_more later.used) ∙ ap (λ x. byte ∷ x) h.bytes;
          begun = λ stream i. subst (λ x. IsBegun limit s x h.at) (append_assoc stream (byte ∷ []) h.front) (h.begun (stream ++ byte ∷ []) (begun_byte holds limit s b stream byte i));
          event = h.event;
        };
      }

    comes_step : (later : Course) → Comes (begun_at limit s b byte) bytes later
        → (e : Event) → event_at limit s b byte ≡ e
        → Comes b (byte ∷ bytes) (course_on e (begun_at limit s b byte) later)
    comes_step later r quiet q = comes_on later r q
    comes_step later r (ended p) q = comes_last (ended p) q (λ x. cc)
    comes_step later r passed q = comes_last passed q (λ x. cc)

  pub comes : (b : Begun) (piece : List ℕ) → Comes b piece (course_of limit s b piece)
  comes b [] = record {
    within = omega arith;
    whole = λ e. refl;
    begun = begun_still b;
    given = λ stream us vs i g h. subst (λ x. Given holds limit s (stream ++ []) (us ++ x)) (sym h) (subst (Given holds limit s (stream ++ [])) (sym (append-nil us)) (no_bytes stream us g));
    least = λ stream us i g u l. absurd (omega arith);
    ends = λ n. absurd (n refl);
  }
  comes b (byte ∷ bytes) = comes_step b byte bytes (course_of limit s (begun_at limit s b byte) bytes) (comes (begun_at limit s b byte) bytes) (event_at limit s b byte) refl
