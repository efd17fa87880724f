-- What a receiver answers to a piece is what is added to the answers of the stream.
use Rattle.std.proofs.Common.{◌≡◌, ℕ, ◌≤◌, List, [], ◌∷◌, ◌++◌, length, take, Option, Some, None, Result, Ok, Err, refl, sym, ap, ◌∙◌, subst, append_assoc, ◌+◌, ◌-◌, arith, length-append, length-take, take-take, option_to_list}
use Rattle.cobs.specs.Frames.{Frame}
use Rattle.postcard_tree.specs.Tree.{Tree}
use Rattle.link.specs.Stream.{Verdict, value, damaged, too_long, unfinished, Begun, kept, begun}
use Rattle.link.specs.Steps.{Event, quiet, ended, passed, course_of}
use Rattle.link.specs.Pushes.{IsBegun, IsLeast, IsPush, IsLost, Matches, Answered, IsStretchOf}
use Rattle.link.specs.Finds.{Replies, IsSpan}
use Rattle.link.specs.declared.receiver.Answer.{Answer}
use Rattle.link.specs.declared.receiver.Answer.TheVariants.{Value, Damaged, TooLong, Cut}
use Rattle.link.specs.declared.receiver.NoMemory.{NoMemory}
use Rattle.link.specs.Lemmas.FeedLaws.{AnswersEvent, is_short, none_behind}
use Rattle.link.specs.Lemmas.CourseLaws.{comes, ends_where, passes_where}
use Rattle.std.proofs.Math.Seq.{take-append_seam}

module _ (holds : List ℕ → Tree → Type 0) (limit s : ℕ) (b : Begun) (piece stream : List ℕ) (i : IsBegun limit s stream b) where
  is_least : IsLeast holds limit s stream piece (course_of limit s b piece).used
  is_least = record { same = λ answers g u l. (comes holds limit s b piece).least stream answers i g u l }

  is_push : (a : Option Verdict) → AnswersEvent holds limit (course_of limit s b piece).event (option_to_list a) → (a ≡ None → (course_of limit s b piece).event ≡ quiet) → IsPush holds limit s stream piece (course_of limit s b piece).used a
  is_push a h q = record {
    gives = λ answers g. (comes holds limit s b piece).given stream answers (option_to_list a) i g h;
    least = is_least;
    whole = λ e. (comes holds limit s b piece).whole (q e);
  }

  -- what stands before the sentinel of a stretch
  pub stretch_ends : (p : List ℕ) → (course_of limit s b piece).event ≡ ended p
      → (front : List ℕ) × (take (course_of limit s b piece).used piece ≡ front ++ s ∷ [])
      × IsBegun limit s (stream ++ front) (kept p)
  stretch_ends p e =
      let h = (comes holds limit s b piece).ends (λ q. cc) in
      let w = ends_where limit s h.at h.byte p (h.event ∙ e) in
      (h.front, h.bytes ∙ ap (λ x. h.front ++ x ∷ []) w.0, subst (IsBegun limit s (stream ++ h.front)) w.1 (h.begun stream i))

  stretch_within : (p : List ℕ) → (course_of limit s b piece).event ≡ ended p → length p ≤ limit
  stretch_within p e =
      let h = stretch_ends p e in
      let k = is_short limit (unfinished s (stream ++ h.0)) p h.2 in
      subst (λ x. length x ≤ limit) k.0 k.1

  is_lost : (p m : List ℕ) → (course_of limit s b piece).event ≡ ended p → Frame p m → IsLost holds limit s stream piece (course_of limit s b piece).used
  is_lost p m e f =
      let h = stretch_ends p e in
      record {
        front = h.0;
        stretch = p;
        message = m;
        bytes = h.1;
        begun = h.2;
        frame = f;
        after = subst (λ x. IsBegun limit s x (kept [])) (append_assoc stream h.0 (s ∷ []) ∙ ap (λ x. stream ++ x) (sym h.1)) (none_behind s (stream ++ h.0) limit);
        least = is_least;
      }

  module _ {V : Type 0} (reads : Tree → V → Type 0) where
    -- an answer that is of this verdict
    says : (e : Event) (x : Answer V) (y : Verdict) → (course_of limit s b piece).event ≡ e → AnswersEvent holds limit e (y ∷ []) → Matches reads x y
        → Answered holds reads limit s stream piece (course_of limit s b piece).used (Ok (Some x))
    says e x y q h m = (Some y, (y, m, refl), is_push (Some y) (subst (λ z. AnswersEvent holds limit z (y ∷ [])) (sym q) h) (λ n. cc))

    reply : (e : Event) (r : Result (Option (Answer V)) NoMemory) → (course_of limit s b piece).event ≡ e → Replies holds reads e r → Answered holds reads limit s stream piece (course_of limit s b piece).used r
    reply quiet (Ok None) q h = (None, refl, is_push None (subst (λ z. AnswersEvent holds limit z []) (sym q) refl) (λ n. q))
    reply quiet (Ok (Some x)) q h = cc
    reply quiet (Err e) q h = cc
    reply passed (Ok None) q h = cc
    reply passed (Ok (Some (Value v))) q h = cc
    reply passed (Ok (Some Damaged)) q h = cc
    reply passed (Ok (Some TooLong)) q h = says passed TooLong too_long q refl refl
    reply passed (Ok (Some Cut)) q h = cc
    reply passed (Err e) q h = cc
    reply (ended p) (Ok None) q h = absurd h
    reply (ended p) (Ok (Some (Value v))) q h = says (ended p) (Value v) (value h.0) q (value h.0, (stretch_within p q, h.1), refl) (h.0, h.2, refl)
    reply (ended p) (Ok (Some Damaged)) q h = says (ended p) Damaged damaged q (damaged, (stretch_within p q, h), refl) refl
    reply (ended p) (Ok (Some TooLong)) q h = absurd h
    reply (ended p) (Ok (Some Cut)) q h = absurd h
    reply (ended p) (Err e) q h = is_lost p h.0 q h.1

    -- the answer of a push, by what came of its piece
    pub answered : (used : ℕ) (r : Result (Option (Answer V)) NoMemory) → used ≡ (course_of limit s b piece).used → Replies holds reads (course_of limit s b piece).event r → Answered holds reads limit s stream piece used r
    answered used r e h = subst (λ n. Answered holds reads limit s stream piece n r) (sym e) (reply (course_of limit s b piece).event r refl h)

-- where taking a piece leaves a receiver
pub behind_after : (limit s : ℕ) (At : Begun → Type 0) (stream piece : List ℕ) (used : ℕ) → used ≡ (course_of limit s (begun limit s stream) piece).used
    → At (course_of limit s (begun limit s stream) piece).begun → At (begun limit s (stream ++ take used piece))
behind_after limit s At stream piece used e a =
    let k = comes (λ p t. ⊥) limit s (begun limit s stream) piece in
    subst At (k.begun stream refl ∙ ap (λ n. begun limit s (stream ++ take n piece)) (sym e)) a

-- what stands before the last byte that was used
before_last : (used : ℕ) (piece front : List ℕ) (byte : ℕ) → used ≤ length piece → take used piece ≡ front ++ (byte ∷ []) → take (used - 1) piece ≡ front
before_last used piece front byte l e =
    let n = length front in
    let whole : used ≡ n + 1 = omega (arith, l, ap length e, length-append front (byte ∷ []), length-take used piece) in
    let less : used - 1 ≡ n = omega (arith, whole) in
    ap (λ k. take k piece) less ∙ sym (take-take n used piece (omega (arith, whole))) ∙ ap (take n) e ∙ take-append_seam front (byte ∷ [])

module _ {V : Type 0} (holds : List ℕ → Tree → Type 0) (reads : Tree → V → Type 0) (limit s : ℕ) (stream piece : List ℕ) where
  -- an unfinished stretch before the last byte
  stretch_before : (used : ℕ) (front p : List ℕ) (byte : ℕ) → used ≤ length piece → take used piece ≡ front ++ (byte ∷ []) → IsBegun limit s (stream ++ front) (kept p)
      → (length p ≡ length (unfinished s (stream ++ take (used - 1) piece))) × (length p ≤ limit)
  stretch_before used front p byte l e i =
      let h = is_short limit (unfinished s (stream ++ front)) p i in (
        ap length (sym h.0) ∙ ap (λ x. length (unfinished s (stream ++ x))) (sym (before_last used piece front byte l e)),
        subst (λ x. length x ≤ limit) h.0 h.1,
      )

  of_answer : (used n : ℕ) (r : Result (Option (Answer V)) NoMemory) → (r ≡ Ok None → ⊥) → n ≡ length (unfinished s (stream ++ take (used - 1) piece)) → IsStretchOf s stream piece used r n
  of_answer used n (Ok None) m e = absurd (m refl)
  of_answer used n (Ok (Some a)) m e = e
  of_answer used n (Err x) m e = e

  some_answer : (p : List ℕ) (r : Result (Option (Answer V)) NoMemory) → Replies holds reads (ended p) r → r ≡ Ok None → ⊥
  some_answer p (Ok None) h e = absurd h
  some_answer p (Ok (Some a)) h e = cc
  some_answer p (Err x) h e = cc

  by_event : (n : ℕ) (r : Result (Option (Answer V)) NoMemory) (e : Event) → (course_of limit s (begun limit s stream) piece).event ≡ e → Replies holds reads e r → IsSpan limit e n
      → IsStretchOf s stream piece (course_of limit s (begun limit s stream) piece).used r n
  by_event n r quiet q h k = subst (λ x. IsStretchOf s stream piece (course_of limit s (begun limit s stream) piece).used x n) (sym h) k
  by_event n r (ended p) q h k =
      let b = begun limit s stream in
      let c = comes holds limit s b piece in
      let f = stretch_ends holds limit s b piece stream refl p q in
      let z = stretch_before (course_of limit s b piece).used f.0 p s c.within f.1 f.2 in
      of_answer (course_of limit s b piece).used n r (some_answer p r h) (k ∙ z.0)
  by_event n r passed q h k =
      let b = begun limit s stream in
      let c = comes holds limit s b piece in
      let f = c.ends (λ x. cc) in
      let w = passes_where limit s f.at f.byte (f.event ∙ q) in
      let at = subst (IsBegun limit s (stream ++ f.front)) w.1 (f.begun stream refl) in
      let z = stretch_before (course_of limit s b piece).used f.front w.0 f.byte c.within f.bytes at in
      let same : n ≡ length w.0 = omega (arith, k, w.2, z.1) in
      of_answer (course_of limit s b piece).used n r (λ e. cc) (same ∙ z.0)

  -- how long the stretch was, by what is behind what was found
  pub stretch_of : (used n : ℕ) (r : Result (Option (Answer V)) NoMemory) → used ≡ (course_of limit s (begun limit s stream) piece).used → Replies holds reads (course_of limit s (begun limit s stream) piece).event r
      → IsSpan limit (course_of limit s (begun limit s stream) piece).event n → IsStretchOf s stream piece used r n
  stretch_of used n r e h k = subst (λ u. IsStretchOf s stream piece u r n) (sym e) (by_event n r (course_of limit s (begun limit s stream) piece).event refl h k)
