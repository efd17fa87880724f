-- What bytes and runs do to a receiver, and what it says of where it stands.
use Rattle.std.proofs.Common.{◌≡◌, ℕ, zero, ◌<◌, ◌≤◌, Bool, true, false, List, [], ◌∷◌, length, take, Some, None, refl, sym, ap, subst, arith, eq-eqb, IsTrue, nat_eq, eqb-true, suc, ◌+◌, ◌++◌, drop, get_or, ◌∙◌, length-append, take-append-drop}
use Rattle.std.proofs.lemmas.List.{length-take-le}
use Rattle.cobs.specs.Frames.{NoZero}
use Rattle.cobs.specs.InPlace.{stretch, written_over}
use Rattle.cobs.specs.Sentinel.{masked}
use Rattle.link.specs.Link.{Begun, kept, over, begun_length, finished}
use Rattle.link.specs.Receivers.{Has, IsAtBy}
use Rattle.link.specs.Lemmas.MaskLaws.{masked_length, NoZero-append}
use Rattle.link.specs.declared.receiver.Answer.TheVariants.{Cut}
use Rattle.link.specs.Steps.{event_at, ended, RunsOn}
use Rattle.link.specs.Finds.{IsSpan}
use Rattle.link.specs.Lemmas.RunLaws.{over_on, run_of, runs_on, sentinel_behind}
use Rattle.link.proofs.BufferLemmas.{front_written, written_length}

-- the limit is how long the buffer is
pub limit_at : (limit s : ℕ) (buffer : List ℕ) (count : ℕ) (past : _) (b : Begun) → IsAtBy limit s buffer count past b → length buffer ≡ limit
limit_at limit s buffer count past (kept p) h = h.1.room
limit_at limit s buffer count past over h = h.1.room

module _ (limit s : ℕ) (buffer : List ℕ) (count : ℕ) (past : Bool) where
  pub kept_is : (b : Begun) → past ≡ false → IsAtBy limit s buffer count past b → (p : List ℕ) × (b ≡ kept p) × Has limit s buffer count p
  kept_is (kept p) e i = (p, refl, i.1)
  kept_is over e i = let h : past ≡ true = i.0 in cc

-- a buffer that holds nothing
pub has_nothing : (limit s : ℕ) (buffer : List ℕ) (count : ℕ) → count ≡ 0 → length buffer ≡ limit → Has limit s buffer count []
has_nothing limit s buffer count none room = record {
  room = room;
  held = rw none refl;
  counted = none;
  within = omega arith;
  nonzero = tt;
}

module _ (limit s : ℕ) (buffer : List ℕ) (count : ℕ) (past : Bool) where
  counted : (b : Begun) → past ≡ false → IsAtBy limit s buffer count past b → count ≡ 0 → b ≡ kept []
  counted (kept []) e h z = refl
  counted (kept (x ∷ p)) e h z = absurd (omega (arith, h.1.counted))
  counted over e h z = let k : past ≡ true = h.0 in cc

  none_kept : (b : Begun) → IsAtBy limit s buffer count past b → b ≡ kept [] → (count ≡ 0) × (past ≡ false)
  none_kept (kept []) h e = (omega (arith, h.1.counted), h.0)
  none_kept (kept (x ∷ p)) h e = cc
  none_kept over h e = cc

  pub between_counted : (b : Begun) → past ≡ false → IsAtBy limit s buffer count past b → (IsTrue (nat_eq count 0) → b ≡ kept []) × (b ≡ kept [] → IsTrue (nat_eq count 0))
  between_counted b e h = (λ t. counted b e h (eqb-true count 0 t), λ k. (let z = none_kept b h k in eq-eqb count 0 z.0))

  pub never_between : (b : Begun) → past ≡ true → IsAtBy limit s buffer count past b → b ≡ kept [] → ⊥
  never_between b e h k = let z = none_kept b h k in let w = z.1 in cc

  -- how many bytes are begun
  pub counted_begun : (b : Begun) → IsAtBy limit s buffer count past b → count ≡ begun_length b
  counted_begun (kept p) h = h.1.counted
  counted_begun over h = h.1.counted

  -- what finishing answers
  pub finish_past : {V : Type 0} (b : Begun) → past ≡ true → IsAtBy limit s buffer count past b → None ≡ finished {V = V} b
  finish_past (kept p) e h = let k : past ≡ false = h.0 in cc
  finish_past over e h = refl

  pub finish_none : {V : Type 0} (b : Begun) → count ≡ 0 → IsAtBy limit s buffer count past b → None ≡ finished {V = V} b
  finish_none (kept []) e h = refl
  finish_none (kept (x ∷ p)) e h = absurd (omega (arith, h.1.counted))
  finish_none over e h = refl

  pub finish_some : {V : Type 0} (b : Begun) → past ≡ false → (count ≡ 0 → ⊥) → IsAtBy limit s buffer count past b → Some Cut ≡ finished {V = V} b
  finish_some (kept []) e n h = absurd (n (omega (arith, h.1.counted)))
  finish_some (kept (x ∷ p)) e n h = refl
  finish_some over e n h = let k : past ≡ true = h.0 in cc

pub has_run : (limit s : ℕ) (old new : List ℕ) (count m : ℕ) (p x : List ℕ) → Has limit s old count p → m ≡ count + length x → NoZero x → count + length x ≤ limit
    → new ≡ written_over count x old → Has limit s new m (p ++ x)
has_run limit s old new count m p x h r z l w =
    let short : count + length x ≤ length old = omega (arith, l, h.room) in
    record {
      room = ap length w ∙ written_length count old x short ∙ h.room;
      held = ap (take m) w ∙ front_written count m old x (drop (count + length x) old) (omega (arith, short)) r ∙ ap (λ y. y ++ x) h.held;
      counted = omega (arith, r, h.counted, length-append p x);
      within = omega (arith, l, h.counted, length-append p x);
      nonzero = NoZero-append p x h.nonzero z;
    }

-- a sentinel behind bytes that were begun ends them
pub sentinel_ends : (limit s : ℕ) (buffer : List ℕ) (count : ℕ) (past : Bool) (b : Begun) → past ≡ false → (count ≡ 0 → ⊥) → IsAtBy limit s buffer count past b
    → (p : List ℕ) × (b ≡ kept p) × (0 < length p) × (event_at limit s b s ≡ ended p)
sentinel_ends limit s buffer count past (kept []) e n h = absurd (n h.1.counted)
sentinel_ends limit s buffer count past (kept (x ∷ p)) e n h = (x ∷ p, refl, omega arith, rw (eq-eqb s s refl) refl)
sentinel_ends limit s buffer count past over e n h = let k : past ≡ true = h.0 in absurd (cc)

-- a stretch that isn't empty, and its message
pub some_bytes : (p : List ℕ) → 0 < length p → p ≡ [] → ⊥
some_bytes p l e = omega (arith, l, ap length e)

pub some_masked : (s : ℕ) (p : List ℕ) → 0 < length p → masked s p ≡ [] → ⊥
some_masked s p l e = omega (arith, l, ap length e, masked_length s p)

-- of a stretch that is too long nothing is said
pub runs_over : (limit s : ℕ) (buffer : List ℕ) (count : ℕ) (past : Bool) (b : Begun) (x : List ℕ) (At : Begun → Type 0) → past ≡ true → IsAtBy limit s buffer count past b → At b → NoZero (masked s x) → RunsOn limit s b x At
runs_over limit s inside count past (kept p) x At e i h z = absurd (let no : past ≡ false = i.0 in let w : true ≡ false = sym e ∙ no in cc)
runs_over limit s inside count past over x At e i h z = record { now = over; at = h; rest = λ later. over_on limit s x later z }

-- a run that is held
pub holds_run : (limit s own : ℕ) (old new : List ℕ) (count m : ℕ) (past : Bool) (b : Begun) (run : List ℕ) (At : Begun → Type 0) → own ≡ s → past ≡ false → IsAtBy limit s old count past b
    → NoZero (masked own run) → count + length run ≤ length old → new ≡ written_over count (masked own run) old → m ≡ count + length run
    → ((c : Begun) → IsAtBy limit s new m past c → At c) → RunsOn limit s b run At
holds_run limit s own old new count m past b run At d e i z l w h at =
    let k = kept_is limit s old count past b e i in
    let x = masked s run in
    let z' = subst (λ k. NoZero (masked k run)) d z in
    let long = masked_length s run in
    let near : length k.0 + length run ≤ limit = omega (arith, l, k.2.counted, k.2.room) in
    runs_on limit s b k.0 run At k.1 z' near
    (at (kept (k.0 ++ x)) (e, has_run limit s old new count m k.0 x k.2 (omega (arith, h, long)) z' (omega (arith, near, long, k.2.counted)) (subst (λ k. new ≡ written_over count (masked k run) old) d w)))

-- the same of the bytes before the first sentinel
pub holds_front : (limit s own : ℕ) (old new : List ℕ) (count m n : ℕ) (past : Bool) (b : Begun) (bytes : List ℕ) (At : Begun → Type 0) → own ≡ s → past ≡ false → IsAtBy limit s old count past b
    → n ≤ length bytes → NoZero (masked own (take n bytes)) → count + length bytes ≤ length old → new ≡ written_over count (masked own (take n bytes)) old → m ≡ count + n
    → ((c : Begun) → IsAtBy limit s new m past c → At c) → RunsOn limit s b (take n bytes) At
holds_front limit s own old new count m n past b bytes At d e i w z l h k at =
    let sized = length-take-le n bytes w in
    holds_run limit s own old new count m past b (take n bytes) At d e i z (omega (arith, sized, w, l)) h (omega (arith, sized, k)) at

-- the byte at a position is the sentinel
pub marked_at : (own s n : ℕ) (bytes : List ℕ) → own ≡ s → n < length bytes → get_or bytes n 0 ≡ own → drop n bytes ≡ s ∷ drop (n + 1) bytes
marked_at own s n [] d l e = absurd (omega (arith, l))
marked_at own s zero (b ∷ bytes) d l e = ap (λ c. c ∷ bytes) (e ∙ d)
marked_at own s (suc n) (b ∷ bytes) d l e =
    let next : suc (n + 1) ≡ suc n + 1 = omega arith in
    marked_at own s n bytes d (omega (arith, l)) e ∙ ap (λ k. s ∷ drop k (b ∷ bytes)) next

-- Bytes are cut before their first sentinel.
pub record IsCut (s : ℕ) (bytes run behind : List ℕ) (size : ℕ) : Type 0 where
  pub parts : bytes ≡ run ++ behind
  pub nonzero : NoZero (masked s run)
  pub marked : 0 < length behind → behind ≡ s ∷ drop (size + 1) bytes

pub is_cut : (own s : ℕ) (bytes run behind : List ℕ) (size : ℕ) → own ≡ s
    → size ≡ length (stretch (masked own bytes)) → run ≡ take size bytes → behind ≡ drop size bytes
    → IsCut s bytes run behind size
is_cut own s bytes run behind size d e f h =
    let before = subst (λ n. size ≡ length (stretch (masked n bytes))) d e in
    record {
      parts = sym (take-append-drop size bytes) ∙ ap (λ x. x ++ drop size bytes) (sym f)
          ∙ ap (λ x. run ++ x) (sym h);
      nonzero = run_of s bytes run size before f;
      marked = sentinel_behind s bytes behind size before h;
    }

-- how many bytes of a stretch stand before its sentinel
pub span_at : (limit s : ℕ) (buffer : List ℕ) (count : ℕ) (past : Bool) (b : Begun) → IsAtBy limit s buffer count past b → IsSpan limit (event_at limit s b s) count
span_at limit s inside count past (kept []) h = rw (eq-eqb s s refl) h.1.counted
span_at limit s inside count past (kept (x ∷ p)) h = rw (eq-eqb s s refl) h.1.counted
span_at limit s inside count past over h = h.1.counted
