-- What the bytes before the first zero are.
use Rattle.std.proofs.Common.{◌≡◌, ℕ, zero, suc, pred, ◌+◌, ◌<◌, ◌≤◌, ◌==◌, nat_lt, if◌then◌else◌, Bool, true, false, List, [], ◌∷◌, ◌++◌, length, take, drop, get_or, refl, sym, ◌∙◌, ap, subst, arith, length-append, ◌⊎◌, inl, inr, min, Result, Ok, Err}
use Rattle.std.proofs.lemmas.List.{length-take-le, take_at, take_all, take-append-le, take_more, take_more_set}
use Rattle.std.proofs.Common.{append_assoc, ◌-◌, length-drop}
use borrow.Rule.Slice.PartMut.{put_mid, post_of}
use Rattle.postcard.proofs.MasksLemmas.{masked_length, masked_append, masked_take, xor_twice}
use Rattle.std.proofs.lemmas.Nat.{xor_comm}
use Rattle.std.specs.Prelude.{bit_xor, slice_set}
use Rattle.std.proofs.lemmas.Bool.{ne_eqb, le-ltb}
use Rattle.std.specs.List.{AllByRecursion}
use Rattle.cobs.specs.Frames.{Frame, spelled, block, part, part_from, missing}
use Rattle.cobs.specs.InPlace.{stretch, in_place, overwritten}
use Rattle.cobs.specs.FrameLaws.{HasOneMessage, EndsWithItsBlock, IsFrameAtBlockEnd}
use Rattle.cobs.specs.DecodingLaws.{DecodesFrames, RefusesSources, DecodesStretches, RefusesStretches}
use Rattle.cobs.specs.Sentinel.{masked}
use Rattle.cobs.specs.Whole.{unpadded, frame_in, decoded_from, decoded_into}
use Rattle.cobs.specs.Reports.{report, parsed_size, frame_size}
use Rattle.cobs.specs.declared.dec.report.DecodeReport.{DecodeReport}
use Rattle.cobs.specs.declared.dec.report.DecodeError.{DecodeError}
use Rattle.cobs.specs.declared.dec.report.DecodeError.TheVariants.{InvalidFrame}

abbrev pub IsClear : List ℕ → Type 0
IsClear = AllByRecursion (λ x. (0 < x) × (x < 256))

clear_cons : (b : ℕ) (rest : List ℕ) → b < 256 → IsClear rest → IsClear (if b == 0 then [] else (b ∷ rest))
clear_cons zero rest p h = tt
clear_cons (suc b) rest p h = rw (ne_eqb (suc b) 0 (λ e. omega (arith, e))) ((omega arith, p), h)

pub clear_stretch : (s : List ℕ) → ((k : ℕ) → get_or s k 0 < 256) → IsClear (stretch s)
clear_stretch [] h = tt
clear_stretch (b ∷ s) h = clear_cons b (stretch s) (h 0) (clear_stretch s (λ k. h (suc k)))

short_cons : (b : ℕ) (rest : List ℕ) (n : ℕ) → length rest ≤ n → length (if b == 0 then [] else (b ∷ rest)) ≤ n + 1
short_cons zero rest n p = omega arith
short_cons (suc b) rest n p = rw (ne_eqb (suc b) 0 (λ e. omega (arith, e))) (omega (arith, p))

pub stretch_short : (s : List ℕ) → length (stretch s) ≤ length s
stretch_short [] = omega arith
stretch_short (b ∷ s) = omega (arith, short_cons b (stretch s) (length s) (stretch_short s))

part_short : (left : ℕ) (owed : Bool) (s : List ℕ) → length (part_from left owed s) ≤ length s
part_short left owed [] = omega arith
part_short zero true (c ∷ s) = omega (arith, part_short (pred c) (nat_lt c 255) s)
part_short zero false (c ∷ s) = omega (arith, part_short (pred c) (nat_lt c 255) s)
part_short (suc left) owed (c ∷ s) = omega (arith, part_short left owed s)

split : {A : Type 0} (n : ℕ) (x y : A) → ((n ≡ 0) × ((if n == 0 then x else y) ≡ x)) ⊎ ((n ≡ 0 → ⊥) × ((if n == 0 then x else y) ≡ y))
split zero x y = inl (refl, refl)
split (suc n) x y = inr ((λ e. absurd (omega (arith, e))), rw (ne_eqb (suc n) 0 (λ e. omega (arith, e))) refl)

-- what a report says
pub record Reports (f : List ℕ) (r : DecodeReport) : Type 0 where
  pub parsed : parsed_size r ≡ length f
  pub decoded : frame_size r ≡ length (part f)
  pub ends : missing f ≡ 0

pub reports : (f : List ℕ) (r : DecodeReport) → Ok r ≡ in_place f → Reports f r
reports f r e =
    elim (split {A = Result DecodeReport DecodeError} (missing f) (Ok (report (length f) (length (part f)))) (Err (InvalidFrame (length (part f))))) [
      | inl p ↦ let q : r ≡ report (length f) (length (part f)) = let k = e ∙ p.1 in cc in record { parsed = ap parsed_size q; decoded = ap frame_size q; ends = p.0 }
      | inr p ↦ absurd (let q = e ∙ p.1 in cc)
    ]

pub never_empty : (f m : List ℕ) → length f ≡ 0 → Frame f m → ⊥
never_empty f m e h = absurd (omega (arith, e, ap length h.spells, long h.first h.others)) where
  long : (run : List ℕ) (runs : List (List ℕ)) → 0 < length (spelled run runs)
  long run [] = omega arith
  long run (next ∷ runs) = omega (arith, length-append (block run) (spelled next runs))

-- the message of a frame that was decoded in place
pub unframed : (f new : List ℕ) (r : DecodeReport) → Reports f r → (parsed_size r ≡ 0 → ⊥) → ((f ≡ [] → ⊥) → Frame f (take (frame_size r) new)) → (parsed_size r ≡ length f) × (frame_size r ≤ parsed_size r) × Frame f (take (frame_size r) new)
unframed f new r p n h = (p.parsed, omega (arith, p.parsed, p.decoded, part_short 0 false f), h (λ e. n (p.parsed ∙ ap length e)))

-- what is decoded is no longer than the bytes
pub masked_short : (s : ℕ) (bytes : List ℕ) → length (stretch (masked s bytes)) ≤ length bytes
masked_short s bytes = omega (arith, stretch_short (masked s bytes), masked_length s bytes)

-- a byte alone that isn't the sentinel
pub alone_clear : (s : ℕ) (bytes : List ℕ) → length bytes ≡ 1 → (get_or bytes 0 0 ≡ s → ⊥) → stretch (masked s bytes) ≡ masked s bytes
alone_clear s [] n e = absurd (omega (arith, n))
alone_clear s (b ∷ []) n e = rw (ne_eqb (bit_xor s b) 0 (λ z. e (sym (xor_twice s b) ∙ ap (bit_xor s) z ∙ xor_comm s 0))) refl
alone_clear s (b ∷ c ∷ rest) n e = absurd (omega (arith, n))

-- where there is no zero
whole_cons : (b : ℕ) (s : List ℕ) → (length (stretch s) ≡ length s → stretch s ≡ s) → length (stretch (b ∷ s)) ≡ length (b ∷ s) → stretch (b ∷ s) ≡ b ∷ s
whole_cons zero s f e = absurd (omega (arith, e))
whole_cons (suc b) s f e = let p = ne_eqb (suc b) 0 (λ e. omega (arith, e)) in let e' = rw p at e in rw p (ap (λ x. suc b ∷ x) (f (omega (arith, e'))))

pub stretch_whole : (s : List ℕ) → length (stretch s) ≡ length s → stretch s ≡ s
stretch_whole [] e = refl
stretch_whole (b ∷ s) e = whole_cons b s (stretch_whole s) e

tails : (x y : ℕ) (p q : List ℕ) → x ∷ p ≡ y ∷ q → p ≡ q
tails x y p q e = cc

behind_cons : (b : ℕ) (a s : List ℕ) → (stretch a ≡ a → stretch (a ++ s) ≡ a ++ stretch s) → stretch (b ∷ a) ≡ b ∷ a → stretch ((b ∷ a) ++ s) ≡ (b ∷ a) ++ stretch s
behind_cons zero a s f e = absurd (omega (arith, ap length e))
behind_cons (suc b) a s f e = let p = ne_eqb (suc b) 0 (λ e. omega (arith, e)) in let e' = rw p at e in rw p (ap (λ x. suc b ∷ x) (f (tails _ _ _ _ e')))

-- behind bytes without a zero
pub stretch_behind : (a s : List ℕ) → stretch a ≡ a → stretch (a ++ s) ≡ a ++ stretch s
stretch_behind [] s e = refl
stretch_behind (b ∷ a) s e = behind_cons b a s (stretch_behind a s) e

-- bytes that were copied behind a front
pub put_filled : (i k : ℕ) (xs ys : List ℕ) → i ≤ length xs → take (i + length ys) (put_mid i k xs ys) ≡ take i xs ++ ys
put_filled i k xs ys h =
    ap (take (i + length ys)) (sym (append_assoc (take i xs) ys (post_of i k xs)))
    ∙ take_at (take i xs ++ ys) (post_of i k xs) (i + length ys) (omega (arith, length-append (take i xs) ys, length-take-le i xs h))

-- clear bytes behind clear ones
pub clear_behind : (s : ℕ) (held input both : List ℕ) → both ≡ held ++ input → stretch (masked s held) ≡ masked s held → stretch (masked s input) ≡ masked s input → stretch (masked s both) ≡ masked s both
clear_behind s held input both e c d =
    let p : masked s both ≡ masked s held ++ masked s input = ap (masked s) e ∙ masked_append s held input in
    ap stretch p ∙ (stretch_behind (masked s held) (masked s input) c ∙ ap (λ x. masked s held ++ x) d) ∙ sym p

-- one byte more was put behind a front
pub put_more : (i place : ℕ) (start now bytes : List ℕ) → place + i < length now → i < length bytes → take (place + i) now ≡ take place start ++ take i bytes
    → take (place + (i + 1)) (slice_set now (place + i) (get_or bytes i 0)) ≡ take place start ++ take (i + 1) bytes
put_more i place start now bytes p q e =
    let n : place + (i + 1) ≡ place + i + 1 = omega arith in
    let b = get_or bytes i 0 in
    ap (λ m. take m (slice_set now (place + i) b)) n ∙ take_more_set now (place + i) b p ∙ ap (λ x. x ++ b ∷ []) e
    ∙ append_assoc (take place start) (take i bytes) (b ∷ []) ∙ ap (λ x. take place start ++ x) (sym (take_more bytes i 0 q))

pub put_copied : (i k : ℕ) (xs ys zs : List ℕ) → i ≤ length xs → zs ≡ ys → take (i + length ys) (put_mid i k xs zs) ≡ take i xs ++ ys
put_copied i k xs ys zs h z = rw z (put_filled i k xs ys h)

pub take_rest : (n : ℕ) (xs : List ℕ) → take (length xs - n) (drop n xs) ≡ drop n xs
take_rest n xs = take_all (length xs - n) (drop n xs) (omega (arith, length-drop n xs))

-- a message at the front of what was decoded, before a rest
pub message_front : (n size used : ℕ) (s t rest f : List ℕ) → length t ≡ length s → (used ≡ length (stretch (masked n s))) × (size ≤ used) × Frame (stretch (masked n s)) (take size t) → s ≡ f
    → (size ≤ length (t ++ rest)) × Frame (stretch (masked n f)) (take size (t ++ rest))
message_front n size used s t rest f l h e =
    let m : size ≤ length t = omega (arith, h.0, h.1, masked_short n s, l) in
    (omega (arith, m, length-append t rest), subst (λ x. Frame (stretch (masked n x)) (take size (t ++ rest))) e (subst (λ x. Frame (stretch (masked n s)) x) (sym (take-append-le size t rest m)) h.2))

stretch_cons : (b : ℕ) (s : List ℕ) → (stretch (stretch s) ≡ stretch s) → (take (length (stretch s)) s ≡ stretch s) → (stretch (stretch (b ∷ s)) ≡ stretch (b ∷ s)) × (take (length (stretch (b ∷ s))) (b ∷ s) ≡ stretch (b ∷ s))
stretch_cons zero s h k = (refl, refl)
stretch_cons (suc b) s h k =
    let p = ne_eqb (suc b) 0 (λ e. omega (arith, e)) in
    let q : stretch (suc b ∷ s) ≡ suc b ∷ stretch s = rw p refl in
    let again : stretch (suc b ∷ stretch s) ≡ suc b ∷ stretch s = rw p (ap (λ x. suc b ∷ x) h) in
    (ap stretch q ∙ again ∙ sym q, ap (λ x. take (length x) (suc b ∷ s)) q ∙ ap (λ x. suc b ∷ x) k ∙ sym q)

stretch_stays : (s : List ℕ) → (stretch (stretch s) ≡ stretch s) × (take (length (stretch s)) s ≡ stretch s)
stretch_stays [] = (refl, refl)
stretch_stays (b ∷ s) = let i = stretch_stays s in stretch_cons b s i.0 i.1

-- a byte before the first zero
pub stretch_byte : (b : ℕ) (x : List ℕ) → (b ≡ 0 → ⊥) → stretch (b ∷ x) ≡ b ∷ stretch x
stretch_byte b x n = rw (ne_eqb b 0 n) refl

-- what is held, and the input before its first sentinel
take_before : (s : List ℕ) (n : ℕ) → n ≡ length (stretch s) → take n s ≡ stretch s
take_before s n e = ap (λ k. take k s) e ∙ (stretch_stays s).1

pub clear_before : (s n : ℕ) (bytes : List ℕ) → n ≡ length (stretch (masked s bytes)) → stretch (masked s (take n bytes)) ≡ masked s (take n bytes)
clear_before s n bytes e =
    let p : masked s (take n bytes) ≡ stretch (masked s bytes) = sym (masked_take s n bytes) ∙ take_before (masked s bytes) n e in
    ap stretch p ∙ (stretch_stays (masked s bytes)).0 ∙ sym p

pub frame_behind : (s : ℕ) (held input : List ℕ) (n : ℕ) → stretch (masked s held) ≡ masked s held → n ≡ length (stretch (masked s input)) → stretch (masked s (held ++ take n input)) ≡ masked s held ++ stretch (masked s input)
frame_behind s held input n clear before =
    ap stretch (masked_append s held (take n input)) ∙ stretch_behind (masked s held) (masked s (take n input)) clear
    ∙ ap (λ x. masked s held ++ x) (clear_before s n input before ∙ sym (masked_take s n input) ∙ take_before (masked s input) n before)

-- a frame that is decoded from where it lies
pub behind_nothing : (s i : ℕ) (held f : List ℕ) → i ≡ 0 → stretch (masked s f) ≡ masked s f → stretch (masked s (take i held ++ f)) ≡ masked s f
behind_nothing s i held f z c = rw z c

unpadded_clear : (f : List ℕ) → stretch f ≡ f → unpadded f ≡ f
unpadded_clear [] c = refl
unpadded_clear (zero ∷ f) c = absurd (omega (arith, ap length c))
unpadded_clear (suc b ∷ f) c = rw (ne_eqb (suc b) 0 (λ e. omega (arith, e))) refl

frame_clear : (f : List ℕ) → stretch f ≡ f → frame_in f ≡ f
frame_clear f c = ap stretch (unpadded_clear f c) ∙ c

small : (s : List ℕ) → ((k : ℕ) → get_or s k 0 < 256) → AllByRecursion (λ x. x < 256) s
small [] h = tt
small (b ∷ s) h = (h 0, small s (λ k. h (suc k)))

is_zero : (n : ℕ) → (n ≡ 0) ⊎ (n ≡ 0 → ⊥)
is_zero zero = inl refl
is_zero (suc n) = inr (λ e. omega (arith, e))

-- nonzero bytes are a frame or none
frame_or_none : EndsWithItsBlock → IsFrameAtBlockEnd → (f : List ℕ) → IsClear f → Frame f (part f) ⊎ ((m : List ℕ) → Frame f m → ⊥)
frame_or_none ends is [] h = inr (λ m k. never_empty [] m refl k)
frame_or_none ends is (b ∷ f) h = elim (is_zero (missing (b ∷ f))) [ inl e ↦ inl (is (b ∷ f) h (λ n. omega (arith, ap length n)) e) | inr n ↦ inr (λ m k. n (ends (b ∷ f) m k)) ]

decoded_frame : DecodesFrames → (room : ℕ) (f m : List ℕ) → stretch f ≡ f → length m ≤ room → Frame f m
    → decoded_from room f ≡ Ok (report (min (length f - length (unpadded f) + length (frame_in f) + 1) (length f)) (length m))
decoded_frame frames room f m c l h =
    frames room f m (subst (λ x. Frame x m) (sym (frame_clear f c)) h) ∙ rw (le-ltb room (length m) l) refl

pub whole_refused : HasOneMessage → DecodesFrames → (room : ℕ) (f : List ℕ) (x : DecodeError) → stretch f ≡ f → length f ≤ room → Err x ≡ decoded_from room f → (m : List ℕ) → Frame f m → ⊥
whole_refused one frames room f x c l e m h =
    let short : length m ≤ length f = rw (one f m h) (part_short 0 false f) in
    let q = e ∙ decoded_frame frames room f m c (omega (arith, short, l)) h in absurd cc

-- the message of bytes that are a frame, over a buffer with room for it
front_of : (f old new : List ℕ) (n : ℕ) → length f ≤ length old → n ≡ length (part f) → new ≡ overwritten (part f) old → (n ≤ length new) × (take n new ≡ part f)
front_of f old new n l e t =
    let m = part f in
    let short : length m ≤ length f = part_short 0 false f in
    let whole : take (length old) m ≡ m = take_all (length old) m (omega (arith, short, l)) in
    let long : length new ≡ length m + (length old - length m) = rw (t, whole) (length-append m (drop (length m) old) ∙ ap (λ k. length m + k) (length-drop (length m) old)) in
    (omega (arith, e, long, short, l), rw (e, t, whole) (take_at m (drop (length m) old) (length m) refl))

pub whole_decoded : EndsWithItsBlock → IsFrameAtBlockEnd → DecodesFrames → RefusesSources → (f old new : List ℕ) (r : DecodeReport) → stretch f ≡ f → ((k : ℕ) → get_or f k 0 < 256) → length f ≤ length old
    → Ok r ≡ decoded_from (length old) f → new ≡ overwritten (part (frame_in f)) old → (frame_size r ≤ length new) × Frame f (take (frame_size r) new)
whole_decoded ends is frames others f old new r c b l e t =
    elim (frame_or_none ends is f (subst IsClear c (clear_stretch f b))) [
      | inl h ↦
          let n : length (part f) ≤ length old = omega (arith, part_short 0 false f, l) in
          let q : r ≡ report (min (length f - length (unpadded f) + length (frame_in f) + 1) (length f)) (length (part f)) = let k = e ∙ decoded_frame frames (length old) f (part f) c n h in cc in
          let p = front_of f old new (frame_size r) l (ap frame_size q) (t ∙ ap (λ x. overwritten (part x) old) (frame_clear f c)) in
          (p.0, subst (λ x. Frame f x) (sym p.1) h)
      | inr none ↦ absurd (let k = e ∙ others (length old) f (subst (AllByRecursion (λ x. x < 256)) (sym (frame_clear f c)) (small f b)) (λ m h. none m (subst (λ x. Frame x m) (frame_clear f c) h)) in cc)
    ]

-- the same of bytes that were XORed with a sentinel
decoded_stretch : DecodesStretches → (room : ℕ) (f m : List ℕ) → length m ≤ room → Frame f m → decoded_into room f ≡ Ok (length m)
decoded_stretch frames room f m l h = (frames room f m h).0 ∙ rw (le-ltb room (length m) l) refl

pub masked_refused : HasOneMessage → DecodesStretches → (room : ℕ) (f : List ℕ) (x : DecodeError) → stretch f ≡ f → length f ≤ room → Err x ≡ decoded_into room (stretch f) → (m : List ℕ) → Frame f m → ⊥
masked_refused one frames room f x c l e m h =
    let short : length m ≤ length f = rw (one f m h) (part_short 0 false f) in
    let q = e ∙ ap (decoded_into room) c ∙ decoded_stretch frames room f m (omega (arith, short, l)) h in absurd cc

pub masked_decoded : EndsWithItsBlock → IsFrameAtBlockEnd → DecodesStretches → RefusesStretches → (f old new : List ℕ) (n : ℕ) → stretch f ≡ f → ((k : ℕ) → get_or f k 0 < 256) → (f ≡ [] → ⊥) → length f ≤ length old
    → Ok n ≡ decoded_into (length old) (stretch f) → new ≡ overwritten (part (stretch f)) old → (n ≤ length new) × Frame f (take n new)
masked_decoded ends is frames others f old new n c b some l e t =
    let clear : IsClear f = subst IsClear c (clear_stretch f b) in
    elim (frame_or_none ends is f clear) [
      | inl h ↦
          let short : length (part f) ≤ length old = omega (arith, part_short 0 false f, l) in
          let q : n ≡ length (part f) = let k = e ∙ ap (decoded_into (length old)) c ∙ decoded_stretch frames (length old) f (part f) short h in cc in
          let p = front_of f old new n l q (t ∙ ap (λ x. overwritten (part x) old) c) in
          (p.0, subst (λ x. Frame f x) (sym p.1) h)
      | inr none ↦ absurd (let k = e ∙ ap (decoded_into (length old)) c ∙ (others (length old) f clear some none).0 in cc)
    ]
