-- A stretch that is decoded byte by byte, where it stands.
use Rattle.std.proofs.Common.{◌≡◌, ◌≢◌, ℕ, zero, suc, pred, ◌+◌, ◌-◌, ◌<◌, ◌≤◌, nat_lt, Bool, true, false, List, [], ◌∷◌, ◌++◌, length, take, drop, set, get_or, Ok, inl, inr, refl, sym, ap, ◌∙◌, subst, arith, append_assoc}
use Rattle.std.specs.List.{AllByRecursion}
use Rattle.std.specs.Prelude.{◌==◌, bit_xor}
use Rattle.std.proofs.lemmas.Bool.{cases_eq, eq-eqb, ne_eqb, ltb-false}
use Rattle.std.proofs.lemmas.Grind.{drop_more_same, take-set_at}
use Rattle.std.proofs.lemmas.Nat.{xor_of_8}
use Rattle.std.proofs.lemmas.List.{append-nil, drop_more, drop_all, drop-set-lt, get_or-drop, get_or-map, length-append, length-take, length-drop, length-set}
use Rattle.cobs.specs.Frames.{Frame, NoZero, part, part_from, after, missing}
use Rattle.cobs.specs.FrameLaws.{IsFrameAtBlockEnd, EndsWithItsBlock, DecidesLess}
use Rattle.cobs.specs.InPlace.{stretch, in_place, overwritten}
use Rattle.cobs.specs.Reports.{frame_size, report}
use Rattle.cobs.specs.Sentinel.{masked}
use Rattle.cobs.specs.declared.dec.report.DecodeReport.{DecodeReport}
use Rattle.link.specs.Lemmas.MaskLaws.{masked_length}
use Rattle.frames.proofs.StandingLemmas.{stretch_of, some_bytes}

-- The bytes before a place are decoded, and so many bytes of a block are left. Whether the next code stands for a zero isn't
-- kept, since no code comes behind that of a full block.
pub record Walks (p : List ℕ) (at left : ℕ) (out : List ℕ) : Type 0 where
  pub owed : Bool
  pub decides : part p ≡ out ++ part_from left owed (drop at p)
  pub stands : after 0 false p ≡ after left owed (drop at p)
  pub inside : owed ≡ false → length p < at + left

-- no code comes behind that of a full block
full : (p : List ℕ) (at code : ℕ) → length p ≤ 254 → 0 < at → nat_lt code 255 ≡ false → length p < at + pred code
full p at code short l e = omega (arith, short, l, ltb-false code 255 e)

pub walks_start : (p : List ℕ) → length p ≤ 254 → 0 < length p → Walks p 1 (get_or p 0 0 - 1) []
walks_start [] short some = absurd (omega (arith, some))
walks_start (code ∷ p) short some =
    let same : pred code ≡ code - 1 = omega arith in
    record {
      owed = nat_lt code 255;
      decides = ap (λ n. part_from n (nat_lt code 255) p) same;
      stands = ap (λ n. after n (nat_lt code 255) p) same;
      inside = λ e. omega (arith, full (code ∷ p) 1 code short (omega arith) e);
    }

module _ (p : List ℕ) (at left : ℕ) (out : List ℕ) (short : length p ≤ 254) (near : at < length p) (w : Walks p at left out) where
  here : drop at p ≡ get_or p at 0 ∷ drop (at + 1) p
  here = drop_more p at 0 near

  -- a code stands for a zero
  pub walks_code : left ≡ 0 → Walks p (at + 1) (get_or p at 0 - 1) (out ++ 0 ∷ [])
  walks_code z = go w.owed refl
    where
      go : (o : Bool) → w.owed ≡ o → Walks p (at + 1) (get_or p at 0 - 1) (out ++ 0 ∷ [])
      go false e = absurd (omega (arith, w.inside e, z, near))
      go true e =
          let code = get_or p at 0 in
          let same : pred code ≡ code - 1 = omega arith in
          record {
            owed = nat_lt code 255;
            decides =
                w.decides ∙ ap (λ n. out ++ part_from n w.owed (drop at p)) z ∙ ap (λ o. out ++ part_from 0 o (drop at p)) e ∙ ap (λ x. out ++ part_from 0 true x) here
                ∙ ap (λ n. out ++ 0 ∷ part_from n (nat_lt code 255) (drop (at + 1) p)) same
                ∙ sym (append_assoc out (0 ∷ []) (part_from (code - 1) (nat_lt code 255) (drop (at + 1) p)));
            stands =
                w.stands ∙ ap (λ n. after n w.owed (drop at p)) z ∙ ap (λ o. after 0 o (drop at p)) e ∙ ap (after 0 true) here
                ∙ ap (λ n. after n (nat_lt code 255) (drop (at + 1) p)) same;
            inside = λ f. omega (arith, full p (at + 1) code short (omega arith) f);
          }

  -- a byte of a block is one of the message
  pub walks_byte : left ≢ 0 → Walks p (at + 1) (left - 1) (out ++ get_or p at 0 ∷ [])
  walks_byte n =
      let byte = get_or p at 0 in
      let one : left ≡ suc (left - 1) = omega (arith, n) in
      record {
        owed = w.owed;
        decides =
            w.decides ∙ ap (λ k. out ++ part_from k w.owed (drop at p)) one ∙ ap (λ x. out ++ part_from (suc (left - 1)) w.owed x) here
            ∙ sym (append_assoc out (byte ∷ []) (part_from (left - 1) w.owed (drop (at + 1) p)));
        stands = w.stands ∙ ap (λ k. after k w.owed (drop at p)) one ∙ ap (after (suc (left - 1)) w.owed) here;
        inside = λ e. omega (arith, w.inside e, n);
      }

-- At the end they are a frame exactly where nothing is left of a block.
module _ (p : List ℕ) (at left : ℕ) (out : List ℕ) (end : length p ≤ at) (w : Walks p at left out) where
  pub walks_missing : missing p ≡ left
  walks_missing = ap (λ (a : ℕ × Bool). a.0) (w.stands ∙ ap (after left w.owed) (drop_all at p end))

  pub walks_part : part p ≡ out
  walks_part = w.decides ∙ ap (λ x. out ++ part_from left w.owed x) (drop_all at p end) ∙ append-nil out

-- each byte is one, and none is zero
small_bytes : (s : ℕ) (bytes : List ℕ) → s < 256 → ((k : ℕ) → get_or bytes k 0 < 256) → NoZero (masked s bytes) → AllByRecursion (λ b. (0 < b) × (b < 256)) (masked s bytes)
small_bytes s [] l f z = tt
small_bytes s (b ∷ bytes) l f z = ((z.0, xor_of_8 s b l (f 0)), small_bytes s bytes l (λ k. f (suc k)) z.1)

-- What is decoded stands before the byte that is read next, and the bytes from there on are as they came.
pub record Decodes (s : ℕ) (old : List ℕ) (at left : ℕ) (front : List ℕ) : Type 0 where
  pub walks : Walks (masked s old) at left (take (at - 1) front)
  pub rest : drop at front ≡ drop at old
  pub long : length front ≡ length old
  pub behind : 0 < at

pub decodes_start : (s : ℕ) (old : List ℕ) (left : ℕ) → length old ≤ 254 → 0 < length old → left ≡ bit_xor s (get_or old 0 0) - 1 → Decodes s old 1 left old
decodes_start s old left short some e = record {
  walks = subst (λ n. Walks (masked s old) 1 n []) (ap (λ x. x - 1) (get_or-map (bit_xor s) old 0 0 0 some) ∙ sym e)
      (walks_start (masked s old) (omega (arith, short, masked_length s old)) (omega (arith, some, masked_length s old)));
  rest = refl;
  long = refl;
  behind = omega arith;
}

module _ (s : ℕ) (old : List ℕ) (at left : ℕ) (front : List ℕ) (short : length old ≤ 254) (near : at < length old) (d : Decodes s old at left front) where
  -- the byte that is read wasn't written yet
  read : get_or (masked s old) at 0 ≡ bit_xor s (get_or front at 0)
  read =
      get_or-map (bit_xor s) old at 0 0 near
      ∙ ap (bit_xor s) (ap (λ n. get_or old n 0) zero ∙ sym (get_or-drop at old 0 0) ∙ sym (ap (λ x. get_or x 0 0) d.rest) ∙ get_or-drop at front 0 0 ∙ sym (ap (λ n. get_or front n 0) zero))
    where
      zero : at ≡ at + 0
      zero = omega arith

  module _ (byte : ℕ) where
    written : take (at + 1 - 1) (set front (at - 1) byte) ≡ take (at - 1) front ++ byte ∷ []
    written = take-set_at front (at - 1) (at + 1 - 1) byte (omega (arith, d.behind)) (omega (arith, near, d.long, d.behind))

    later : (next : ℕ) → Walks (masked s old) (at + 1) next (take (at - 1) front ++ byte ∷ []) → Decodes s old (at + 1) next (set front (at - 1) byte)
    later next w = record {
      walks = subst (Walks (masked s old) (at + 1) next) (sym written) w;
      rest = drop-set-lt (at + 1) front (at - 1) byte (omega (arith, d.behind)) ∙ drop_more_same front old at d.rest;
      long = length-set front (at - 1) byte ∙ d.long;
      behind = omega arith;
    }

  same : length (masked s old) ≡ length old
  same = masked_length s old

  pub decodes_code : left ≡ 0 → (next : ℕ) → next ≡ bit_xor s (get_or front at 0) - 1 → Decodes s old (at + 1) next (set front (at - 1) 0)
  decodes_code z next e =
      later 0 next (subst (λ n. Walks (masked s old) (at + 1) n (take (at - 1) front ++ 0 ∷ [])) (ap (λ x. x - 1) read ∙ sym e)
      (walks_code (masked s old) at left (take (at - 1) front) (omega (arith, short, same)) (omega (arith, near, same)) d.walks z))

  pub decodes_byte : left ≢ 0 → (byte : ℕ) → byte ≡ bit_xor s (get_or front at 0) → Decodes s old (at + 1) (left - 1) (set front (at - 1) byte)
  decodes_byte n byte e =
      later byte (left - 1) (subst (λ b. Walks (masked s old) (at + 1) (left - 1) (take (at - 1) front ++ b ∷ [])) (read ∙ sym e)
      (walks_byte (masked s old) at left (take (at - 1) front) (omega (arith, short, same)) (omega (arith, near, same)) d.walks n))

module _ (s : ℕ) (old : List ℕ) (at left : ℕ) (front : List ℕ) (end : length old ≤ at) (within : at ≤ length old) (d : Decodes s old at left front) where
  pub decodes_frame : IsFrameAtBlockEnd → s < 256 → ((k : ℕ) → get_or old k 0 < 256) → 0 < length old → left ≡ 0 → (n : ℕ) → n ≡ length front - 1 → NoZero (masked s old) → Frame (masked s old) (take n front)
  decodes_frame is small bytes some z n e clear =
      let p = masked s old in
      let out : take (at - 1) front ≡ take n front = ap (λ k. take k front) (omega (arith, e, d.long, end, within)) in
      subst (λ m. Frame p m) (walks_part p at left (take (at - 1) front) (omega (arith, end, masked_length s old)) d.walks ∙ out)
      (is p (small_bytes s old small bytes clear) (some_bytes p (omega (arith, some, masked_length s old))) (walks_missing p at left (take (at - 1) front) (omega (arith, end, masked_length s old)) d.walks ∙ z))

  pub decodes_damaged : EndsWithItsBlock → left ≢ 0 → (m : List ℕ) → Frame (masked s old) m → ⊥
  decodes_damaged ends n m f = n (sym (walks_missing (masked s old) at left (take (at - 1) front) (omega (arith, end, masked_length s old)) d.walks) ∙ ends (masked s old) m f)

-- A longer one, by `cobs`.
stretch_within : (x : List ℕ) → length (stretch x) ≤ length x
stretch_within [] = omega arith
stretch_within (b ∷ x) = elim (cases_eq b 0) [
  | inl e ↦ rw (eq-eqb b 0 e) (omega arith)
  | inr n ↦ rw (ne_eqb b 0 n) (omega (arith, stretch_within x))
]

in_place_size : (x : List ℕ) (r : DecodeReport) → DecidesLess → Ok r ≡ in_place x → frame_size r ≤ length x
in_place_size x r less e = elim (cases_eq (missing x) 0) [
  | inl z ↦ (
      let h : Ok r ≡ Ok (report (length x) (length (part x))) = e ∙ rw (eq-eqb (missing x) 0 z) refl in
      let k : frame_size r ≡ length (part x) = cc in
      omega (arith, k, less x))
  | inr n ↦ (let h = rw (ne_eqb (missing x) 0 n) at e in cc)
]

overwritten_length : (message buffer : List ℕ) → length (overwritten message buffer) ≡ length buffer
overwritten_length message buffer = omega (arith, length-append (take (length buffer) message) (drop (length message) buffer), length-take (length buffer) message, length-drop (length message) buffer)

pub long_size : (s : ℕ) (front : List ℕ) (r : DecodeReport) → DecidesLess → Ok r ≡ in_place (stretch (masked s front)) → frame_size r ≤ length front
long_size s front r less e = omega (arith, in_place_size (stretch (masked s front)) r less e, stretch_within (masked s front), masked_length s front)

pub long_frame : (s : ℕ) (front message : List ℕ) → 0 < length front → (stretch (masked s front) ≢ [] → Frame (stretch (masked s front)) message) → NoZero (masked s front) → Frame (masked s front) message
long_frame s front message some f z =
    let e = stretch_of (masked s front) z in
    let n : masked s front ≢ [] = some_bytes (masked s front) (omega (arith, some, masked_length s front)) in
    subst (λ x. Frame x message) e (f (subst (λ x. x ≢ []) (sym e) n))

pub long_damaged : (s : ℕ) (front : List ℕ) → ((m : List ℕ) → Frame (stretch (masked s front)) m → ⊥) → NoZero (masked s front) → (m : List ℕ) → Frame (masked s front) m → ⊥
long_damaged s front f z m g = f m (subst (λ x. Frame x m) (sym (stretch_of (masked s front) z)) g)

pub long_same : (s : ℕ) (front decoded : List ℕ) → decoded ≡ overwritten (part (stretch (masked s front))) front → length decoded ≡ length front
long_same s front decoded e = ap length e ∙ overwritten_length (part (stretch (masked s front))) front
