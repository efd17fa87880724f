-- What the table of a decoder says of the bytes of a frame so far.
use Rattle.std.proofs.Common.{◌≡◌, ℕ, zero, suc, pred, ◌+◌, ◌-◌, ◌^◌, ◌<◌, ◌≤◌, ◌==◌, nat_lt, min, if◌then◌else◌, Bool, true, false, List, [], ◌∷◌, ◌++◌, length, inl, inr, refl, ap, sym, ◌∙◌, arith, Ok, Err, None, Some, sub-one, set, drop, Result, Option}
use Rattle.std.proofs.lemmas.List.{append-nil, length_push, set_past, drop-set-lt}
use Rattle.std.proofs.Math.Bool.{and-false}
use Rattle.std.proofs.lemmas.Bool.{ne_eqb, lt-ltb, le-ltb}
use Rattle.std.proofs.lemmas.Bool.Decides.{eqb_tells}
use Rattle.std.specs.Prelude.{IfOk, IsNone}
use Rattle.cobs.specs.Frames.{part, part_from, after}
use Rattle.cobs.specs.Feeding.{by_code, fed, next, told_by, listed, stands_by, standing, at_byte, answer_of, frame_after, placed, stored}
use Rattle.cobs.specs.Taking.{left_in, left_behind}
use Rattle.cobs.specs.declared.dec.state.DecoderState.{DecoderState}
use Rattle.cobs.specs.declared.dec.state.DecoderState.TheVariants.{Idle, Grab, GrabChain}
use Rattle.cobs.specs.declared.dec.state.DecodeResult.TheVariants.{DataComplete}
use Rattle.cobs.specs.declared.dec.report.DecodeError.{DecodeError}
use Rattle.cobs.specs.declared.dec.report.DecodeError.TheVariants.{InvalidFrame, TargetBufTooSmall}
use Rattle.cobs.specs.declared.dec.progress.Progress.{Progress}
use Rattle.cobs.specs.Streaming.{HasStreamed}
use Rattle.cobs.proofs.DecodingLemmas.{part_append, after_append}

pub code_stands : (code : ℕ) → 0 < code → code < 256 → by_code code ≡ stands_by (pred code, nat_lt code 255)
code_stands code p l = elim (eqb_tells code 255) [
  | inl t ↦ rw (t.1) refl
  | inr t ↦ rw (ne_eqb code 255 t.1, lt-ltb code 255 (omega arith), sub-one code) refl
]

pub next_stands : (left : ℕ) (owed : Bool) (byte : ℕ) → 0 < byte → byte < 256 → next (stands_by (left, owed)) byte ≡ stands_by (after left owed (byte ∷ []))
next_stands zero true byte p l = rw (ne_eqb byte 0 (λ e. omega arith)) (code_stands byte p l)
next_stands zero false byte p l = rw (ne_eqb byte 0 (λ e. omega arith)) (code_stands byte p l)
next_stands (suc left) true byte p l = rw (ne_eqb byte 0 (λ e. omega arith)) refl
next_stands (suc left) false byte p l = rw (ne_eqb byte 0 (λ e. omega arith)) refl

pub fed_zero : (left : ℕ) (owed : Bool) → fed (stands_by (left, owed)) 0 ≡ (if left == 0 then Ok DataComplete else Err (InvalidFrame 0))
fed_zero zero true = refl
fed_zero zero false = refl
fed_zero (suc left) true = rw (ne_eqb (suc left) 0 (λ e. omega arith)) refl
fed_zero (suc left) false = rw (ne_eqb (suc left) 0 (λ e. omega arith)) refl

-- where a decoder stands, a byte on
pub standing_next : (bytes : List ℕ) (byte : ℕ) → 0 < byte → byte < 256 → next (standing bytes) byte ≡ standing (bytes ++ byte ∷ [])
standing_next [] byte p l = rw (ne_eqb byte 0 (λ e. omega arith)) (code_stands byte p l)
standing_next (code ∷ bytes) byte p l =
    let a = after 0 false (code ∷ bytes) in
    next_stands a.0 a.1 byte p l ∙ ap stands_by (sym (after_append 0 false (code ∷ bytes) (byte ∷ [])))

pub told_stands : (left : ℕ) (owed : Bool) (byte : ℕ) → 0 < byte → listed (told_by (fed (stands_by (left, owed)) byte)) ≡ part_from left owed (byte ∷ [])
told_stands zero true byte p = rw (ne_eqb byte 0 (λ e. omega arith)) refl
told_stands zero false byte p = rw (ne_eqb byte 0 (λ e. omega arith)) refl
told_stands (suc left) true byte p = rw (ne_eqb byte 0 (λ e. omega arith)) refl
told_stands (suc left) false byte p = rw (ne_eqb byte 0 (λ e. omega arith)) refl

-- what a byte adds to the message
pub part_told : (bytes : List ℕ) (byte : ℕ) → 0 < byte → part (bytes ++ byte ∷ []) ≡ part bytes ++ listed (told_by (fed (standing bytes) byte))
part_told [] byte p = rw (ne_eqb byte 0 (λ e. omega arith)) refl
part_told (code ∷ bytes) byte p =
    let a = after 0 false (code ∷ bytes) in
    part_append 0 false (code ∷ bytes) (byte ∷ []) ∙ ap (λ m. part (code ∷ bytes) ++ m) (sym (told_stands a.0 a.1 byte p))

part_none : (bytes : List ℕ) (byte : ℕ) → 0 < byte → told_by (fed (standing bytes) byte) ≡ None → part (bytes ++ byte ∷ []) ≡ part bytes
part_none bytes byte p e = part_told bytes byte p ∙ ap (λ o. part bytes ++ listed o) e ∙ append-nil (part bytes)

part_some : (bytes : List ℕ) (byte x : ℕ) → 0 < byte → told_by (fed (standing bytes) byte) ≡ Some x → part (bytes ++ byte ∷ []) ≡ part bytes ++ x ∷ []
part_some bytes byte x p e = part_told bytes byte p ∙ ap (λ o. part bytes ++ listed o) e

-- at a byte that isn't zero
pub frame_byte : (bytes : List ℕ) (byte : ℕ) → 0 < byte → frame_after bytes byte ≡ bytes ++ byte ∷ []
frame_byte bytes byte p = rw (ne_eqb byte 0 (λ e. omega arith)) refl

pub answer_byte : (room : ℕ) (bytes : List ℕ) (byte : ℕ) → 0 < byte → answer_of room bytes byte ≡ at_byte room bytes byte
answer_byte room bytes byte p = rw (ne_eqb byte 0 (λ e. omega arith)) refl

answer_same : (room : ℕ) (bytes : List ℕ) (byte : ℕ) → part (bytes ++ byte ∷ []) ≡ part bytes → Ok None ≡ at_byte room bytes byte
answer_same room bytes byte e = rw (e, le-ltb (length (part bytes)) (length (part bytes)) (omega arith), and-false) refl

answer_room : (room : ℕ) (bytes : List ℕ) (byte : ℕ) → length (part (bytes ++ byte ∷ [])) ≤ room → Ok None ≡ at_byte room bytes byte
answer_room room bytes byte l = rw (le-ltb room (length (part (bytes ++ byte ∷ []))) l) refl

answer_over : (room : ℕ) (bytes : List ℕ) (byte x : ℕ) → part (bytes ++ byte ∷ []) ≡ part bytes ++ x ∷ [] → room < length (part (bytes ++ byte ∷ [])) → Err TargetBufTooSmall ≡ at_byte room bytes byte
answer_over room bytes byte x e l =
    let more : length (part bytes) < length (part (bytes ++ byte ∷ [])) = omega (arith, ap length e, length_push (part bytes) x) in
    rw (lt-ltb room (length (part (bytes ++ byte ∷ []))) l, lt-ltb (length (part bytes)) (length (part (bytes ++ byte ∷ []))) more) refl

-- what a decoder keeps, a byte on
module _ (buffer : List ℕ) (d : Progress) (bytes : List ℕ) (byte : ℕ) (p : 0 < byte) (l : byte < 256) (s : HasStreamed d bytes) where
  stands_on : next d.state byte ≡ standing (bytes ++ byte ∷ [])
  stands_on = ap (λ z. next z byte) s.state ∙ standing_next bytes byte p l

  pub stays : told_by (fed d.state byte) ≡ None → HasStreamed (record d { state = next d.state byte }) (bytes ++ byte ∷ []) × (Ok None ≡ at_byte (length buffer) bytes byte) × (buffer ≡ placed bytes byte buffer)
  stays e =
      let same = part_none bytes byte p (rw s.state at e) in (
        record { state = stands_on; len = rw same s.len },
        answer_same (length buffer) bytes byte same,
        sym (ap (λ o. stored o (length (part bytes)) buffer) (rw s.state at e)),
      )

  -- a byte of the message was told
  module _ (x : ℕ) (e : told_by (fed d.state byte) ≡ Some x) where
    more : part (bytes ++ byte ∷ []) ≡ part bytes ++ x ∷ []
    more = part_some bytes byte x p (rw s.state at e)

    pub counts : (n : ℕ) → n ≡ min (d.len + 1) (2 ^ 64 - 1) → HasStreamed (record { state = next d.state byte; len = n }) (bytes ++ byte ∷ [])
    counts n i = record {
      state = stands_on;
      len = rw more (omega (arith, s.len, i, length_push (part bytes) x));
    }

    pub goes_on : d.len < length buffer → length buffer < 2 ^ 64 → (Ok None ≡ at_byte (length buffer) bytes byte) × (set buffer d.len x ≡ placed bytes byte buffer)
    goes_on r w =
        let here : d.len ≡ length (part bytes) = omega (arith, s.len) in (
          answer_room (length buffer) bytes byte (omega (arith, ap length more, length_push (part bytes) x)),
          ap (λ n. set buffer n x) here ∙ sym (ap (λ o. stored o (length (part bytes)) buffer) (rw s.state at e)),
        )

    pub runs_over : length buffer ≤ d.len → (Err TargetBufTooSmall ≡ at_byte (length buffer) bytes byte) × (buffer ≡ placed bytes byte buffer)
    runs_over r =
        let past : length buffer ≤ length (part bytes) = omega (arith, s.len) in (
          answer_over (length buffer) bytes byte x more (omega (arith, ap length more, length_push (part bytes) x)),
          sym (ap (λ o. stored o (length (part bytes)) buffer) (rw s.state at e) ∙ set_past buffer (length (part bytes)) x past),
        )

-- what a byte does inside a block
pub plain_told : (state : DecoderState) (byte : ℕ) → 0 < byte → 0 < left_in state → (told_by (fed state byte) ≡ Some byte) × (left_behind state 1 ≡ next state byte)
plain_told Idle byte p l = absurd (omega (arith, l))
plain_told (Grab zero) byte p l = absurd (omega (arith, l))
plain_told (GrabChain zero) byte p l = absurd (omega (arith, l))
plain_told (Grab (suc left)) byte p l =
    let one : suc left - 1 ≡ left = omega arith in
    (rw (ne_eqb byte 0 (λ e. omega arith)) refl, ap (λ n. Grab n) one ∙ sym (rw (ne_eqb byte 0 (λ e. omega arith)) refl))
plain_told (GrabChain (suc left)) byte p l =
    let one : suc left - 1 ≡ left = omega arith in
    (rw (ne_eqb byte 0 (λ e. omega arith)) refl, ap (λ n. GrabChain n) one ∙ sym (rw (ne_eqb byte 0 (λ e. omega arith)) refl))

-- and a code that stands for a zero
pub code_told : (state : DecoderState) (left byte : ℕ) → state ≡ Grab left → left_in state ≡ 0 → 0 < byte → (told_by (fed state byte) ≡ Some 0) × (by_code byte ≡ next state byte)
code_told (Grab zero) left byte e z p = (rw (ne_eqb byte 0 (λ e. omega arith)) refl, sym (rw (ne_eqb byte 0 (λ e. omega arith)) refl))
code_told (Grab (suc n)) left byte e z p = absurd (omega (arith, z))
code_told Idle left byte e z p = absurd (cc)
code_told (GrabChain n) left byte e z p = absurd (cc)

-- A byte of a frame is taken: a byte of the message that doesn't fit is counted and refused.
pub record StoresByte (before : Progress) (old : List ℕ) (byte : ℕ)
    (result : Result (Option ℕ) DecodeError) (behind : Progress) (new : List ℕ) : Type 0 where
  pub stands : (p : List ℕ) → HasStreamed before p → HasStreamed behind (p ++ byte ∷ [])
  pub answer : (p : List ℕ) → HasStreamed before p → result ≡ at_byte (length old) p byte
  pub buffer : (p : List ℕ) → HasStreamed before p → new ≡ placed p byte old
  pub none : IfOk result IsNone
  pub len : behind.len ≤ before.len + 1
  pub rest : drop (before.len + 1) new ≡ drop (before.len + 1) old

-- a byte is taken
module _ (buffer : List ℕ) (d d' : Progress) (byte : ℕ) (p : 0 < byte) (l : byte < 256) (on : d'.state ≡ next d.state byte) where
  pub takes_none : told_by (fed d.state byte) ≡ None → d'.len ≡ d.len → StoresByte d buffer byte (Ok None) d' buffer
  takes_none e n = record {
    stands = λ q s. let h = (stays buffer d q byte p l s e).0 in record { state = on ∙ h.state; len = n ∙ h.len };
    answer = λ q s. (stays buffer d q byte p l s e).1;
    buffer = λ q s. (stays buffer d q byte p l s e).2;
    none = refl;
    len = omega (arith, n);
    rest = refl;
  }

  module _ (x : ℕ) (e : told_by (fed d.state byte) ≡ Some x) (n : d'.len ≡ min (d.len + 1) (2 ^ 64 - 1)) where
    told_on : (q : List ℕ) → HasStreamed d q → HasStreamed d' (q ++ byte ∷ [])
    told_on q s = let h = counts buffer d q byte p l s x e d'.len n in record { state = on ∙ h.state; len = h.len }

    pub takes_told : d.len < length buffer → length buffer < 2 ^ 64 → StoresByte d buffer byte (Ok None) d' (set buffer d.len x)
    takes_told r w = record {
      stands = told_on;
      answer = λ q s. (goes_on buffer d q byte p l s x e r w).0;
      buffer = λ q s. (goes_on buffer d q byte p l s x e r w).1;
      none = refl;
      len = omega (arith, n);
      rest = drop-set-lt (d.len + 1) buffer d.len x (omega arith);
    }

    pub takes_over : length buffer ≤ d.len → StoresByte d buffer byte (Err TargetBufTooSmall) d' buffer
    takes_over r = record {
      stands = told_on;
      answer = λ q s. (runs_over buffer d q byte p l s x e r).0;
      buffer = λ q s. (runs_over buffer d q byte p l s x e r).1;
      none = tt;
      len = omega (arith, n);
      rest = refl;
    }
