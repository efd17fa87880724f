-- What a byte of a stretch decides.
use Rattle.std.proofs.Common.{◌≡◌, ◌≢◌, ℕ, zero, suc, pred, ◌+◌, ◌-◌, ◌<◌, nat_lt, nat_eq, if◌then◌else◌, Bool, true, false, List, [], ◌∷◌, ◌++◌, length, take, set, inl, inr, refl, sym, ap, ◌∙◌, arith, append_assoc, bit_xor}
use mathlib.Core.Bool.{not}
use Rattle.std.specs.Int.Bits.{xor_zero_r}
use Rattle.std.proofs.lemmas.Bool.{cases_eq, ne_eqb, lt-ltb}
use Rattle.std.proofs.lemmas.Grind.{take-set_at}
use Rattle.std.proofs.lemmas.List.{length-append, append-nil}
use Rattle.cobs.specs.Frames.{part, part_from, after}
use Rattle.link.specs.Lemmas.MaskLaws.{mask_twice}
use Rattle.frames_small.specs.Standing.{AreCodes, Decides}
use Rattle.frames_small.specs.declared.receiving.SmallReceiver.{SmallReceiver}

-- what is decided goes on behind what was read
part_append : (left : ℕ) (owed : Bool) (p q : List ℕ) → part_from left owed (p ++ q) ≡ part_from left owed p ++ part_from (after left owed p).0 (after left owed p).1 q
part_append left owed [] q = refl
part_append zero owed (code ∷ p) q = ap (λ m. (if owed then (0 ∷ []) else []) ++ m) (part_append (pred code) (nat_lt code 255) p q) ∙ sym (append_assoc (if owed then (0 ∷ []) else []) _ _)
part_append (suc left) owed (byte ∷ p) q = ap (λ m. byte ∷ m) (part_append left owed p q)

after_append : (left : ℕ) (owed : Bool) (p q : List ℕ) → after left owed (p ++ q) ≡ after (after left owed p).0 (after left owed p).1 q
after_append left owed [] q = refl
after_append zero owed (code ∷ p) q = after_append (pred code) (nat_lt code 255) p q
after_append (suc left) owed (byte ∷ p) q = after_append left owed p q

codes_push : (p : List ℕ) (byte : ℕ) → 0 < byte → byte < 256 → AreCodes p → AreCodes (p ++ byte ∷ [])
codes_push [] byte some small h = ((some, small), tt)
codes_push (x ∷ p) byte some small h = (h.0, codes_push p byte some small h.1)

-- a code stands for a zero too unless its block is full
pub owes_is : (byte : ℕ) → byte < 256 → not (nat_eq byte 255) ≡ nat_lt byte 255
owes_is byte small = elim (cases_eq byte 255) [
  | inl e ↦ rw e refl
  | inr n ↦ rw (ne_eqb byte 255 n, lt-ltb byte 255 (omega (arith, n, small))) refl
]

-- only the sentinel is masked to zero
pub byte_is : (own byte s : ℕ) → own ≡ s → bit_xor own byte ≡ 0 → byte ≡ s
byte_is own byte s e z = sym (mask_twice own byte) ∙ ap (bit_xor own) z ∙ xor_zero_r own ∙ e

module _ (r : SmallReceiver) (buffer p : List ℕ) (byte : ℕ) (some : 0 < byte) (small : byte < 256) (d : Decides r buffer p) (later : SmallReceiver) (longer : later.stretch ≡ r.stretch + 1) where
  long : later.stretch ≡ length (p ++ byte ∷ [])
  long = omega (arith, longer, d.stretch, length-append p (byte ∷ []))

  put : r.decided < length buffer → (n : ℕ) → take (r.decided + 1) (set buffer r.decided n) ≡ part p ++ n ∷ []
  put near n = take-set_at buffer r.decided (r.decided + 1) n (omega arith) near ∙ ap (λ m. m ++ n ∷ []) d.stands

  -- a byte of the open block
  pub takes_byte : r.decided < length buffer → r.left ≢ 0 → later.decided ≡ r.decided + 1 → later.left ≡ r.left - 1 → later.owes ≡ r.owes → Decides later (set buffer r.decided byte) (p ++ byte ∷ [])
  takes_byte near n e f g =
      let o = (after 0 false p).1 in
      let one : (after 0 false p).0 ≡ suc (r.left - 1) = omega (arith, d.left, n) in
      let told : part (p ++ byte ∷ []) ≡ part p ++ byte ∷ [] = part_append 0 false p (byte ∷ []) ∙ ap (λ k. part p ++ part_from k o (byte ∷ [])) one in
      let state : after 0 false (p ++ byte ∷ []) ≡ (r.left - 1, o) = after_append 0 false p (byte ∷ []) ∙ ap (λ k. after k o (byte ∷ [])) one in
      record {
        stretch = long;
        decided = omega (arith, e, d.decided, ap length told, length-append (part p) (byte ∷ []));
        stands = ap (λ k. take k (set buffer r.decided byte)) e ∙ put near byte ∙ sym told;
        left = f ∙ sym (ap (λ (a : ℕ × Bool). a.0) state);
        owes = g ∙ d.owes ∙ sym (ap (λ (a : ℕ × Bool). a.1) state);
        codes = codes_push p byte some small d.codes;
      }

  module _ (z : r.left ≡ 0) (f : later.left ≡ byte - 1) (g : later.owes ≡ nat_lt byte 255) where
    none : (after 0 false p).0 ≡ 0
    none = sym d.left ∙ z

    told : part (p ++ byte ∷ []) ≡ part p ++ ((if (after 0 false p).1 then (0 ∷ []) else []) ++ [])
    told = part_append 0 false p (byte ∷ []) ∙ ap (λ k. part p ++ part_from k (after 0 false p).1 (byte ∷ [])) none

    state : after 0 false (p ++ byte ∷ []) ≡ (pred byte, nat_lt byte 255)
    state = after_append 0 false p (byte ∷ []) ∙ ap (λ k. after k (after 0 false p).1 (byte ∷ [])) none

    left_is : later.left ≡ (after 0 false (p ++ byte ∷ [])).0
    left_is = f ∙ (let e : byte - 1 ≡ pred byte = omega arith in e) ∙ sym (ap (λ (a : ℕ × Bool). a.0) state)

    owes_state : later.owes ≡ (after 0 false (p ++ byte ∷ [])).1
    owes_state = g ∙ sym (ap (λ (a : ℕ × Bool). a.1) state)

    -- a code behind a block that isn't full
    pub takes_owed : r.decided < length buffer → r.owes ≡ true → later.decided ≡ r.decided + 1 → Decides later (set buffer r.decided 0) (p ++ byte ∷ [])
    takes_owed near o e =
        let owed : (after 0 false p).1 ≡ true = sym d.owes ∙ o in
        let is : part (p ++ byte ∷ []) ≡ part p ++ 0 ∷ [] = told ∙ ap (λ b. part p ++ ((if b then (0 ∷ []) else []) ++ [])) owed in
        record {
          stretch = long;
          decided = omega (arith, e, d.decided, ap length is, length-append (part p) (0 ∷ []));
          stands = ap (λ k. take k (set buffer r.decided 0)) e ∙ put near 0 ∙ sym is;
          left = left_is;
          owes = owes_state;
          codes = codes_push p byte some small d.codes;
        }

    -- the first one, and one behind a full block
    pub takes_code : r.owes ≡ false → later.decided ≡ r.decided → Decides later buffer (p ++ byte ∷ [])
    takes_code o e =
        let owed : (after 0 false p).1 ≡ false = sym d.owes ∙ o in
        let is : part (p ++ byte ∷ []) ≡ part p = told ∙ ap (λ b. part p ++ ((if b then (0 ∷ []) else []) ++ [])) owed ∙ append-nil (part p) in
        record {
          stretch = long;
          decided = e ∙ d.decided ∙ sym (ap length is);
          stands = ap (λ k. take k buffer) e ∙ d.stands ∙ sym is;
          left = left_is;
          owes = owes_state;
          codes = codes_push p byte some small d.codes;
        }
