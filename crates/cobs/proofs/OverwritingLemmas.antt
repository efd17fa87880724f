-- A message that is written over a buffer byte by byte.
use Rattle.std.proofs.Common.{◌≡◌, ℕ, ◌+◌, ◌-◌, ◌<◌, ◌≤◌, List, [], ◌∷◌, ◌++◌, length, take, drop, set, get_or, Option, Some, None, inl, inr, refl, ap, sym, ◌∙◌, arith, append_assoc, length-append, length-take, length-drop}
use Rattle.std.proofs.lemmas.List.{append-nil, length_push, take_all, drop_all, drop_more, set_at, set_past, take-append-le, get_or-append_right, get_or-drop, take_at, drop_at, drop-drop}
use Rattle.std.proofs.lemmas.Bool.{cases_lt}
use Rattle.cobs.specs.Frames.{part}
use Rattle.cobs.specs.Feeding.{told_by, listed, fed, standing, placed, stored}
use Rattle.cobs.specs.InPlace.{overwritten}
use Rattle.cobs.proofs.FeedsLemmas.{part_told}

-- where there is room
pub overwritten_short : (message buffer : List ℕ) → length message ≤ length buffer → overwritten message buffer ≡ message ++ drop (length message) buffer
overwritten_short message buffer l = ap (λ m. m ++ drop (length message) buffer) (take_all (length buffer) message l)

-- and where there is none
pub overwritten_long : (message buffer : List ℕ) → length buffer ≤ length message → overwritten message buffer ≡ take (length buffer) message
overwritten_long message buffer l = ap (λ d. take (length buffer) message ++ d) (drop_all (length message) buffer l) ∙ append-nil (take (length buffer) message)

pub length-overwritten : (message buffer : List ℕ) → length (overwritten message buffer) ≡ length buffer
length-overwritten message buffer = simp (length-append, length-take, length-drop) (omega arith)

-- a byte more
pub overwritten_push : (message : List ℕ) (byte : ℕ) (buffer : List ℕ) → set (overwritten message buffer) (length message) byte ≡ overwritten (message ++ byte ∷ []) buffer
overwritten_push message byte buffer = elim (cases_lt (length message) (length buffer)) [
  | inl l ↦
      let long = length_push message byte in
      ap (λ b. set b (length message) byte) (overwritten_short message buffer (omega (arith, l)) ∙ ap (λ d. message ++ d) (drop_more buffer (length message) 0 l))
      ∙ set_at message (get_or buffer (length message) 0) (drop (length message + 1) buffer) byte (length message) refl
      ∙ sym (overwritten_short (message ++ byte ∷ []) buffer (omega (arith, long, l)) ∙ ap (λ n. (message ++ byte ∷ []) ++ drop n buffer) long ∙ append_assoc message (byte ∷ []) (drop (length message + 1) buffer))
  | inr l ↦
      let long = length_push message byte in
      set_past (overwritten message buffer) (length message) byte (omega (arith, l, length-overwritten message buffer))
      ∙ overwritten_long message buffer l
      ∙ sym (overwritten_long (message ++ byte ∷ []) buffer (omega (arith, long, l)) ∙ take-append-le (length buffer) message (byte ∷ []) l)
]

stored_on : (told : Option ℕ) (message buffer : List ℕ) → stored told (length message) (overwritten message buffer) ≡ overwritten (message ++ listed told) buffer
stored_on None message buffer = ap (λ m. overwritten m buffer) (sym (append-nil message))
stored_on (Some byte) message buffer = overwritten_push message byte buffer

-- a byte of a frame more
pub placed_on : (bytes : List ℕ) (byte : ℕ) (buffer now : List ℕ) → 0 < byte → now ≡ overwritten (part bytes) buffer → placed bytes byte now ≡ overwritten (part (bytes ++ byte ∷ [])) buffer
placed_on bytes byte buffer now p e =
    ap (placed bytes byte) e ∙ stored_on (told_by (fed (standing bytes) byte)) (part bytes) buffer ∙ ap (λ m. overwritten m buffer) (sym (part_told bytes byte p))

-- what is behind the message
pub behind : (message buffer : List ℕ) (i : ℕ) → length message ≤ i → i < length buffer → get_or (overwritten message buffer) i 0 ≡ get_or buffer i 0
behind message buffer i l w =
    ap (λ b. get_or b i 0) (overwritten_short message buffer (omega (arith, l, w)))
    ∙ get_or-append_right message (drop (length message) buffer) (length message) i 0 refl l
    ∙ get_or-drop (length message) buffer (i - length message) 0
    ∙ ap (λ n. get_or buffer n 0) (omega (arith, l))

-- the message
pub front : (buffer message : List ℕ) (len : ℕ) → len ≡ length message → len ≤ length buffer → take len (overwritten message buffer) ≡ message
front buffer message len e l =
    ap (take len) (overwritten_short message buffer (omega (arith, e, l))) ∙ take_at message (drop (length message) buffer) len (sym e)

-- what is behind bytes that are no shorter
pub rest : (buffer message : List ℕ) (n : ℕ) → length message ≤ n → n ≤ length buffer → drop n (overwritten message buffer) ≡ drop n buffer
rest buffer message n l w =
    let back : length message + (n - length message) ≡ n = omega (arith, l) in
    let split = message ++ drop (length message) buffer in
    ap (drop n) (overwritten_short message buffer (omega (arith, l, w)))
    ∙ ap (λ k. drop k split) (sym back)
    ∙ sym (drop-drop (n - length message) (length message) split)
    ∙ ap (drop (n - length message)) (drop_at message (drop (length message) buffer) (length message) refl)
    ∙ drop-drop (n - length message) (length message) buffer
    ∙ ap (λ k. drop k buffer) back
