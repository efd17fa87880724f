-- Which lines can be sent, by their lengths and by their frames.
use Rattle.std.proofs.Common.{add-one, ◌≡◌, ℕ, ◌+◌, ◌<◌, ◌≤◌, true, false, List, [], ◌∷◌, ◌++◌, length, ap, ◌∙◌, arith, refl, inr}
use Rattle.std.specs.Prelude.{Some, IsUtf8, take, drop, bit_xor, slice_set}
use Rattle.std.proofs.lemmas.List.{length-append, length-drop, length-map, length-take, take_more_set, take-append-le}
use borrow.Rule.Slice.PartMut.{put_mid}
use Rattle.postcard_tree.specs.Tree.{IsTree, text_of}
use Rattle.postcard_tree.specs.Texts.{is_text, short_text}
use Rattle.postcard_tree.specs.Spelling.{varint, short}
use Rattle.postcard.specs.Greatest.{SizeWithin, text_within}
use Rattle.postcard_tree.specs.declared.error.Error.{Error}
use Rattle.postcard_tree.specs.declared.error.Error.TheVariants.{SerializeBufferFull}
use Rattle.postcard.specs.Written.{WrittenWhole, UnlessRefused}
use Rattle.link.specs.Link.{shortest_frame, frame_for, IsWithinLengths}
use Rattle.link.specs.Run.{Send, completed, refused, broken, written, IsFramed}
use Rattle.framed_lib.specs.Sending.{IsSendOfLine, is_whole}

short_within : (bytes : List ℕ) → length bytes ≤ 1017 → SizeWithin (Some (text_of bytes)) (Some 1019)
unfolding varint
short_within bytes h = text_within 1017 bytes h

pub short-framed : IsWithinLengths → (bytes : List ℕ) → length bytes ≤ 1017 → IsFramed IsTree 1024 (text_of bytes)
short-framed within bytes h =
    let few : length (short (text_of bytes)) ≤ 1019 = (short_within bytes h).at_most (text_of bytes) 1019 refl refl in
    record { taken = is_text bytes (omega arith); within = omega (arith, (within (short (text_of bytes))).1) }

pub long-unframed : IsWithinLengths → (bytes : List ℕ) → 1024 ≤ length bytes → IsFramed IsTree 1024 (text_of bytes) → ⊥
long-unframed within bytes h f =
    let n : length (short (text_of bytes)) ≡ length (varint (length bytes)) + length bytes = ap length (short_text bytes) ∙ length-append (varint (length bytes)) bytes in
    omega (arith, (within (short (text_of bytes))).0, f.within)

-- what comes of a line whose text was framed at the front of the room, with a byte behind it
pub framed-line : (n sentinel : ℕ) (room new text line : List ℕ) → (text ≡ line) × IsUtf8 line → 1025 ≤ length room → length new ≡ length (take 1024 room)
    → WrittenWhole (Some (text_of text)) (λ bytes. (n ≡ length (shortest_frame bytes)) × (take n new ≡ frame_for sentinel bytes))
    → (n < length (new ++ drop 1024 room)) × IsSendOfLine line (completed (text_of line))
    × (take (n + 1) (slice_set (new ++ drop 1024 room) n sentinel) ≡ written sentinel true (completed (text_of line)))
framed-line n sentinel room new text line u l b p =
    let size : length new ≡ 1024 = omega (arith, length-take 1024 room) in
    let within : n ≤ length new = omega (arith, length-map (shortest_frame (short (text_of text))) (bit_xor sentinel), ap length p.1.1, length-take n new) in
    let fits : n < length (new ++ drop 1024 room) = omega (arith, length-append new (drop 1024 room), length-drop 1024 room) in
    let f : IsFramed IsTree 1024 (text_of text) = record { taken = p.0; within = omega (arith, p.1.0) } in (
      fits,
      (refl, u.1, (rw u.0 at f)),
      take_more_set (new ++ drop 1024 room) n sentinel fits ∙ (ap (λ x. x ++ sentinel ∷ []) (take-append-le n new (drop 1024 room) within) ∙ (rw (← u.0) (ap (λ x. x ++ sentinel ∷ []) p.1.1))),
    )

-- and of one whose wasn't
pub unframed-line : (e : Error) (size : ℕ) (text line : List ℕ) → (text ≡ line) × IsUtf8 line → size ≡ 1024
    → UnlessRefused (Some (text_of text)) (λ bytes. (e ≡ SerializeBufferFull) × (size < length (shortest_frame bytes))) → IsSendOfLine line refused
unframed-line e size text line u a q = inr (λ h. let f : IsFramed IsTree 1024 (text_of text) = (rw (← u.0) at h) in omega (arith, q.1, f.within))

-- one that is, behind a sentinel
pub led : (s n k : ℕ) (room new line : List ℕ) (x : Send) → 0 < length room → n ≤ length new → IsSendOfLine line x → is_whole x ≡ true → take n new ≡ written s true x
    → take (n + 1) (put_mid 1 k (slice_set room 0 s) new) ≡ written s false x
led s n k [] new line x l m o w e = absurd (omega arith)
led s n k (r ∷ room) new line (completed t) l m o w e = rw (add-one n) (ap (λ y. s ∷ y) (take-append-le n new _ m ∙ e))
led s n k (r ∷ room) new line refused l m o w e = cc
led s n k (r ∷ room) new line (broken t j) l m o w e = absurd o
