-- How bytes go on behind a frame, block by block.
use Rattle.std.proofs.Common.{◌≡◌, ℕ, ◌+◌, ◌<◌, ◌≤◌, List, [], ◌∷◌, ◌++◌, length, take, drop, set, get_or, ◌-◌, inl, inr, ap, sym, ◌∙◌, subst, arith, append_assoc}
use Rattle.std.specs.Prelude.{bit_xor}
use Rattle.std.proofs.lemmas.List.{append-nil, nil_from_length, take-append-drop, length-take-le, length-set, length_push, drop_more, set_at, take_at}
use borrow.Rule.Slice.PartMut.{put_mid}
use Rattle.std.proofs.lemmas.Bool.Decides.{eqb_tells}
use Rattle.cobs.specs.Frames.{shortest_frame}
use Rattle.cobs.specs.Held.{pushed, Laid, GoesOnFromBlock, GoesOnBy, HoldsFrame, WentOn}
use Rattle.cobs.specs.Sentinel.{masked, frame_for, between_zeros}
use Rattle.cobs.proofs.CodingLemmas.{no_room}
use Rattle.cobs.proofs.MaskingLemmas.{begins_masked, front_masked, masked_length}

-- the blocks hold them all
pub went_all : (before bytes rest after : List ℕ) (len_before code_at len : ℕ) → HoldsFrame after code_at len → pushed after len ++ rest ≡ pushed before len_before ++ bytes → length rest ≡ 0 → WentOn before len_before bytes after code_at len
went_all before bytes rest after len_before code_at len h e z = record {
  some = λ _. (h, sym (append-nil (pushed after len)) ∙ ap (λ r. pushed after len ++ r) (sym (nil_from_length rest z)) ∙ e);
  none = λ n. absurd (omega (arith, h.laid.begins, n));
}

-- there is no room for those that are left
pub went_nowhere : (before bytes opened rest m after : List ℕ) (len_before code_at len : ℕ) → Laid opened code_at len → GoesOnFromBlock opened code_at len m → 0 < length rest → length before < len + length rest → m ++ rest ≡ pushed before len_before ++ bytes
    → WentOn before len_before bytes after 0 0
went_nowhere before bytes opened rest m after len_before code_at len l g s f e = record {
  some = λ n. absurd (omega (arith, n));
  none = λ _. subst (λ x. length before < length (shortest_frame x)) e (no_room opened code_at len (length before) m rest l g s f);
}

-- a piece of them is put into the open block
pub goes_further : (before bytes opened rest m after : List ℕ) (len_before code_open open_len code_at len n : ℕ) → GoesOnFromBlock opened code_open open_len m → GoesOnBy opened code_open open_len (take n rest) after code_at len → m ++ rest ≡ pushed before len_before ++ bytes
    → HoldsFrame after code_at len × (pushed after len ++ drop n rest ≡ pushed before len_before ++ bytes)
goes_further before bytes opened rest m after len_before code_open open_len code_at len n g p e =
    let held = p m g in
    (held.0, ap (λ x. x ++ drop n rest) held.1 ∙ append_assoc m (take n rest) (drop n rest) ∙ ap (λ x. m ++ x) (take-append-drop n rest) ∙ e)

-- one piece is all
pub went_by : (before piece after : List ℕ) (code_before len_before code_at len : ℕ) → HoldsFrame before code_before len_before → GoesOnBy before code_before len_before piece after code_at len → WentOn before len_before piece after code_at len
went_by before piece after code_before len_before code_at len h g =
    let held = g (pushed before len_before) h.goes_on in
    record {
      some = λ _. held;
      none = λ n. absurd (omega (arith, held.0.laid.begins, n));
    }

-- a first one
pub holds_first : (before : List ℕ) (code_before len_before : ℕ) → len_before ≡ 1 → HoldsFrame before code_before len_before → HoldsFrame before 0 1
holds_first before code_before len_before e h =
    let zero : code_before ≡ 0 = omega (arith, h.laid.begins, e) in
    rw (zero, e) at h

pub went_first : (before piece after : List ℕ) (code_before len_before code_at len : ℕ) → len_before ≡ 1 → HoldsFrame before code_before len_before → GoesOnBy before 0 1 piece after code_at len → WentOn before len_before piece after code_at len
went_first before piece after code_before len_before code_at len e h g =
    subst (λ n. WentOn before n piece after code_at len) (sym e) (went_by before piece after 0 1 code_at len (holds_first before code_before len_before e h) g)

-- bytes put behind the begun frame of nothing: the buffer's front is their frame, of this length
pub framed_all : (sentinel : ℕ) (bytes piece buffer : List ℕ) (code_at len : ℕ) → 0 < length bytes → length (shortest_frame piece) ≤ length bytes
    → WentOn (masked sentinel (set bytes 0 (bit_xor sentinel 1))) 1 piece (masked sentinel buffer) code_at len
    → (len ≡ length (shortest_frame piece)) × (take len buffer ≡ frame_for sentinel piece)
framed_all s bytes piece buffer code_at len some room went =
    let begun = begins_masked s bytes some in
    let start = masked s (set bytes 0 (bit_xor s 1)) in
    let message : pushed start 1 ++ piece ≡ piece = ap (λ m. m ++ piece) begun.1 in
    let is : 0 < len = elim (eqb_tells len 0) [
      | inl t ↦ absurd (omega (arith, went.none t.1, ap (λ m. length (shortest_frame m)) message, masked_length s (set bytes 0 (bit_xor s 1)), length-set bytes 0 (bit_xor s 1), room))
      | inr t ↦ omega (arith, t.1)
    ] in
    let held = went.some is in
    let long = sym (length-take-le len (masked s buffer) held.0.laid.within) ∙ ap length (sym held.0.is) in
    (long ∙ ap (λ m. length (shortest_frame m)) (held.1 ∙ message), front_masked s buffer code_at len held.0 ∙ ap (frame_for s) (held.1 ∙ message))

-- a frame that is put between zeros
pub framed_between : (dest new frame : List ℕ) (n : ℕ) → take n new ≡ frame → n ≡ length frame → n < length new → 0 < length dest
    → take (n + 2) (set (put_mid 1 (length (set dest 0 0) - 1) (set dest 0 0) new) (n + 1) 0) ≡ between_zeros frame
framed_between [] new frame n e long l some = absurd (omega arith)
framed_between (y ∷ dest) new frame n e long l some =
    let z = get_or new n 0 in
    let more = drop (n + 1) new in
    let tail = drop (length (0 ∷ dest) - 1) dest in
    let split : new ≡ frame ++ z ∷ more = sym (take-append-drop n new) ∙ ap (λ d. take n new ++ d) (drop_more new n 0 l) ∙ ap (λ f. f ++ z ∷ more) e in
    let whole : put_mid 1 (length (0 ∷ dest) - 1) (0 ∷ dest) new ≡ (0 ∷ frame) ++ z ∷ (more ++ tail) =
    ap (λ x. 0 ∷ (x ++ tail)) split ∙ ap (λ x. 0 ∷ x) (append_assoc frame (z ∷ more) tail) in
    ap (λ b. take (n + 2) (set b (n + 1) 0)) whole
    ∙ ap (take (n + 2)) (set_at (0 ∷ frame) z (more ++ tail) 0 (n + 1) (omega (arith, long)) ∙ sym (append_assoc (0 ∷ frame) (0 ∷ []) (more ++ tail)))
    ∙ take_at ((0 ∷ frame) ++ 0 ∷ []) (more ++ tail) (n + 2) (length_push (0 ∷ frame) 0 ∙ omega (arith, long))
