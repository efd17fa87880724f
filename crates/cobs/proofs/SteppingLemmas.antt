-- How bytes are copied into the open block and coded, at most 64 at a time.
use Rattle.std.proofs.Common.{◌≡◌, ℕ, suc, ◌+◌, ◌<◌, ◌≤◌, List, [], ◌∷◌, ◌++◌, length, take, drop, get_or, refl, ap, sym, ◌∙◌, arith, append_assoc, length-append}
use Rattle.std.proofs.lemmas.List.{append-nil, take_at, take-append-drop}
use Rattle.cobs.specs.Frames.{shortest_frame}
use Rattle.cobs.specs.Held.{Laid, GoesOnFromBlock, last_run}
use Rattle.cobs.specs.Codes.{Coding, Coded, Open, Stepped}
use Rattle.cobs.specs.InPlace.{written_over}
use Rattle.cobs.specs.Sentinel.{masked}
use Rattle.cobs.proofs.HoldingLemmas.{parts_of, run_length}
use Rattle.cobs.proofs.MaskingLemmas.{masked_append, masked_take, masked_drop, masked_twice, masked_length}
use Rattle.cobs.proofs.CodingLemmas.{all_at}

-- an open block
pub open_new : (bytes : List ℕ) (code_at len : ℕ) (m : List ℕ) → Laid bytes code_at len → GoesOnFromBlock bytes code_at len m → Open bytes code_at len m
open_new bytes code_at len m l g =
    let parts = parts_of bytes code_at len l in
    record {
      closed = take code_at bytes;
      code = suc (length (last_run bytes code_at len));
      run = last_run bytes code_at len;
      tail = drop len bytes;
      spells = parts.spells;
      begins = parts.code;
      ends = parts.end;
      short = omega (arith, l.begins, l.short, run_length bytes code_at len l);
      goes_on = g;
    }

-- the same behind what was coded
pub open_coded : (bytes : List ℕ) (code_at at : ℕ) (m : List ℕ) → Coding bytes code_at at m [] → Open bytes code_at at m
open_coded bytes code_at at m c = record {
  closed = c.closed;
  code = c.code;
  run = c.run;
  tail = c.tail;
  spells = c.spells;
  begins = c.begins;
  ends = c.ends;
  short = omega (arith, c.short);
  goes_on = λ byte more. c.goes_on (byte ∷ more);
}

-- bytes that are copied behind it
pub open_copied : (bytes : List ℕ) (code_at at : ℕ) (m piece : List ℕ) → 0 < length piece → at + length piece ≤ code_at + 255 → at + length piece ≤ length bytes → Open bytes code_at at m → Coding (written_over at piece bytes) code_at at (m ++ piece) piece
open_copied bytes code_at at m [] s f r o = absurd (omega arith)
open_copied bytes code_at at m (byte ∷ piece) s f r o =
    let front : List ℕ = o.closed ++ (o.code ∷ o.run) in
    let long : length front ≡ at = length-append o.closed (o.code ∷ o.run) ∙ sym o.ends in
    let split : bytes ≡ front ++ o.tail = o.spells ∙ sym (append_assoc o.closed (o.code ∷ o.run) o.tail) in
    let tail : List ℕ = drop (at + suc (length piece)) bytes in
    record {
      closed = o.closed;
      code = o.code;
      run = o.run;
      tail = tail;
      spells = ap (λ b. b ++ ((byte ∷ piece) ++ tail)) (ap (take at) split ∙ take_at front o.tail at long) ∙ append_assoc o.closed (o.code ∷ o.run) ((byte ∷ piece) ++ tail);
      begins = o.begins;
      ends = o.ends;
      short = omega (arith, o.begins, o.ends, f);
      goes_on = λ more. ap shortest_frame (append_assoc m (byte ∷ piece) more) ∙ o.goes_on byte (piece ++ more);
    }

-- bytes that are copied masked
pub masked_over : (sentinel at : ℕ) (bytes piece : List ℕ) → masked sentinel (written_over at (masked sentinel piece) bytes) ≡ written_over at piece (masked sentinel bytes)
masked_over s at bytes piece =
    masked_append s (take at bytes) (masked s piece ++ drop (at + length (masked s piece)) bytes)
    ∙ ap (λ x. x ++ masked s (masked s piece ++ drop (at + length (masked s piece)) bytes)) (sym (masked_take s at bytes))
    ∙ ap (λ x. take at (masked s bytes) ++ x) (
    masked_append s (masked s piece) (drop (at + length (masked s piece)) bytes)
    ∙ ap (λ x. x ++ masked s (drop (at + length (masked s piece)) bytes)) (masked_twice s piece)
    ∙ ap (λ x. piece ++ x) (sym (masked_drop s (at + length (masked s piece)) bytes) ∙ ap (λ j. drop (at + j) (masked s bytes)) (masked_length s piece))
    )

-- they are copied, and then coded
pub stepped : (sentinel : ℕ) (dest copied buffer piece : List ℕ) (code_at at last : ℕ) → 0 < length piece → at + length piece ≤ code_at + 255 → at + length piece ≤ length dest
    → copied ≡ written_over at (masked sentinel piece) dest → Coded (masked sentinel copied) code_at at piece buffer last → Stepped (masked sentinel dest) code_at at piece buffer last
stepped s dest copied buffer piece code_at at last some short room c coded = record {
  begins = coded.begins;
  later = coded.later;
  coding = λ m o.
      let same : masked s copied ≡ written_over at piece (masked s dest) = ap (masked s) c ∙ masked_over s at dest piece in
      let new = open_copied (masked s dest) code_at at m piece some short (omega (arith, room, masked_length s dest)) o in
      coded.coding (m ++ piece) [] (rw (append-nil piece, same) new);
}

-- where none of them is zero
pub stepped_clear : (sentinel : ℕ) (dest copied piece : List ℕ) (code_at at : ℕ) → 0 < length piece → code_at < at → at + length piece ≤ code_at + 255 → at + length piece ≤ length dest
    → copied ≡ written_over at (masked sentinel piece) dest → ((k : ℕ) → k < length piece → 0 < get_or piece k 0) → Stepped (masked sentinel dest) code_at at piece (masked sentinel copied) code_at
stepped_clear s dest copied piece code_at at some begins short room c clear =
    stepped s dest copied (masked s copied) piece code_at at code_at some short room c (record {
      begins = omega (arith, begins);
      later = omega arith;
      coding = λ m more h. all_at (masked s copied) code_at at (at + length piece) m piece more clear refl h;
    })

-- bytes behind the open run are anything
open_again : (bytes new : List ℕ) (code_at at : ℕ) (m : List ℕ) → take at new ≡ take at bytes → Open bytes code_at at m → Open new code_at at m
open_again bytes new code_at at m e o =
    let front : List ℕ = o.closed ++ (o.code ∷ o.run) in
    let long : length front ≡ at = length-append o.closed (o.code ∷ o.run) ∙ sym o.ends in
    let split : bytes ≡ front ++ o.tail = o.spells ∙ sym (append_assoc o.closed (o.code ∷ o.run) o.tail) in
    record {
      closed = o.closed;
      code = o.code;
      run = o.run;
      tail = drop at new;
      spells = sym (take-append-drop at new) ∙ ap (λ x. x ++ drop at new) (e ∙ ap (take at) split ∙ take_at front o.tail at long) ∙ append_assoc o.closed (o.code ∷ o.run) (drop at new);
      begins = o.begins;
      ends = o.ends;
      short = o.short;
      goes_on = o.goes_on;
    }

-- they may have been written before
pub stepped_again : (sentinel : ℕ) (dest again buffer piece : List ℕ) (code_at at last : ℕ) → take at again ≡ take at dest → Stepped (masked sentinel again) code_at at piece buffer last → Stepped (masked sentinel dest) code_at at piece buffer last
stepped_again s dest again buffer piece code_at at last e step = record {
  begins = step.begins;
  later = step.later;
  coding = λ m o. step.coding m (open_again (masked s dest) (masked s again) code_at at m (masked_take s at again ∙ ap (masked s) e ∙ sym (masked_take s at dest)) o);
}
