-- How a few bytes are copied into the open block and coded in one pass.
use Rattle.std.proofs.Common.{◌≡◌, ℕ, suc, ◌+◌, ◌-◌, ◌<◌, ◌≤◌, List, [], ◌∷◌, ◌++◌, length, take, drop, set, get_or, refl, ap, sym, ◌∙◌, arith, append_assoc, length-append, length-drop}
use Rattle.std.proofs.lemmas.List.{set_at, drop_more, drop_all, length_push}
use Rattle.cobs.specs.Frames.{block, shortest_from, shortest_frame}
use Rattle.cobs.specs.Held.{pushed, Laid, GoesOnFromBlock, HoldsFrame, last_run}
use Rattle.cobs.specs.Codes.{Putting}
use Rattle.cobs.proofs.EncodingLemmas.{open_zero, open_more}
use Rattle.cobs.proofs.HoldingLemmas.{parts_of, run_length}
use Rattle.cobs.proofs.CodingLemmas.{coded_end}

-- a piece that is to go behind the open run
pub putting_new : (bytes : List ℕ) (code_at len : ℕ) (m piece : List ℕ) → Laid bytes code_at len → GoesOnFromBlock bytes code_at len m → 0 < length piece → len + length piece ≤ code_at + 255 → len + length piece ≤ length bytes
    → Putting bytes code_at len (m ++ piece) piece
putting_new bytes code_at len m [] l g s f r = absurd (omega arith)
putting_new bytes code_at len m (byte ∷ piece) l g s f r =
    let parts = parts_of bytes code_at len l in
    record {
      closed = take code_at bytes;
      code = suc (length (last_run bytes code_at len));
      run = last_run bytes code_at len;
      tail = drop len bytes;
      spells = parts.spells;
      begins = parts.code;
      ends = parts.end;
      short = omega (arith, l.begins, run_length bytes code_at len l, f);
      room = omega (arith, r, length-drop len bytes);
      goes_on = λ more. ap shortest_frame (append_assoc m (byte ∷ piece) more) ∙ g byte (piece ++ more);
    }

-- a nonzero byte goes into the open run
put_next : (bytes : List ℕ) (code_at at : ℕ) (m : List ℕ) (byte : ℕ) (rest : List ℕ) → 0 < byte → Putting bytes code_at at m (byte ∷ rest) → Putting (set bytes at byte) code_at (at + 1) m rest
put_next bytes code_at at m byte rest p c =
    let tail : List ℕ = drop 1 c.tail in
    let old : ℕ = get_or c.tail 0 0 in
    let split : c.tail ≡ old ∷ tail = drop_more c.tail 0 0 (omega (arith, c.room)) in
    let front : List ℕ = c.closed ++ (c.code ∷ c.run) in
    let long : length front ≡ at = length-append c.closed (c.code ∷ c.run) ∙ sym c.ends in
    let before : bytes ≡ front ++ (old ∷ tail) = c.spells ∙ ap (λ x. c.closed ++ (c.code ∷ (c.run ++ x))) split ∙ sym (append_assoc c.closed (c.code ∷ c.run) (old ∷ tail)) in
    record {
      closed = c.closed;
      code = c.code;
      run = c.run ++ byte ∷ [];
      tail = tail;
      spells = ap (λ b. set b at byte) before ∙ set_at front old tail byte at long ∙ append_assoc c.closed (c.code ∷ c.run) (byte ∷ tail) ∙ ap (λ x. c.closed ++ (c.code ∷ x)) (sym (append_assoc c.run (byte ∷ []) tail));
      begins = c.begins;
      ends = omega (arith, c.ends, length_push c.run byte);
      short = omega (arith, c.short, length_push c.run byte);
      room = omega (arith, c.room, length-drop 1 c.tail);
      goes_on = λ more. c.goes_on more ∙ ap (λ x. c.closed ++ x) (open_more c.run byte (rest ++ more) (omega (arith, c.short)) p);
    }

-- a zero closes it, and its place is that of the next code
put_end : (bytes : List ℕ) (code_at at : ℕ) (m rest : List ℕ) → Putting bytes code_at at m (0 ∷ rest) → Putting (set bytes code_at (at - code_at)) at (at + 1) m rest
put_end bytes code_at at m rest c =
    let tail : List ℕ = drop 1 c.tail in
    let old : ℕ = get_or c.tail 0 0 in
    let split : c.tail ≡ old ∷ tail = drop_more c.tail 0 0 (omega (arith, c.room)) in
    let long : length (c.closed ++ block c.run) ≡ at = length-append c.closed (block c.run) ∙ sym c.ends in
    let code : at - code_at ≡ suc (length c.run) = omega (arith, c.begins, c.ends) in
    record {
      closed = c.closed ++ block c.run;
      code = old;
      run = [];
      tail = tail;
      spells = rw (code, c.spells, split, set_at c.closed c.code (c.run ++ (old ∷ tail)) (suc (length c.run)) code_at (sym c.begins), append_assoc c.closed (block c.run) (old ∷ tail)) refl;
      begins = sym long;
      ends = omega (arith, long);
      short = omega (arith, c.short);
      room = omega (arith, c.room, length-drop 1 c.tail);
      goes_on = λ more. c.goes_on more ∙ ap (λ x. c.closed ++ x) (open_zero c.run (rest ++ more) (omega (arith, c.short))) ∙ sym (append_assoc c.closed (block c.run) (shortest_from [] (rest ++ more)));
    }

-- the same at a place of a piece
pub put_next_at : (bytes : List ℕ) (code_at at next : ℕ) (m piece : List ℕ) (i : ℕ) → i < length piece → 0 < get_or piece i 0 → next ≡ at + 1 → Putting bytes code_at at m (drop i piece) → Putting (set bytes at (get_or piece i 0)) code_at next m (drop (i + 1) piece)
put_next_at bytes code_at at next m piece i l p e c =
    rw e (put_next bytes code_at at m (get_or piece i 0) (drop (i + 1) piece) p (rw (drop_more piece i 0 l) at c))

pub put_end_at : (bytes : List ℕ) (code_at at next : ℕ) (m piece : List ℕ) (i : ℕ) → i < length piece → get_or piece i 0 ≡ 0 → next ≡ at + 1 → Putting bytes code_at at m (drop i piece) → Putting (set bytes code_at (at - code_at)) at next m (drop (i + 1) piece)
put_end_at bytes code_at at next m piece i l z e c =
    rw e (put_end bytes code_at at m (drop (i + 1) piece) (rw (drop_more piece i 0 l ∙ ap (λ b. b ∷ drop (i + 1) piece) z) at c))

-- with the code of the last run the buffer holds the message
pub put_whole : (bytes : List ℕ) (code_at at next i : ℕ) (m piece : List ℕ) → length piece ≤ i → next ≡ at → Putting bytes code_at at m (drop i piece) → HoldsFrame (set bytes code_at (next - code_at)) code_at next × (pushed (set bytes code_at (next - code_at)) next ≡ m)
put_whole bytes code_at at next i m piece l e p =
    let c = rw (drop_all i piece l) at p in
    rw e (coded_end bytes code_at at m (record { closed = c.closed; code = c.code; run = c.run; tail = c.tail; spells = c.spells; begins = c.begins; ends = c.ends; short = c.short; goes_on = c.goes_on }))
