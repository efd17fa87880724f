-- Decoding over the source: bytes that are taken in at once.
use Rattle.std.proofs.Common.{◌≡◌, ◌≢◌, ℕ, zero, suc, ◌+◌, ◌-◌, ◌^◌, ◌<◌, ◌≤◌, false, List, [], ◌∷◌, ◌++◌, length, take, drop, get_or, ◌⊎◌, inl, inr, refl, ap, sym, ◌∙◌, arith, subst, length-append, length-drop}
use Rattle.std.proofs.lemmas.List.{length-take-le, length-take, take-take, get_or-take, get_or-drop, drop_more, drop_at, take_at, take_all}
use Rattle.std.proofs.lemmas.Bool.{cases_lt}
use Rattle.std.specs.Prelude.{bit_xor}
use Rattle.cobs.specs.Feeding.{by_code}
use Rattle.cobs.specs.Frames.{NoZero, part, part_from, after}
use Rattle.cobs.specs.InPlace.{overwritten, written_over}
use Rattle.cobs.specs.Sentinel.{masked}
use Rattle.cobs.specs.Streaming.{HasStreamed}
use Rattle.cobs.specs.Taking.{TakesFront}
use Rattle.cobs.specs.declared.dec.progress.Progress.{Progress}
use Rattle.cobs.proofs.DecodingLemmas.{Stretch, part_append, part_shorter}
use Rattle.cobs.proofs.FeedsLemmas.{code_stands}
use Rattle.cobs.proofs.MaskingLemmas.{masked_length, masked_get, masked_take, masked_drop}
use Rattle.cobs.proofs.OverwritingLemmas.{rest, behind, length-overwritten}
use Rattle.cobs.proofs.PassingLemmas.{all_placed, placed_over}
use Rattle.cobs.proofs.ReadingLemmas.{Reading, EndsAt}
use Rattle.cobs.proofs.SourcesLemmas.{masked_positive}
use Rattle.cobs.proofs.WindowsLemmas.{placed_written, part_written}
use Rattle.cobs.proofs.WrittenLemmas.{front_then, written_twice}
use borrow.Rule.Slice.PartMut.{put_mid}

stretch_append : (a b : List ℕ) → Stretch a → Stretch b → Stretch (a ++ b)
stretch_append [] b h k = k
stretch_append (x ∷ a) b h k = (h.0, stretch_append a b h.1 k)

stretch_of_bytes : (a : List ℕ) → NoZero a → ((j : ℕ) → j < length a → get_or a j 0 < 256) → Stretch a
stretch_of_bytes [] h k = tt
stretch_of_bytes (x ∷ a) h k = ((h.0, k 0 (omega arith)), stretch_of_bytes a h.1 (λ j l. k (suc j) (omega arith)))

pub cases_zero : (m : ℕ) → (m ≡ 0) ⊎ (0 < m)
cases_zero zero = inl refl
cases_zero (suc m) = inr (omega arith)

-- bytes that were taken in at once stand where each by itself would
pub placed_front : (p piece buffer : List ℕ) (n : ℕ) (d' : Progress) (buffer' : List ℕ) → TakesFront p piece buffer n d' buffer' → buffer' ≡ all_placed p (take n piece) buffer
placed_front p piece buffer n d' buffer' f = elim (cases_zero n) [
  | inl z ↦ f.same z ∙ sym (ap (λ j. all_placed p (take j piece) buffer) z)
  | inr l ↦
      f.buffer l
      ∙ sym (placed_written p (take n piece) buffer f.clear (omega (arith, f.fits l, ap length (part_append 0 false p (take n piece)), length-append (part p) (part_from (after 0 false p).0 (after 0 false p).1 (take n piece)))))
]

-- a code was read
pub reading_begun : (sentinel : ℕ) (source : List ℕ) (d : Progress) → 0 < length source → length source < 2 ^ 64 → get_or source 0 0 ≢ sentinel → bit_xor sentinel (get_or source 0 0) < 256
    → d.state ≡ by_code (bit_xor sentinel (get_or source 0 0)) → d.len ≡ 0 → Reading sentinel source source 1 d
reading_begun sentinel [] d some w other few state len = absurd (omega arith)
reading_begun sentinel (b ∷ source) d some w other few state len =
    let positive : 0 < bit_xor sentinel b = masked_positive sentinel b other in
    record {
      reads = record {
        within = omega (arith, masked_length sentinel (b ∷ source));
        small = omega (arith, w, masked_length sentinel (b ∷ source));
        clear = ((positive, few), tt);
        stands = record { state = state ∙ code_stands (bit_xor sentinel b) positive few; len = omega (arith, len) };
      };
      holds = sym (ap (λ m. m ++ b ∷ source) (take_all (length (b ∷ source)) [] (omega arith)));
      long = refl;
    }

module _ (sentinel : ℕ) (source buffer : List ℕ) (read : ℕ) (d : Progress) (r : Reading sentinel source buffer read d) where
  abbrev bytes : List ℕ
  bytes = masked sentinel source

  abbrev frame : List ℕ
  frame = take read bytes

  whole : length bytes ≡ length source
  whole = masked_length sentinel source

  short : length (part frame) ≤ read
  short = omega (arith, part_shorter frame, length-take-le read bytes r.reads.within)

  -- what is still to be read is as it was
  pub unread : drop read buffer ≡ drop read source
  unread = ap (drop read) r.holds ∙ rest source (part frame) read short (omega (arith, r.reads.within, whole))

  pub unread_byte : (k : ℕ) → read ≤ k → k < length source → get_or buffer k 0 ≡ get_or source k 0
  unread_byte k l w = ap (λ b. get_or b k 0) r.holds ∙ behind (part frame) source k (omega (arith, short)) w

  -- all before the sentinel was read
  pub ends_at : (end : ℕ) → read ≡ end → end ≤ length source → (end < length source → get_or source end 0 ≡ sentinel) → EndsAt sentinel buffer read
  ends_at end e w z = elim (cases_lt end (length source)) [
    | inl l ↦ inr (omega (arith, e, l, r.long), unread_byte read (omega arith) (omega (arith, e, l)) ∙ ap (λ k. get_or source k 0) e ∙ z l)
    | inr l ↦ inl (omega (arith, e, l, r.long))
  ]

  module _ (end n : ℕ) (d' : Progress) (buffer' : List ℕ) (l : read ≤ end) (w : end ≤ length buffer) (fits : (j : ℕ) → bit_xor sentinel (get_or source j 0) < 256)
      (f : TakesFront frame (masked sentinel (take (end - read) (drop read buffer))) buffer n d' buffer') where
    abbrev piece : List ℕ
    piece = masked sentinel (take (end - read) (drop read buffer))

    few : n ≤ end - read
    few = omega (arith, f.within, masked_length sentinel (take (end - read) (drop read buffer)), length-take (end - read) (drop read buffer))

    taken : take n piece ≡ take n (drop read bytes)
    taken =
        ap (take n) (ap (λ b. masked sentinel (take (end - read) b)) unread ∙ sym (masked_take sentinel (end - read) (drop read source)) ∙ ap (take (end - read)) (sym (masked_drop sentinel read source)))
        ∙ take-take n (end - read) (drop read bytes) few

    front : frame ++ take n piece ≡ take (read + n) bytes
    front = ap (λ b. frame ++ b) (taken ∙ ap (λ j. take j (drop read bytes)) (omega arith)) ∙ front_then read (read + n) bytes (omega arith)

    small : (j : ℕ) → j < length (take n piece) → get_or (take n piece) j 0 < 256
    small j q =
        let inside : j < n = omega (arith, q, length-take n piece) in
        let left : length (drop read buffer) ≡ length buffer - read = length-drop read buffer in
        let within : j < length (take (end - read) (drop read buffer)) = omega (arith, length-take-le (end - read) (drop read buffer) (omega (arith, left, w)), inside, few) in
        let byte : get_or (take n piece) j 0 ≡ bit_xor sentinel (get_or source (read + j) 0) =
        get_or-take n piece j 0 inside
        ∙ masked_get sentinel (take (end - read) (drop read buffer)) j within
        ∙ ap (bit_xor sentinel) (get_or-take (end - read) (drop read buffer) j 0 (omega (arith, inside, few)) ∙ get_or-drop read buffer j 0 ∙ unread_byte (read + j) (omega arith) (omega (arith, inside, few, w, r.long))) in
        omega (arith, byte, fits (read + j))

    placed : buffer' ≡ all_placed frame (take n piece) buffer
    placed = placed_front frame piece buffer n d' buffer' f

    holds : buffer' ≡ overwritten (part (take (read + n) bytes)) source
    holds = placed ∙ ap (all_placed frame (take n piece)) r.holds ∙ placed_over frame (take n piece) source f.clear ∙ ap (λ b. overwritten (part b) source) front

    pub reading_front : Reading sentinel source buffer' (read + n) d'
    reading_front = record {
      reads = record {
        within = omega (arith, few, l, w, r.long, whole);
        small = r.reads.small;
        clear = subst Stretch front (stretch_append frame (take n piece) r.reads.clear (stretch_of_bytes (take n piece) f.clear small));
        stands = subst (HasStreamed d') front f.has;
      };
      holds = holds;
      long = ap length holds ∙ length-overwritten (part (take (read + n) bytes)) source;
    }

-- a part that was written
pub written_part : (place n : ℕ) (bytes old : List ℕ) → n ≡ length bytes → place ≤ length old → take n (drop place (written_over place bytes old)) ≡ bytes
written_part place n bytes old e l =
    ap (take n) (drop_at (take place old) (bytes ++ drop (place + length bytes) old) place (length-take-le place old l)) ∙ take_at bytes (drop (place + length bytes) old) n (sym e)

-- and was written anew
pub written_anew : (place k : ℕ) (bytes out old new : List ℕ) → new ≡ written_over place bytes old → length out ≡ length bytes → k ≡ length out → place + length bytes ≤ length old → put_mid place k new out ≡ written_over place out old
written_anew place k bytes out old new e l q r =
    part_written new out place k q ∙ ap (written_over place out) e ∙ written_twice place 0 place bytes out old (omega arith) (omega (arith, l)) (omega (arith, l, r)) (omega arith)

-- the first of the bytes from a place on up to another one
pub code_ahead : (sentinel code read end : ℕ) (buffer : List ℕ) → read < end → end ≤ length buffer → code ≡ bit_xor sentinel (get_or buffer read 0)
    → masked sentinel (take (end - read) (drop read buffer)) ≡ code ∷ masked sentinel (take (end - (read + 1)) (drop (read + 1) buffer))
code_ahead s code read end buffer l w is =
    let count : end - read ≡ suc (end - (read + 1)) = omega (arith, l) in
    let rest = take (end - (read + 1)) (drop (read + 1) buffer) in
    ap (λ n. masked s (take n (drop read buffer))) count
    ∙ ap (λ d. masked s (take (suc (end - (read + 1))) d)) (drop_more buffer read 0 (omega (arith, l, w)))
    ∙ ap (λ b. b ∷ masked s rest) (sym is)
