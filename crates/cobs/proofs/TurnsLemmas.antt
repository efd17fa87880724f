-- How a piece is taken in, byte by byte.
use Rattle.std.proofs.Common.{◌≡◌, ℕ, zero, suc, ◌+◌, ◌-◌, ◌<◌, ◌≤◌, false, List, ◌∷◌, ◌++◌, length, take, drop, get_or, refl, sym, ◌∙◌, ap, ◌⊎◌, inl, inr, Result, Option, Some, None, Ok, Err, arith, subst, length-append}
use Rattle.std.proofs.lemmas.List.{drop_more, drop_all, drop-drop, take-append-drop, take_rest, length-take-le}
use Rattle.cobs.specs.Feeding.{answer_of, frame_after, placed}
use Rattle.cobs.specs.Pieces.{first_answer, frame_left, buffer_left, answered, ended}
use Rattle.cobs.specs.Reports.{report}
use Rattle.cobs.specs.Frames.{part, part_from, after}
use Rattle.cobs.specs.Sentinel.{masked}
use Rattle.cobs.specs.Streaming.{HasStreamed}
use Rattle.cobs.specs.Taking.{TakesFront}
use Rattle.cobs.specs.declared.dec.progress.Progress.{Progress}
use Rattle.cobs.specs.declared.dec.report.DecodeError.{DecodeError}
use Rattle.cobs.specs.declared.dec.report.DecodeReport.{DecodeReport}
use Rattle.cobs.proofs.DecodingLemmas.{part_append}
use Rattle.cobs.proofs.MaskingLemmas.{masked_drop}
use Rattle.cobs.proofs.PassingLemmas.{passes, all_placed}
use Rattle.cobs.proofs.WindowsLemmas.{placed_written}

-- what pushing comes to
pub record Outcome (room : ℕ) (frame piece source : List ℕ) (used : ℕ) (answer : Result (Option DecodeReport) DecodeError) (left buffer : List ℕ) : Type 0 where
  pub answers : first_answer room frame piece used ≡ answer
  pub leaves : frame_left room frame piece ≡ left
  pub holds : buffer_left room frame piece source ≡ buffer

-- The first i bytes of the piece got no answer, and now these are the bytes of the frame so far.
pub record Turn (frame piece source : List ℕ) (i : ℕ) (buffer : List ℕ) (d : Progress) : Type 0 where
  pub now : List ℕ
  pub stands : HasStreamed d now
  pub rest : (answer : Result (Option DecodeReport) DecodeError) (left last : List ℕ) → Outcome (length source) now (drop i piece) buffer i answer left last → Outcome (length source) frame piece source 0 answer left last

-- no byte was taken
pub turn_none : (frame piece source : List ℕ) (d : Progress) → HasStreamed d frame → Turn frame piece source 0 source d
turn_none frame piece source d s = record { now = frame; stands = s; rest = λ answer left last o. o }

-- no byte is left
pub turn_end : (frame piece source : List ℕ) (i : ℕ) (buffer : List ℕ) (d : Progress) → (t : Turn frame piece source i buffer d) → length piece ≤ i → Outcome (length source) frame piece source 0 (Ok None) t.now buffer
turn_end frame piece source i buffer d t l = t.rest (Ok None) t.now buffer (rw (drop_all i piece l) (record { answers = refl; leaves = refl; holds = refl }))

-- the next byte
module _ (frame piece source : List ℕ) (i : ℕ) (buffer : List ℕ) (d : Progress) (t : Turn frame piece source i buffer d) (l : i < length piece) where
  next_byte : (answer : Result (Option DecodeReport) DecodeError) (left last : List ℕ) → Outcome (length source) t.now (get_or piece i 0 ∷ drop (i + 1) piece) buffer i answer left last → Outcome (length source) frame piece source 0 answer left last
  next_byte answer left last o = t.rest answer left last (rw (drop_more piece i 0 l) o)

  -- got an answer
  pub turn_some : (n : ℕ) → answer_of (length source) t.now (get_or piece i 0) ≡ Ok (Some n) → Outcome (length source) frame piece source 0 (Ok (Some (report (i + 1) n))) (frame_after t.now (get_or piece i 0)) (placed t.now (get_or piece i 0) buffer)
  turn_some n a = next_byte _ _ _ (record {
    answers = ap (λ r. answered r (i + 1) (first_answer (length source) (frame_after t.now (get_or piece i 0)) (drop (i + 1) piece) (i + 1))) a;
    leaves = ap (λ r. ended r (frame_after t.now (get_or piece i 0)) (frame_left (length source) (frame_after t.now (get_or piece i 0)) (drop (i + 1) piece))) a;
    holds = ap (λ r. ended r (placed t.now (get_or piece i 0) buffer) (buffer_left (length source) (frame_after t.now (get_or piece i 0)) (drop (i + 1) piece) (placed t.now (get_or piece i 0) buffer))) a;
  })

  -- was refused
  pub turn_refused : (e : DecodeError) → answer_of (length source) t.now (get_or piece i 0) ≡ Err e → Outcome (length source) frame piece source 0 (Err e) (frame_after t.now (get_or piece i 0)) (placed t.now (get_or piece i 0) buffer)
  turn_refused e a = next_byte _ _ _ (record {
    answers = ap (λ r. answered r (i + 1) (first_answer (length source) (frame_after t.now (get_or piece i 0)) (drop (i + 1) piece) (i + 1))) a;
    leaves = ap (λ r. ended r (frame_after t.now (get_or piece i 0)) (frame_left (length source) (frame_after t.now (get_or piece i 0)) (drop (i + 1) piece))) a;
    holds = ap (λ r. ended r (placed t.now (get_or piece i 0) buffer) (buffer_left (length source) (frame_after t.now (get_or piece i 0)) (drop (i + 1) piece) (placed t.now (get_or piece i 0) buffer))) a;
  })

  -- got no answer
  pub turn_on : (buffer' : List ℕ) (d' : Progress) → answer_of (length source) t.now (get_or piece i 0) ≡ Ok None → HasStreamed d' (frame_after t.now (get_or piece i 0)) → buffer' ≡ placed t.now (get_or piece i 0) buffer
      → Turn frame piece source (i + 1) buffer' d'
  turn_on buffer' d' a s b = record {
    now = frame_after t.now (get_or piece i 0);
    stands = s;
    rest = λ answer left last o.
        let o' = rw b at o in
        next_byte answer left last (record {
          answers = ap (λ r. answered r (i + 1) (first_answer (length source) (frame_after t.now (get_or piece i 0)) (drop (i + 1) piece) (i + 1))) a ∙ o'.answers;
          leaves = ap (λ r. ended r (frame_after t.now (get_or piece i 0)) (frame_left (length source) (frame_after t.now (get_or piece i 0)) (drop (i + 1) piece))) a ∙ o'.leaves;
          holds = ap (λ r. ended r (placed t.now (get_or piece i 0) buffer) (buffer_left (length source) (frame_after t.now (get_or piece i 0)) (drop (i + 1) piece) (placed t.now (get_or piece i 0) buffer))) a ∙ o'.holds;
        });
  }

-- the next n bytes were taken in at once
pub turn_front : (frame piece source : List ℕ) (i n : ℕ) (buffer buffer' : List ℕ) (d d' : Progress) → (t : Turn frame piece source i buffer d) → length buffer ≡ length source → TakesFront t.now (drop i piece) buffer n d' buffer'
    → Turn frame piece source (i + n) buffer' d'
turn_front frame piece source i n buffer buffer' d d' t same f =
    let bytes = take n (drop i piece) in
    let rest = drop n (drop i piece) in
    let long : length bytes ≡ n = length-take-le n (drop i piece) f.within in
    let fits : 0 < length bytes → length (part (t.now ++ bytes)) ≤ length source = λ l. omega (arith, f.fits (omega (arith, l, long)), same) in
    let p = passes (length source) t.now bytes rest buffer i f.clear fits in
    let last : rest ≡ drop (i + n) piece = drop-drop n i piece in
    record {
      now = t.now ++ bytes;
      stands = f.has;
      rest = λ answer left end o. t.rest answer left end (rw (sym (take-append-drop n (drop i piece))) (record {
        answers = p.answers ∙ ap (λ r. first_answer (length source) (t.now ++ bytes) r (i + length bytes)) last ∙ ap (λ j. first_answer (length source) (t.now ++ bytes) (drop (i + n) piece) (i + j)) long ∙ o.answers;
        leaves = p.leaves ∙ ap (frame_left (length source) (t.now ++ bytes)) last ∙ o.leaves;
        holds = p.holds ∙ ap (λ b. buffer_left (length source) (t.now ++ bytes) rest b) (stood (cases_zero n)) ∙ ap (λ r. buffer_left (length source) (t.now ++ bytes) r buffer') last ∙ o.holds;
      }));
    }
  where
    cases_zero : (m : ℕ) → (m ≡ 0) ⊎ (0 < m)
    cases_zero zero = inl refl
    cases_zero (suc m) = inr (omega arith)

    stood : (n ≡ 0) ⊎ (0 < n) → all_placed t.now (take n (drop i piece)) buffer ≡ buffer'
    stood (inl z) = ap (λ j. all_placed t.now (take j (drop i piece)) buffer) z ∙ sym (f.same z)
    stood (inr l) = placed_written t.now (take n (drop i piece)) buffer f.clear (omega (arith, f.fits l, ap length (part_append 0 false t.now (take n (drop i piece))), length-append (part t.now) (part_from (after 0 false t.now).0 (after 0 false t.now).1 (take n (drop i piece))))) ∙ sym (f.buffer l)

-- the same of a piece of which each byte is XORed with a sentinel
pub turn_front_for : (sentinel : ℕ) (frame piece source : List ℕ) (i n : ℕ) (buffer buffer' : List ℕ) (d d' : Progress) → (t : Turn frame (masked sentinel piece) source i buffer d) → length buffer ≡ length source
    → TakesFront t.now (masked sentinel (take (length piece - i) (drop i piece))) buffer n d' buffer' → Turn frame (masked sentinel piece) source (i + n) buffer' d'
turn_front_for sentinel frame piece source i n buffer buffer' d d' t same f =
    let rest = ap (masked sentinel) (take_rest piece i) ∙ sym (masked_drop sentinel i piece) in
    turn_front frame (masked sentinel piece) source i n buffer buffer' d d' t same (subst (λ (x : List ℕ). TakesFront t.now x buffer n d' buffer') rest f)

-- What pushing a piece came to, where the bytes of the frame so far were these.
pub record Came (frame piece source : List ℕ) (answer : Result (Option DecodeReport) DecodeError) (d : Progress) (buffer : List ℕ) : Type 0 where
  pub left : List ℕ
  pub outcome : Outcome (length source) frame piece source 0 answer left buffer
  pub stands : HasStreamed d left
