use Rattle.std.proofs.Common.{◌≡◌, ◌+◌, ◌-◌, ◌<◌, ◌≤◌, ◌∷◌, ◌++◌, ℕ, List, [], true, refl, length, take, drop, get_or, length-drop, sym, ◌∙◌, ap, arith}
use Rattle.std.proofs.lemmas.List.{drop_at}
use Rattle.std.specs.Prelude.{bit_xor}
use Rattle.std.proofs.lemmas.Nat.{xor_of_8}
use Rattle.cobs.specs.Feeding.{stands_by}
use Rattle.cobs.specs.Frames.{NoZero, part, part_from, after}
use Rattle.cobs.specs.InPlace.{overwritten, written_over}
use Rattle.cobs.specs.Sentinel.{masked}
use Rattle.cobs.specs.Taking.{answer_behind, DecodesInto}
use Rattle.cobs.specs.Whole.{decoded_into}
use Rattle.cobs.specs.declared.dec.state.DecoderState.{DecoderState}
use Rattle.cobs.proofs.MaskingLemmas.{masked_length}
use Rattle.cobs.proofs.ShortLemmas.{window_answer, window_over, code_first, all_behind}
use Rattle.cobs.proofs.SourcesLemmas.{clear_at, stretch_of}
use Rattle.cobs.proofs.WithinLemmas.{written_part}
use Rattle.cobs.proofs.VerdictsLemmas.{clear_masked, into_frame, into_no_frame, into_within}
use Rattle.cobs.proofs.dec.whole.decode_clear.Goals as goal
use Rattle.cobs.proofs.dec.whole.decode_clear.Goals.{After-copy_over, After-answer_behind}

code_positive : (sentinel : ℕ) (frame : List ℕ) → 0 < length frame → NoZero (masked sentinel frame) → 0 < bit_xor sentinel (get_or frame 0 0)
code_positive s [] l h = absurd (omega arith)
code_positive s (b ∷ frame) l h = h.0

bytes_positive : (sentinel : ℕ) (frame : List ℕ) → 0 < length frame → NoZero (masked sentinel frame) → (k : ℕ) → k < length (drop 1 frame) → 0 < get_or (masked sentinel (drop 1 frame)) k 0
bytes_positive s [] l h k q = absurd (omega arith)
bytes_positive s (b ∷ frame) l h k q = clear_at (masked s frame) k h.1 (omega (arith, q, masked_length s frame))

some_in : (c : After-copy_over) → 0 < length c.args.frame.now
some_in c = c.if-has_room.ensures.some refl

-- the code, what is behind it, and what was made of that
module _ (c : After-copy_over) where
  abbrev key : ℕ
  key = c.args.sentinel

  abbrev frame : List ℕ
  frame = c.args.frame.now

  abbrev old : List ℕ
  old = c.args.dest.now

  abbrev mid : List ℕ
  mid = c.copy_over.new.buffer

  abbrev code : ℕ
  code = bit_xor key (get_or frame 0 0)

  abbrev count : ℕ
  count = length frame - 1

  abbrev bytes : List ℕ
  bytes = masked key (drop 1 frame)

  first : masked key frame ≡ code ∷ bytes
  first = code_first key frame (some_in c)

  long : length bytes ≡ count
  long = omega (arith, masked_length key (drop 1 frame), length-drop 1 frame)

  room : count ≤ length old
  room = omega (arith, c.if-has_room.ensures.room refl)

  put : mid ≡ written_over 0 bytes old
  put = c.copy_over.ensures ∙ ap (λ b. written_over 0 (masked key b) old) (all_behind frame)

  there : take count mid ≡ bytes
  there = ap (take count) put ∙ written_part 0 count bytes old (sym long) (omega arith)

  behind : drop count mid ≡ drop count old
  behind =
      let end : 0 + length bytes ≡ count = omega (arith, long) in
      ap (drop count) put
      ∙ drop_at bytes (drop (0 + length bytes) old) count long
      ∙ ap (λ j. drop j old) end

  module _ (out : List ℕ) (state : DecoderState) (size : length out ≡ length (take count mid)) (o : out ≡ part_from (code - 1) true (take count mid)) (s : state ≡ stands_by (after (code - 1) true (take count mid))) where
    few : length bytes ≤ 254
    few = omega (arith, long, c.if-is_short.ensures refl)

    some : 0 < code
    some = code_positive key frame (some_in c) c.requires

    fits : code < 256
    fits = xor_of_8 key (get_or frame 0 0) c.ranges.sentinel.fits (c.type_inv.frame 0).fits

    size_is : length out ≡ count
    size_is = size ∙ ap length there ∙ long

    out_is : out ≡ part_from (code - 1) true bytes
    out_is = o ∙ ap (part_from (code - 1) true) there

    state_is : state ≡ stands_by (after (code - 1) true bytes)
    state_is = s ∙ ap (λ b. stands_by (after (code - 1) true b)) there

    answer : answer_behind state count ≡ decoded_into (length old) (masked key frame)
    answer = window_answer (masked key frame) bytes code first few some fits out old count state size_is room out_is state_is

    over : out ++ drop count mid ≡ overwritten (part (masked key frame)) old
    over = window_over (masked key frame) bytes code first few some fits out old count state size_is room out_is state_is _ (ap (λ d. out ++ d) behind)

pub overflow_sub-sentinel : goal.overflow_sub-sentinel
overflow_sub-sentinel c = code_positive c.args.sentinel c.args.frame.now (c.if-has_room.ensures.some refl) c.requires

pub put_zeros-state-requires-clause-nonzero : goal.put_zeros-state-requires-clause-nonzero
put_zeros-state-requires-clause-nonzero c =
    let e = (goal.at.put_zeros-state-requires-clause-nonzero c).After-copy_over in
    λ k q. rw (there e) (bytes_positive (key e) (frame e) (some_in e) c.requires k (omega (arith, q, ap length (there e), long e, length-drop 1 (frame e))))

short : (c : After-answer_behind) → DecodesInto c.args.dest.now (masked c.args.sentinel c.args.frame.now) (c.put_zeros-state.new.out ++ drop (length c.args.frame.now - 1) c.copy_over.new.buffer) c.answer_behind.result
short c =
    let e = (goal.at.After-answer_behind c).After-copy_over in
    let z = c.put_zeros-state in
    record {
      answer = c.answer_behind.ensures ∙ answer e z.new.out z.result z.auto.out z.ensures.out z.ensures.state;
      dest = over e z.new.out z.result z.auto.out z.ensures.out z.ensures.state;
    }

pub returns-then-is_short-clause-answer : goal.returns-then-is_short-clause-answer
returns-then-is_short-clause-answer c = (short c).answer

pub returns-then-is_short-clause-frame : goal.returns-then-is_short-clause-frame
returns-then-is_short-clause-frame c =
    into_frame (masked c.args.sentinel c.args.frame.now) c.args.dest.now c.answer_behind.result _
    (clear_masked c.args.sentinel c.args.frame.now c.requires c.ranges.sentinel.fits (λ k. (c.type_inv.frame k).fits)) (short c).answer (short c).dest

pub returns-then-is_short-clause-no_frame : goal.returns-then-is_short-clause-no_frame
returns-then-is_short-clause-no_frame c = into_no_frame (masked c.args.sentinel c.args.frame.now) c.args.dest.now c.answer_behind.result (short c).answer

pub returns-then-is_short-clause-dest : goal.returns-then-is_short-clause-dest
returns-then-is_short-clause-dest c = (short c).dest

pub returns-then-is_short-clause-within : goal.returns-then-is_short-clause-within
returns-then-is_short-clause-within c = into_within (masked c.args.sentinel c.args.frame.now) c.args.dest.now c.answer_behind.result (short c).answer

pub returns-clause-answer : goal.returns-clause-answer
returns-clause-answer c = c.decode_with_sentinel.ensures.answer ∙ ap (decoded_into (length c.args.dest.now)) (stretch_of (masked c.args.sentinel c.args.frame.now) c.requires)

pub returns-clause-frame : goal.returns-clause-frame
returns-clause-frame c =
    let p = masked c.args.sentinel c.args.frame.now in
    into_frame p c.args.dest.now c.decode_with_sentinel.result c.decode_with_sentinel.new.dest
    (clear_masked c.args.sentinel c.args.frame.now c.requires c.ranges.sentinel.fits (λ k. (c.type_inv.frame k).fits))
    (c.decode_with_sentinel.ensures.answer ∙ ap (decoded_into (length c.args.dest.now)) (stretch_of p c.requires))
    (c.decode_with_sentinel.ensures.dest ∙ ap (λ f. overwritten (part f) c.args.dest.now) (stretch_of p c.requires))

pub returns-clause-no_frame : goal.returns-clause-no_frame
returns-clause-no_frame c =
    let p = masked c.args.sentinel c.args.frame.now in
    into_no_frame p c.args.dest.now c.decode_with_sentinel.result
    (c.decode_with_sentinel.ensures.answer ∙ ap (decoded_into (length c.args.dest.now)) (stretch_of p c.requires))

pub returns-clause-within : goal.returns-clause-within
returns-clause-within c =
    let p = masked c.args.sentinel c.args.frame.now in
    into_within p c.args.dest.now c.decode_with_sentinel.result
    (c.decode_with_sentinel.ensures.answer ∙ ap (decoded_into (length c.args.dest.now)) (stretch_of p c.requires))

pub returns-clause-dest : goal.returns-clause-dest
returns-clause-dest c = c.decode_with_sentinel.ensures.dest ∙ ap (λ f. overwritten (part f) c.args.dest.now) (stretch_of (masked c.args.sentinel c.args.frame.now) c.requires)
