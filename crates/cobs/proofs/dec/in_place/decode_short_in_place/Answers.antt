use Rattle.std.proofs.Common.{◌≡◌, ◌≢◌, ℕ, zero, suc, ◌+◌, ◌-◌, ◌<◌, ◌≤◌, List, true, [], ◌∷◌, ◌++◌, length, take, drop, get_or, length-drop, refl, sym, ◌∙◌, ap, subst, arith}
use Rattle.std.proofs.lemmas.List.{length-take-le, drop_at, take_all}
use Rattle.std.proofs.lemmas.Nat.{xor_of_8}
use Rattle.std.specs.Prelude.{bit_xor}
use Rattle.cobs.specs.Feeding.{stands_by}
use Rattle.cobs.specs.Frames.{NoZero, part, part_from, after}
use Rattle.cobs.specs.InPlace.{stretch, in_place, overwritten, written_over}
use Rattle.cobs.specs.Sentinel.{masked}
use Rattle.cobs.specs.Taking.{answer_behind, with_parsed}
use Rattle.cobs.specs.declared.dec.state.DecoderState.{DecoderState}
use Rattle.cobs.proofs.MaskingLemmas.{masked_length}
use Rattle.cobs.proofs.ShortLemmas.{window_report, window_over}
use Rattle.cobs.proofs.SourcesLemmas.{masked_positive, stretch_front, stretch_clear, clear_at}
use Rattle.cobs.proofs.WithinLemmas.{written_part}
use Rattle.cobs.proofs.dec.in_place.decode_short_in_place.Goals as goal

positive : (n : ℕ) → n ≢ 0 → 0 < n
positive n z = omega (arith, z)

-- the code, and what is behind it
first_of : (s end : ℕ) (buf : List ℕ) → 0 < end → end ≤ length buf → masked s (take end buf) ≡ bit_xor s (get_or buf 0 0) ∷ masked s (take (end - 1) (drop 1 buf))
first_of s end [] l w = absurd (omega arith)
first_of s zero (b ∷ buf) l w = absurd (omega arith)
first_of s (suc n) (b ∷ buf) l w = let e : suc n - 1 ≡ n = omega arith in rw e refl

module _ (key end : ℕ) (old mid : List ℕ) (some : 0 < end) (within : end ≤ length old) (none : (k : ℕ) → k < end → get_or old k 0 ≢ key) (ends : end < length old → get_or old end 0 ≡ key)
    (m : mid ≡ written_over 0 (masked key (take (end - 1) (drop 1 old))) old) where
  abbrev len : ℕ
  len = end - 1

  abbrev code : ℕ
  code = bit_xor key (get_or old 0 0)

  abbrev bytes : List ℕ
  bytes = masked key (take len (drop 1 old))

  first : stretch (masked key old) ≡ code ∷ bytes
  first = sym (stretch_front key old end within none ends) ∙ first_of key end old some within

  long : length bytes ≡ len
  long = masked_length key (take len (drop 1 old)) ∙ length-take-le len (drop 1 old) (omega (arith, length-drop 1 old, within, some))

  clear : NoZero (code ∷ bytes)
  clear = subst NoZero first (stretch_clear (masked key old))

  there : take len mid ≡ bytes
  there = ap (take len) m ∙ written_part 0 len bytes old (sym long) (omega arith)

  behind : drop len mid ≡ drop len old
  behind =
      let count : 0 + length bytes ≡ len = omega (arith, long) in
      ap (drop len) m
      ∙ drop_at bytes (drop (0 + length bytes) old) len long
      ∙ ap (λ j. drop j old) count

  module _ (few : end ≤ 255) (small : get_or old 0 0 < 256) (fits : key < 256) (out : List ℕ) (state : DecoderState) (size : length out ≡ length (take len mid)) (o : out ≡ part_from (code - 1) true (take len mid)) (s : state ≡ stands_by (after (code - 1) true (take len mid))) where
    abbrev frame : List ℕ
    frame = stretch (masked key old)

    out_is : out ≡ part_from (code - 1) true bytes
    out_is = o ∙ ap (part_from (code - 1) true) there

    state_is : state ≡ stands_by (after (code - 1) true bytes)
    state_is = s ∙ ap (λ b. stands_by (after (code - 1) true b)) there

    size_is : length out ≡ len
    size_is = size ∙ ap length there ∙ long

    count : length bytes ≤ 254
    count = omega (arith, long, few)

    byte : code < 256
    byte = xor_of_8 key (get_or old 0 0) fits small

    room : len ≤ length old
    room = omega (arith, within)

    answer : with_parsed end (answer_behind state len) ≡ in_place frame
    answer = window_report frame bytes code first count clear.0 byte out old len state size_is room out_is state_is end (omega (arith, ap length first, long, some))

    over : out ++ drop len mid ≡ overwritten (part frame) old
    over = window_over frame bytes code first count clear.0 byte out old len state size_is room out_is state_is _ (ap (λ d. out ++ d) behind)

pub put_zeros-state-requires-clause-nonzero : goal.put_zeros-state-requires-clause-nonzero
put_zeros-state-requires-clause-nonzero c =
    let r = c.requires in
    let some : 0 < c.args.end = positive c.args.end c.if-end-eq0.false in
    let same = there c.args.sentinel c.args.end c.args.buf.now c.move_down.new.buffer some r.stops.within r.stops.none r.stops.end c.move_down.ensures in
    let bytes = clear c.args.sentinel c.args.end c.args.buf.now c.move_down.new.buffer some r.stops.within r.stops.none r.stops.end c.move_down.ensures in
    λ k q. rw same (clear_at (masked c.args.sentinel (take (c.args.end - 1) (drop 1 c.args.buf.now))) k bytes.1 (omega (arith, q, ap length same)))

pub overflow_sub-code : goal.overflow_sub-code
overflow_sub-code c = masked_positive c.args.sentinel (get_or c.args.buf.now 0 0) (c.requires.stops.none 0 (positive c.args.end c.if-end-eq0.false))

-- no bytes before the sentinel
none_at : (key : ℕ) (old : List ℕ) → (0 < length old → get_or old 0 0 ≡ key) → stretch (masked key old) ≡ []
none_at key old ends = sym (stretch_front key old 0 (omega arith) (λ k l. absurd (omega arith)) ends)

pub returns-then-end-eq0 : goal.returns-then-end-eq0
returns-then-end-eq0 c = record {
  answer =
      let ends : 0 < length c.args.buf.now → get_or c.args.buf.now 0 0 ≡ c.args.sentinel = rw c.if-end-eq0.true at c.requires.stops.end in
      c.with_parsed.ensures ∙ ap in_place (sym (none_at c.args.sentinel c.args.buf.now ends));
  buffer =
      let ends : 0 < length c.args.buf.now → get_or c.args.buf.now 0 0 ≡ c.args.sentinel = rw c.if-end-eq0.true at c.requires.stops.end in
      sym (ap (λ f. overwritten (part f) c.args.buf.now) (none_at c.args.sentinel c.args.buf.now ends) ∙ ap (λ m. m ++ c.args.buf.now) (take_all (length c.args.buf.now) [] (omega arith)));
  bytes = c.requires.bytes;
}

pub returns : goal.returns
returns c = record {
  answer =
      let r = c.requires in
      c.with_parsed-2.ensures ∙ ap (with_parsed c.args.end) c.answer_behind.ensures
      ∙ answer c.args.sentinel c.args.end c.args.buf.now c.move_down.new.buffer (positive c.args.end c.if-end-eq0.false) r.stops.within r.stops.none r.stops.end c.move_down.ensures r.few (r.bytes 0) c.ranges.sentinel.fits c.put_zeros-state.new.out c.put_zeros-state.result c.put_zeros-state.auto.out c.put_zeros-state.ensures.out c.put_zeros-state.ensures.state;
  buffer =
      let r = c.requires in
      over c.args.sentinel c.args.end c.args.buf.now c.move_down.new.buffer (positive c.args.end c.if-end-eq0.false) r.stops.within r.stops.none r.stops.end c.move_down.ensures r.few (r.bytes 0) c.ranges.sentinel.fits c.put_zeros-state.new.out c.put_zeros-state.result c.put_zeros-state.auto.out c.put_zeros-state.ensures.out c.put_zeros-state.ensures.state;
  bytes = c.requires.bytes;
}
