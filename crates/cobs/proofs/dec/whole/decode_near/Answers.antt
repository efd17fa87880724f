use Rattle.std.proofs.Common.{◌≡◌, ◌≢◌, ℕ, zero, suc, ◌+◌, ◌-◌, ◌<◌, ◌≤◌, List, true, [], ◌∷◌, ◌++◌, length, take, drop, get_or, length-take, length-drop, refl, sym, ◌∙◌, ap, subst, arith}
use Rattle.std.proofs.lemmas.List.{length-take-le, drop_at, take_all, get_or-drop}
use Rattle.std.proofs.lemmas.Nat.{xor_of_8}
use Rattle.std.specs.Prelude.{bit_xor}
use Rattle.cobs.specs.Feeding.{stands_by}
use Rattle.cobs.specs.Frames.{NoZero, part, part_from, after}
use Rattle.cobs.specs.InPlace.{stretch, overwritten, written_over}
use Rattle.cobs.specs.Sentinel.{masked}
use Rattle.cobs.specs.Taking.{answer_behind}
use Rattle.cobs.specs.Whole.{decoded_into}
use Rattle.cobs.specs.declared.dec.state.DecoderState.{DecoderState}
use Rattle.cobs.proofs.MaskingLemmas.{masked_length, masked_take}
use Rattle.cobs.proofs.ShortLemmas.{window_answer, window_over}
use Rattle.cobs.proofs.SourcesLemmas.{masked_positive, stretch_front, stretch_clear, clear_at}
use Rattle.cobs.proofs.WithinLemmas.{written_part}
use Rattle.cobs.proofs.dec.whole.decode_near.Goals as goal
use Rattle.cobs.proofs.dec.whole.decode_near.Goals.{After-copy_frame_until-n}

-- the code, and what is behind it
first_of : (s n : ℕ) (source : List ℕ) → 0 < length source → masked s (take (n + 1) source) ≡ bit_xor s (get_or source 0 0) ∷ masked s (take n (drop 1 source))
first_of s n [] l = absurd (omega arith)
first_of s n (b ∷ source) l = let e : n + 1 ≡ suc n = omega arith in rw e refl

none_with : (s n : ℕ) (source : List ℕ) → get_or source 0 0 ≢ s → ((k : ℕ) → k < n → get_or source (1 + k) 0 ≢ s) → (k : ℕ) → k < n + 1 → get_or source k 0 ≢ s
none_with s n source first behind zero l e = first e
none_with s n source first behind (suc k) l e = behind k (omega arith) (ap (λ j. get_or source j 0) (omega arith) ∙ e)

module _ (g : _) (c : After-copy_frame_until-n g) where
  abbrev key : ℕ
  key = c.args.sentinel

  abbrev source : List ℕ
  source = c.args.source.now

  abbrev old : List ℕ
  old = c.args.dest.now

  abbrev mid : List ℕ
  mid = c.copy_frame_until-n.new.buffer

  abbrev n : ℕ
  n = c.copy_frame_until-n.result

  abbrev code : ℕ
  code = bit_xor key (get_or source 0 0)

  abbrev bytes : List ℕ
  bytes = masked key (take n (drop 1 source))

  all : take (length source - 1) (drop 1 source) ≡ drop 1 source
  all = take_all (length source - 1) (drop 1 source) (omega (arith, length-drop 1 source))

  within : n + 1 ≤ length source
  within = omega (arith, c.copy_frame_until-n.ensures.stops.within, ap length all, length-drop 1 source, c.requires.fits.some)

  room : n ≤ length old
  room = omega (arith, within, c.requires.fits.room)

  byte_at : (k : ℕ) → get_or (take (length source - 1) (drop 1 source)) k 0 ≡ get_or source (1 + k) 0
  byte_at k = ap (λ b. get_or b k 0) all ∙ get_or-drop 1 source k 0

  none : (k : ℕ) → k < n + 1 → get_or source k 0 ≢ key
  none = none_with key n source c.requires.fits.begins (λ k l e. c.copy_frame_until-n.ensures.stops.none k l (byte_at k ∙ e))

  ends : n + 1 < length source → get_or source (n + 1) 0 ≡ key
  ends l = ap (λ j. get_or source j 0) (omega arith) ∙ sym (byte_at n) ∙ c.copy_frame_until-n.ensures.stops.end (omega (arith, l, ap length all, length-drop 1 source))

  first : stretch (masked key source) ≡ code ∷ bytes
  first = sym (stretch_front key source (n + 1) within none ends) ∙ first_of key n source c.requires.fits.some

  long : length bytes ≡ n
  long = masked_length key (take n (drop 1 source)) ∙ length-take-le n (drop 1 source) (omega (arith, length-drop 1 source, within))

  clear : NoZero (code ∷ bytes)
  clear = subst NoZero first (stretch_clear (masked key source))

  put : mid ≡ written_over 0 bytes old
  put = c.copy_frame_until-n.ensures.buffer ∙ ap (λ b. written_over 0 b old) (masked_take key n (take (length source - 1) (drop 1 source)) ∙ ap (λ b. masked key (take n b)) all)

  there : take n mid ≡ bytes
  there = ap (take n) put ∙ written_part 0 n bytes old (sym long) (omega arith)

  behind : drop n mid ≡ drop n old
  behind =
      let count : 0 + length bytes ≡ n = omega (arith, long) in
      ap (drop n) put
      ∙ drop_at bytes (drop (0 + length bytes) old) n long
      ∙ ap (λ j. drop j old) count

  module _ (out : List ℕ) (state : DecoderState) (size : length out ≡ length (take n mid)) (o : out ≡ part_from (code - 1) true (take n mid)) (s : state ≡ stands_by (after (code - 1) true (take n mid))) where
    abbrev frame : List ℕ
    frame = stretch (masked key source)

    out_is : out ≡ part_from (code - 1) true bytes
    out_is = o ∙ ap (part_from (code - 1) true) there

    state_is : state ≡ stands_by (after (code - 1) true bytes)
    state_is = s ∙ ap (λ b. stands_by (after (code - 1) true b)) there

    size_is : length out ≡ n
    size_is = size ∙ ap length there ∙ long

    count : length bytes ≤ 254
    count = omega (arith, long, within, c.requires.few)

    byte : code < 256
    byte = xor_of_8 key (get_or source 0 0) c.ranges.sentinel.fits (c.type_inv.source 0).fits

    answer : answer_behind state n ≡ decoded_into (length old) frame
    answer = window_answer frame bytes code first count clear.0 byte out old n state size_is room out_is state_is

    over : out ++ drop n mid ≡ overwritten (part frame) old
    over = window_over frame bytes code first count clear.0 byte out old n state size_is room out_is state_is _ (ap (λ d. out ++ d) behind)

  end_is : n + 1 ≡ length (stretch (masked key source))
  end_is = omega (arith, ap length first, long)

pub put_zeros-state-requires-clause-nonzero : goal.put_zeros-state-requires-clause-nonzero
put_zeros-state-requires-clause-nonzero g c =
    let e = (goal.at.put_zeros-state-requires-clause-nonzero g c).After-copy_frame_until-n in
    λ k q. rw (there g e) (clear_at (bytes g e) k (clear g e).1 (omega (arith, q, ap length (there g e))))

pub put_zeros-state-requires-clause-short : goal.put_zeros-state-requires-clause-short
put_zeros-state-requires-clause-short g c =
    let e = (goal.at.put_zeros-state-requires-clause-short g c).After-copy_frame_until-n in
    omega (arith, ap length (there g e), long g e, within g e, e.requires.few)

pub copy_frame_until-n-requires-clause-room : goal.copy_frame_until-n-requires-clause-room
copy_frame_until-n-requires-clause-room g c =
    omega (arith, length-take (length c.args.source.now - 1) (drop 1 c.args.source.now), length-drop 1 c.args.source.now, c.requires.fits.room)

pub overflow_sub-code : goal.overflow_sub-code
overflow_sub-code g c = masked_positive c.args.sentinel (get_or c.args.source.now 0 0) c.requires.fits.begins

pub returns : goal.returns
returns g c =
    let e = (goal.at.returns g c).After-copy_frame_until-n in
    let z = c.put_zeros-state in
    record {
      answers = c.answer_behind.ensures ∙ answer g e z.new.out z.result z.auto.out z.ensures.out z.ensures.state;
      end = end_is g e;
      some = omega (arith, end_is g e);
      room = omega (arith, end_is g e, within g e, c.requires.fits.room);
      buffer = over g e z.new.out z.result z.auto.out z.ensures.out z.ensures.state;
    }
