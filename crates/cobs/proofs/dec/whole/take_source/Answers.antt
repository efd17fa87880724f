use Rattle.std.proofs.lemmas.Grind.{common_steps}
use Rattle.std.proofs.Common.{◌≡◌, ◌≢◌, ◌+◌, ◌-◌, ◌^◌, ◌<◌, ◌≤◌, ℕ, zero, suc, false, List, [], ◌∷◌, ◌++◌, length, take, drop, get_or, inl, inr, refl, length-take, length-drop, arith, sym, ap, ◌∙◌, subst}
use Rattle.std.proofs.lemmas.Bool.{cases_lt}
use Rattle.std.proofs.lemmas.List.{take-take, length-take-le, get_or-take, get_or-drop}
use Rattle.std.specs.Prelude.{bit_xor, min}
use Rattle.cobs.specs.Feeding.{by_code, placed}
use Rattle.cobs.specs.Frames.{NoZero, part, part_from, after}
use Rattle.cobs.specs.InPlace.{stretch, overwritten, written_over}
use Rattle.cobs.specs.Sentinel.{masked}
use Rattle.cobs.specs.Streaming.{HasStreamed}
use Rattle.cobs.specs.Taking.{TakesFront}
use Rattle.cobs.specs.declared.dec.progress.Progress.{Progress}
use Rattle.cobs.specs.declared.dec.state.DecoderState.{DecoderState}
use Rattle.cobs.specs.declared.dec.state.DecoderState.TheVariants.{Idle}
use Rattle.cobs.proofs.FeedsLemmas.{stays}
use Rattle.cobs.proofs.TakesLemmas.{owes_idle}
use Rattle.cobs.proofs.MaskingLemmas.{masked_length, masked_get, masked_take, masked_drop}
use Rattle.cobs.proofs.ShortLemmas.{Entering, entering_new, entered_long, entered_shorter, entering_byte, entering_front}
use Rattle.cobs.proofs.SourcesLemmas.{clear_byte, masked_positive, stretch_front}
use Rattle.cobs.proofs.dec.whole.take_source.Goals as goal

-- what was taken in of a part of the bytes behind is of all of them
longer : (p piece rest old new : List ℕ) (n m : ℕ) (d : Progress) → piece ≡ take m rest → TakesFront p piece old n d new → TakesFront p rest old n d new
longer p piece rest old new n m d e f =
    let few : n ≤ min m (length rest) = omega (arith, f.within, ap length e, length-take m rest) in
    let same : take n piece ≡ take n rest = ap (take n) e ∙ take-take n m rest (omega (arith, few)) in
    record {
      within = omega (arith, few);
      clear = subst NoZero same f.clear;
      fits = subst (λ b. 0 < n → length (part (p ++ b)) ≤ length old) same f.fits;
      has = subst (λ b. HasStreamed d (p ++ b)) same f.has;
      buffer = subst (λ b. 0 < n → new ≡ written_over (length (part p)) (part_from (after 0 false p).0 (after 0 false p).1 b) old) same f.buffer;
      same = f.same;
    }

-- a part of the bytes behind, each XORed with the sentinel
part_behind : (s read m : ℕ) (source : List ℕ) → masked s (take m (drop read source)) ≡ take m (drop read (masked s source))
part_behind s read m source = sym (masked_take s m (drop read source)) ∙ ap (take m) (sym (masked_drop s read source))

-- such a part is taken in
part_taken : (s read m n : ℕ) (source old dest dest' : List ℕ) (d d' : Progress) → Entering (masked s source) old dest read d
    → TakesFront (take read (masked s source)) (masked s (take m (drop read source))) dest n d' dest' → Entering (masked s source) old dest' (read + n) d'
part_taken s read m n source old dest dest' d d' r f =
    entering_front (masked s source) old dest read d r n d' dest' (longer (take read (masked s source)) _ (drop read (masked s source)) dest dest' n m d' (part_behind s read m source) f)

-- a byte more
byte_taken : (s read : ℕ) (source old dest dest' : List ℕ) (d d' : Progress) → Entering (masked s source) old dest read d → read < length source → get_or source read 0 ≢ s
    → ((p : List ℕ) → HasStreamed d p → HasStreamed d' (p ++ bit_xor s (get_or source read 0) ∷ [])) → ((p : List ℕ) → HasStreamed d p → dest' ≡ placed p (bit_xor s (get_or source read 0)) dest) → Entering (masked s source) old dest' (read + 1) d'
byte_taken s read source old dest dest' d d' r l other stands put =
    entering_byte (masked s source) old dest read d r d' dest' _ (omega (arith, l, masked_length s source)) (masked_get s source read l) (masked_positive s (get_or source read 0) other) stands put

-- none before a place, and none of a part from there on
none_on : (s at n m : ℕ) (bytes : List ℕ) → ((k : ℕ) → k < at → get_or bytes k 0 ≢ s) → n ≤ m → ((k : ℕ) → k < n → get_or (take m (drop at bytes)) k 0 ≢ s) → (k : ℕ) → k < at + n → get_or bytes k 0 ≢ s
none_on s at n m bytes before few part k q e = elim (cases_lt k at) [
  | inl a ↦ before k (omega (arith, a)) e
  | inr a ↦ part (k - at) (omega (arith, a, q)) (get_or-take m (drop at bytes) (k - at) 0 (omega (arith, a, q, few)) ∙ get_or-drop at bytes (k - at) 0 ∙ ap (λ j. get_or bytes j 0) (omega (arith, a)) ∙ e)
]

-- none of a part is the sentinel
none_in : (s at m : ℕ) (source : List ℕ) → ((k : ℕ) → k < at + m → get_or source k 0 ≢ s) → (k : ℕ) → k < length (take m (drop at source)) → get_or (take m (drop at source)) k 0 ≢ s
none_in s at m source none k l e =
    let inside : k < m = omega (arith, l, length-take m (drop at source)) in
    none (at + k) (omega (arith, inside)) (sym (get_or-drop at source k 0) ∙ sym (get_or-take m (drop at source) k 0 inside) ∙ e)

-- there is room for a part
part_fits : (s read m : ℕ) (source old dest : List ℕ) (d : Progress) → Entering (masked s source) old dest read d → 0 < read → length source < 2 ^ 64 → read + m ≤ length source → length source ≤ length old + 1
    → d.len + length (take m (drop read source)) ≤ length dest
part_fits s read m source old dest d r begun w l room =
    omega (arith, entered_shorter _ _ _ _ _ r (omega (arith, w, masked_length s source)), entered_long _ _ _ _ _ r, length-take m (drop read source), length-drop read source, begun, l, room)

-- the next 255 bytes are seen to hold no sentinel
clear_on : (s read : ℕ) (source : List ℕ) → ((k : ℕ) → k < read → get_or source k 0 ≢ s) → read + 255 ≤ length source → ((k : ℕ) → k < 255 → 0 < get_or (masked s (take (read + 255 - read) (drop read source))) k 0) → (k : ℕ) → k < read + 255 → get_or source k 0 ≢ s
clear_on s read source none l clear =
    let m : ℕ = read + 255 - read in
    none_on s read 255 m source none (omega arith) (λ k q. clear_byte s (take m (drop read source)) k (omega (arith, q, l, length-take m (drop read source), length-drop read source)) (clear k q))

none_first : (s : ℕ) (source : List ℕ) → get_or source 0 0 ≢ s → (k : ℕ) → k < 1 → get_or source k 0 ≢ s
none_first s source h zero l = h
none_first s source h (suc k) l = absurd (omega arith)

-- what comes before the first sentinel behind
module _ (s read n : ℕ) (source : List ℕ) (l : read ≤ length source) (before : (k : ℕ) → k < read → get_or source k 0 ≢ s) (w : n ≤ length (take (length source - read) (drop read source)))
    (part : (k : ℕ) → k < n → get_or (take (length source - read) (drop read source)) k 0 ≢ s) where
  long : length (take (length source - read) (drop read source)) ≡ length source - read
  long = length-take-le (length source - read) (drop read source) (omega (arith, length-drop read source))

  none_before : (k : ℕ) → k < read + n → get_or source k 0 ≢ s
  none_before = none_on s read n (length source - read) source before (omega (arith, w, long)) part

  stretch_is : (n < length (take (length source - read) (drop read source)) → get_or (take (length source - read) (drop read source)) n 0 ≡ s) → masked s (take (read + n) source) ≡ stretch (masked s source)
  stretch_is end = stretch_front s source (read + n) (omega (arith, w, long, l)) none_before
      (λ q. sym (get_or-drop read source n 0) ∙ sym (get_or-take (length source - read) (drop read source) n 0 (omega (arith, q))) ∙ end (omega (arith, q, long)))

-- the first code was taken
begun : (s : ℕ) (source dest : List ℕ) (state : DecoderState) → 0 < length source → get_or source 0 0 ≢ s → bit_xor s (get_or source 0 0) < 256 → state ≡ by_code (bit_xor s (get_or source 0 0))
    → Entering (masked s source) dest dest 1 (record { state = state; len = 0 })
begun s source dest state some other small is =
    let code = bit_xor s (get_or source 0 0) in
    let idle : Progress = record { state = Idle; len = 0 } in
    let new : HasStreamed idle [] = record { state = refl; len = refl } in
    let first : 0 < code = masked_positive s (get_or source 0 0) other in
    let told = owes_idle code first in
    let on = λ (p : List ℕ) (h : HasStreamed idle p). stays dest idle p code first small h told.0 in
    byte_taken s 0 source dest dest dest idle (record { state = state; len = 0 }) (entering_new (masked s source) dest idle new) some other
    (λ p h. subst (λ x. HasStreamed (record { state = x; len = 0 }) (p ++ code ∷ [])) (told.1 ∙ sym is) (on p h).0) (λ p h. (on p h).2)

pub loop-read-init : goal.loop-read-init
loop-read-init g c =
    let s = c.args.sentinel in
    let source = c.args.source.now in
    record {
      begun = omega arith;
      inside = omega (arith, c.requires.some);
      entering = begun s source c.args.dest.now c.by_code.result c.requires.some c.requires.begins c.by_code.ensures.byte c.by_code.ensures.state;
      none = none_first s source c.requires.begins;
    }

pub take_some-read-requires-clause-room : goal.take_some-read-requires-clause-room
take_some-read-requires-clause-room g c =
    let source = c.args.source.now in
    let read = c.loop-read.read in
    part_fits c.args.sentinel read (read + 255 - read) source c.args.dest.now c.loop-read.dest c.loop-read.progress c.loop-read.invariant.entering c.loop-read.invariant.begun (omega arith)
    (omega (arith, c.loop-read-test.true, c.loop-read.invariant.inside)) c.requires.room

pub take_some-read-requires-clause-clear : goal.take_some-read-requires-clause-clear
take_some-read-requires-clause-clear g c =
    let read = c.loop-read.read in
    let none = clear_on c.args.sentinel read c.args.source.now c.loop-read.invariant.none (omega (arith, c.loop-read-test.true, c.loop-read.invariant.inside)) (c.is_clear_255.ensures c.if-is_clear_255.true) in
    none_in c.args.sentinel read (read + 255 - read) c.args.source.now (λ k l. none k (omega (arith, l)))

pub loop-read-preserved : goal.loop-read-preserved
loop-read-preserved g c =
    let s = c.args.sentinel in
    let source = c.args.source.now in
    let read = c.loop-read.read in
    let t = c.take_some-read in
    let fits : read + 255 ≤ length source = omega (arith, c.loop-read-test.true, c.loop-read.invariant.inside) in
    let none = clear_on s read source c.loop-read.invariant.none fits (c.is_clear_255.ensures c.if-is_clear_255.true) in
    let few : t.result ≤ 255 = omega (arith, t.ensures.within, length-take (read + 255 - read) (drop read source)) in
    record {
      begun = omega (arith, c.loop-read.invariant.begun);
      inside = omega (arith, few, fits);
      entering = part_taken s read (read + 255 - read) t.result source c.args.dest.now c.loop-read.dest t.new.buffer c.loop-read.progress t.new.self c.loop-read.invariant.entering (t.ensures.front _ c.loop-read.invariant.entering.stands);
      none = λ k l. none k (omega (arith, l, few));
    }

-- what is behind goes in up to the sentinel
module _ (s read n : ℕ) (source old dest : List ℕ) (d : Progress) (l : read ≤ length source) (before : (k : ℕ) → k < read → get_or source k 0 ≢ s) (w : n ≤ length (take (length source - read) (drop read source)))
    (part : (k : ℕ) → k < n → get_or (take (length source - read) (drop read source)) k 0 ≢ s) (r : Entering (masked s source) old dest read d) where
  abbrev rest : List ℕ
  rest = take (read + n - read) (drop read source)

  inside : read + n ≤ length source
  inside = omega (arith, w, long s read n source l before w part, l)

  count : length rest ≡ n
  count = omega (arith, length-take-le (read + n - read) (drop read source) (omega (arith, inside, length-drop read source)))

  rest_clear : (k : ℕ) → k < length rest → get_or rest k 0 ≢ s
  rest_clear = none_in s read (read + n - read) source (λ k q. none_before s read n source l before w part k (omega (arith, q)))

  entered : (dest' : List ℕ) (d' : Progress) → ((p : List ℕ) → HasStreamed d p → TakesFront p (masked s rest) dest (length rest) d' dest') → Entering (masked s source) old dest' (read + n) d'
  entered dest' d' t = subst (λ j. Entering (masked s source) old dest' j d') (omega (arith, count)) (part_taken s read (read + n - read) (length rest) source old dest dest' d d' r (t _ r.stands))

  -- all before the sentinel was taken in
  all : (n < length (take (length source - read) (drop read source)) → get_or (take (length source - read) (drop read source)) n 0 ≡ s) → take (read + n) (masked s source) ≡ stretch (masked s source)
  all end = masked_take s (read + n) source ∙ stretch_is s read n source l before w part end

  counted : (n < length (take (length source - read) (drop read source)) → get_or (take (length source - read) (drop read source)) n 0 ≡ s) → read + n ≡ length (stretch (masked s source))
  counted end = sym (length-take-le (read + n) (masked s source) (omega (arith, inside, masked_length s source))) ∙ ap length (all end)

pub take_all-requires-clause-room : goal.take_all-requires-clause-room
take_all-requires-clause-room g c = λ _.
    let i = c.loop-read.invariant in
    let e = c.before_sentinel.ensures in
    let read = c.loop-read.read in
    let n = c.before_sentinel.result in
    part_fits c.args.sentinel read (read + n - read) c.args.source.now c.args.dest.now c.loop-read.dest c.loop-read.progress i.entering i.begun (omega arith)
    (omega (arith, inside c.args.sentinel read n c.args.source.now c.args.dest.now c.loop-read.dest c.loop-read.progress i.inside i.none e.within e.none i.entering)) c.requires.room

pub take_all-requires-clause-clear : goal.take_all-requires-clause-clear
take_all-requires-clause-clear g c =
    let i = c.loop-read.invariant in
    let e = c.before_sentinel.ensures in
    rest_clear c.args.sentinel c.loop-read.read c.before_sentinel.result c.args.source.now c.args.dest.now c.loop-read.dest c.loop-read.progress i.inside i.none e.within e.none i.entering

pub returns-clause-end : goal.returns-clause-end
returns-clause-end g c =
    let i = c.loop-read.invariant in
    let e = c.before_sentinel.ensures in
    counted c.args.sentinel c.loop-read.read c.before_sentinel.result c.args.source.now c.args.dest.now c.loop-read.dest c.loop-read.progress i.inside i.none e.within e.none i.entering e.end

pub returns-clause-stands : goal.returns-clause-stands
returns-clause-stands g c =
    let i = c.loop-read.invariant in
    let e = c.before_sentinel.ensures in
    let t = c.take_all in
    subst (HasStreamed t.new.self) (all c.args.sentinel c.loop-read.read c.before_sentinel.result c.args.source.now c.args.dest.now c.loop-read.dest c.loop-read.progress i.inside i.none e.within e.none i.entering e.end)
    (entered c.args.sentinel c.loop-read.read c.before_sentinel.result c.args.source.now c.args.dest.now c.loop-read.dest c.loop-read.progress i.inside i.none e.within e.none i.entering t.new.buffer t.new.self t.ensures).stands

pub returns-clause-dest : goal.returns-clause-dest
returns-clause-dest g c =
    let i = c.loop-read.invariant in
    let e = c.before_sentinel.ensures in
    let t = c.take_all in
    (entered c.args.sentinel c.loop-read.read c.before_sentinel.result c.args.source.now c.args.dest.now c.loop-read.dest c.loop-read.progress i.inside i.none e.within e.none i.entering t.new.buffer t.new.self t.ensures).holds
    ∙ ap (λ p. overwritten (part p) c.args.dest.now) (all c.args.sentinel c.loop-read.read c.before_sentinel.result c.args.source.now c.args.dest.now c.loop-read.dest c.loop-read.progress i.inside i.none e.within e.none i.entering e.end)

pub returns-clause-some : goal.returns-clause-some
returns-clause-some g c = omega (arith, c.loop-read.invariant.begun)

pub returns-clause-within : goal.returns-clause-within
returns-clause-within g c =
    let i = c.loop-read.invariant in
    let e = c.before_sentinel.ensures in
    inside c.args.sentinel c.loop-read.read c.before_sentinel.result c.args.source.now c.args.dest.now c.loop-read.dest c.loop-read.progress i.inside i.none e.within e.none i.entering

pub by_code-requires : goal.by_code-requires
by_code-requires g c = masked_positive c.args.sentinel (get_or c.args.source.now 0 0) c.requires.begins

pub overflow_add-read : goal.overflow_add-read
overflow_add-read g c = grind (arith, common_steps)

pub slice_bounds-take_some-end : goal.slice_bounds-take_some-end
slice_bounds-take_some-end g c = grind (arith, common_steps)

pub take_some-read-requires-clause-some : goal.take_some-read-requires-clause-some
take_some-read-requires-clause-some g c = grind (arith, common_steps)
