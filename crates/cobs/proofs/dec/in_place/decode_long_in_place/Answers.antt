use Rattle.std.proofs.lemmas.Grind.{common_steps}
use Rattle.std.proofs.Common.{◌≡◌, ◌≢◌, ◌+◌, ◌-◌, ◌<◌, ◌≤◌, ℕ, List, length, take, drop, get_or, length-take, length-drop, arith, refl, sym, ap, ◌∙◌}
use Rattle.std.proofs.lemmas.List.{get_or-take, get_or-drop}
use Rattle.std.proofs.lemmas.Nat.{xor_of_8}
use Rattle.std.specs.Prelude.{bit_xor}
use Rattle.cobs.specs.Sentinel.{masked}
use Rattle.cobs.specs.Taking.{with_parsed}
use Rattle.cobs.specs.declared.dec.progress.Progress.{Progress}
use Rattle.cobs.proofs.MaskingLemmas.{masked_length}
use Rattle.cobs.proofs.SourcesLemmas.{clear_byte, masked_positive}
use Rattle.cobs.proofs.ReadingLemmas.{Reading, reading_done, reading_holds, EndsAt, shorter}
use Rattle.cobs.proofs.ShortLemmas.{done_answer}
use Rattle.cobs.proofs.WithinLemmas.{reading_begun, reading_front, unread_byte, ends_at}
use Rattle.cobs.proofs.dec.in_place.decode_long_in_place.Goals as goal
use Rattle.cobs.proofs.dec.in_place.decode_long_in_place.Goals.{After-answer_behind}

module _ (s : ℕ) (source buffer : List ℕ) (read : ℕ) (d : Progress) (r : Reading s source buffer read d) where
  -- some of the bytes behind aren't the sentinel
  module _ (m n : ℕ) (w : n ≤ length (take m (drop read buffer))) (none : (k : ℕ) → k < n → get_or (take m (drop read buffer)) k 0 ≢ s) where
    pub within_source : read ≤ length source → read + n ≤ length source
    within_source l = omega (arith, w, length-take m (drop read buffer), length-drop read buffer, r.long, l)

    pub source_clear : (k : ℕ) → read ≤ k → k < read + n → get_or source k 0 ≢ s
    source_clear k a b e =
        let few : n ≤ m = omega (arith, w, length-take m (drop read buffer)) in
        let inside : k < length source = omega (arith, a, b, w, length-take m (drop read buffer), length-drop read buffer, r.long) in
        let back : read + (k - read) ≡ k = omega (arith, a) in
        none (k - read) (omega (arith, a, b)) (get_or-take m (drop read buffer) (k - read) 0 (omega (arith, a, b, few)) ∙ get_or-drop read buffer (k - read) 0 ∙ ap (λ j. get_or buffer j 0) back ∙ unread_byte s source buffer read d r k a inside ∙ e)

    -- nor are they later
    pub later_clear : (buffer' : List ℕ) (read' : ℕ) (d' : Progress) → Reading s source buffer' read' d' → read ≤ read' → (k : ℕ) → read' ≤ k → k < read + n → get_or buffer' k 0 ≢ s
    later_clear buffer' read' d' r' l k a b e =
        let inside : k < length source = omega (arith, a, b, l, w, length-take m (drop read buffer), length-drop read buffer, r.long) in
        source_clear k (omega (arith, a, l)) b (sym (unread_byte s source buffer' read' d' r' k a inside) ∙ e)

-- 255 of them
seen : (s read : ℕ) (buffer : List ℕ) → read + 255 ≤ length buffer → ((k : ℕ) → k < 255 → 0 < get_or (masked s (take (read + 255 - read) (drop read buffer))) k 0)
    → (k : ℕ) → k < 255 → get_or (take (read + 255 - read) (drop read buffer)) k 0 ≢ s
seen s read buffer l clear k q = clear_byte s (take (read + 255 - read) (drop read buffer)) k (omega (arith, q, l, length-take (read + 255 - read) (drop read buffer), length-drop read buffer)) (clear k q)

many : (read : ℕ) (buffer : List ℕ) → read + 255 ≤ length buffer → 255 ≤ length (take (read + 255 - read) (drop read buffer))
many read buffer l = omega (arith, l, length-take (read + 255 - read) (drop read buffer), length-drop read buffer)

ends_here : (s read m n read' : ℕ) (source buffer buffer' : List ℕ) (d d' : Progress) (r : Reading s source buffer read d) (r' : Reading s source buffer' read' d') → m ≡ length buffer - read → read ≤ length buffer → n ≤ length (take m (drop read buffer))
    → read' ≡ read + n → (n < length (take m (drop read buffer)) → get_or (take m (drop read buffer)) n 0 ≡ s) → EndsAt s buffer' read'
ends_here s read m n read' source buffer buffer' d d' r r' e l w is end =
    let count : length (take m (drop read buffer)) ≡ length source - read = omega (arith, length-take m (drop read buffer), length-drop read buffer, r.long, e) in
    ends_at s source buffer' read' d' r' (read + n) is (omega (arith, w, count, r.long, l))
    (λ q.
    let few : n < length (take m (drop read buffer)) = omega (arith, q, count) in
    sym (unread_byte s source buffer read d r (read + n) (omega arith) q) ∙ sym (get_or-drop read buffer n 0) ∙ sym (get_or-take m (drop read buffer) n 0 (omega (arith, few, count, r.long, e))) ∙ end few)

pub by_code-requires : goal.by_code-requires
by_code-requires g c =
    masked_positive c.args.sentinel (get_or c.args.buf.now 0 0) c.requires.begins

pub loop-buf-init : goal.loop-buf-init
loop-buf-init g c =
    let s = c.args.sentinel in
    let source = c.args.buf.now in
    record {
      reading = reading_begun s source _ c.requires.some (omega arith) c.requires.begins (xor_of_8 s (get_or source 0 0) c.ranges.sentinel.fits (c.requires.bytes 0)) c.by_code.ensures.state refl;
      inside = omega (arith, c.requires.some);
    }

pub take_some_within-read-requires-clause-begun : goal.take_some_within-read-requires-clause-begun
take_some_within-read-requires-clause-begun g c = (_, c.loop-buf.invariant.reading.reads.stands)

pub take_some_within-read-requires-clause-behind : goal.take_some_within-read-requires-clause-behind
take_some_within-read-requires-clause-behind g c = omega (arith, shorter _ _ _ c.loop-buf.invariant.reading.reads)

pub take_some_within-read-requires-clause-clear : goal.take_some_within-read-requires-clause-clear
take_some_within-read-requires-clause-clear g c =
    let s = c.args.sentinel in
    let buf = c.loop-buf.buf in
    let read = c.loop-buf.read in
    let r = c.loop-buf.invariant.reading in
    let l : read + 255 ≤ length buf = omega (arith, c.loop-buf-test.true, c.loop-buf.invariant.inside) in
    let later = later_clear s c.args.buf.now buf read c.loop-buf.progress r (read + 255 - read) 255 (many read buf l) (seen s read buf l (c.is_clear_255.ensures c.if-is_clear_255.true)) in
    λ k a b. later buf read c.loop-buf.progress r (omega arith) k a b

pub loop-buf-preserved : goal.loop-buf-preserved
loop-buf-preserved g c =
    let s = c.args.sentinel in
    let source = c.args.buf.now in
    let buf = c.loop-buf.buf in
    let read = c.loop-buf.read in
    let r = c.loop-buf.invariant.reading in
    let fits : (j : ℕ) → bit_xor s (get_or source j 0) < 256 = λ j. xor_of_8 s (get_or source j 0) c.ranges.sentinel.fits (c.requires.bytes j) in
    let l : read + 255 ≤ length buf = omega (arith, c.loop-buf-test.true, c.loop-buf.invariant.inside) in
    let f = c.take_some_within-read in
    let t = reading_front s source buf read c.loop-buf.progress r (read + 255) f.result f.new.self f.new.buffer (omega arith) l fits (f.ensures.front _ r.reads.stands) in
    record { reading = t; inside = omega (arith, t.reads.within, t.long, masked_length s source) }

pub take_some_within-read-requires-in-loop-read-clause-begun : goal.take_some_within-read-requires-in-loop-read-clause-begun
take_some_within-read-requires-in-loop-read-clause-begun g c = (_, c.loop-read.invariant.reading.reads.stands)

pub take_some_within-read-requires-in-loop-read-clause-inside : goal.take_some_within-read-requires-in-loop-read-clause-inside
take_some_within-read-requires-in-loop-read-clause-inside g c =
    let buf = c.loop-buf.buf in
    let read = c.loop-buf.read in
    let r = c.loop-buf.invariant.reading in
    let end = within_source c.args.sentinel c.args.buf.now buf read c.loop-buf.progress r (length buf - read) c.before_by_64.result c.before_by_64.ensures.within c.before_by_64.ensures.none (omega (arith, c.loop-buf.invariant.inside, r.long)) in
    omega (arith, end, c.loop-read.invariant.reading.long)

pub take_some_within-read-requires-in-loop-read-clause-behind : goal.take_some_within-read-requires-in-loop-read-clause-behind
take_some_within-read-requires-in-loop-read-clause-behind g c = omega (arith, shorter _ _ _ c.loop-read.invariant.reading.reads)

pub take_some_within-read-requires-in-loop-read-clause-clear : goal.take_some_within-read-requires-in-loop-read-clause-clear
take_some_within-read-requires-in-loop-read-clause-clear g c =
    let buf = c.loop-buf.buf in
    let read = c.loop-buf.read in
    let later = later_clear c.args.sentinel c.args.buf.now buf read c.loop-buf.progress c.loop-buf.invariant.reading (length buf - read) c.before_by_64.result c.before_by_64.ensures.within c.before_by_64.ensures.none in
    λ k a b. later c.loop-read.buf c.loop-read.read c.loop-read.progress c.loop-read.invariant.reading c.loop-read.invariant.from k a b

pub loop-read-preserved : goal.loop-read-preserved
loop-read-preserved g c =
    let s = c.args.sentinel in
    let source = c.args.buf.now in
    let buf = c.loop-buf.buf in
    let read = c.loop-buf.read in
    let r = c.loop-buf.invariant.reading in
    let r2 = c.loop-read.invariant.reading in
    let fits : (j : ℕ) → bit_xor s (get_or source j 0) < 256 = λ j. xor_of_8 s (get_or source j 0) c.ranges.sentinel.fits (c.requires.bytes j) in
    let end : read + c.before_by_64.result ≤ length source = within_source s source buf read c.loop-buf.progress r (length buf - read) c.before_by_64.result c.before_by_64.ensures.within c.before_by_64.ensures.none (omega (arith, c.loop-buf.invariant.inside, r.long)) in
    let f = c.take_some_within-read-in-loop-read in
    record {
      reading = reading_front s source c.loop-read.buf c.loop-read.read c.loop-read.progress r2 (read + c.before_by_64.result) f.result f.new.self f.new.buffer c.loop-read.invariant.within (omega (arith, end, r2.long)) fits (f.ensures.front _ r2.reads.stands);
      within = omega (arith, f.ensures.within, c.loop-read.invariant.within);
      from = omega (arith, c.loop-read.invariant.from);
    }

ends : (g : _) (c : After-answer_behind g) → EndsAt c.args.sentinel c.loop-read.buf c.loop-read.read
ends g c =
    let end : c.loop-read.read ≡ c.loop-buf.read + c.before_by_64.result = omega (arith, c.loop-read.invariant.within, c.loop-read-test.false) in
    ends_here c.args.sentinel c.loop-buf.read (length c.loop-buf.buf - c.loop-buf.read) c.before_by_64.result c.loop-read.read c.args.buf.now c.loop-buf.buf c.loop-read.buf c.loop-buf.progress c.loop-read.progress c.loop-buf.invariant.reading c.loop-read.invariant.reading
    (omega arith) c.loop-buf.invariant.inside c.before_by_64.ensures.within end c.before_by_64.ensures.end

pub returns : goal.returns
returns g c = record {
  answer =
      c.with_parsed.ensures ∙ ap (with_parsed c.loop-read.read) c.answer_behind.ensures
      ∙ done_answer (masked c.args.sentinel c.args.buf.now) _ _ (reading_done _ c.args.buf.now _ _ _ c.loop-read.invariant.reading (ends g (goal.at.returns g c).After-answer_behind));
  buffer = reading_holds _ _ _ _ _ c.loop-read.invariant.reading (ends g (goal.at.returns g c).After-answer_behind);
  bytes = c.requires.bytes;
}

pub loop-read-init : goal.loop-read-init
loop-read-init g c = record { reading = c.loop-buf.invariant.reading; within = omega arith; from = omega arith }

pub take_some_within-read-requires-clause-some : goal.take_some_within-read-requires-clause-some
take_some_within-read-requires-clause-some g c = grind (arith, common_steps)

pub loop-buf-smaller : goal.loop-buf-smaller
loop-buf-smaller g c = grind (arith, common_steps)

pub slice_bounds-before_by_64-end : goal.slice_bounds-before_by_64-end
slice_bounds-before_by_64-end g c = grind (arith, common_steps)

pub answer_behind-requires : goal.answer_behind-requires
answer_behind-requires g c = grind (arith, common_steps)
