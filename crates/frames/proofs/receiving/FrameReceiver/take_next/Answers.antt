use Rattle.std.proofs.Common.{◌≡◌, ◌<◌, ◌≤◌, ◌++◌, [], length, drop, arith, sym, ap, ◌∙◌, subst}
use Rattle.std.proofs.lemmas.List.{take-append-drop}
use Rattle.cobs.specs.InPlace.{stretch}
use Rattle.cobs.specs.Sentinel.{masked}
use Rattle.link.specs.Stream.{kept}
use Rattle.link.specs.Steps.{Event}
use Rattle.frames.specs.Standing.{StandsAt}
use Rattle.frames.specs.Events.{FindsFrame}
use Rattle.frames.proofs.StandingLemmas.{kept_is, stands_between, has_bytes, sentinel_span}
use Rattle.link.specs.Lemmas.RunLaws.{run_of, none_kept, sentinel_behind}
use Rattle.frames.proofs.BringingLemmas.{past_brings, run_brings, whole_brings, sentinel_brings}
use Rattle.frames.proofs.receiving.FrameReceiver.take_next.Goals as goal

pub take_whole-requires-clause-clear : goal.take_whole-requires-clause-clear
take_whole-requires-clause-clear c =
    run_of c.args.self.now.sentinel c.args.bytes.now c.split_at.result.0.now c.before_sentinel-size.result c.before_sentinel-size.ensures.before c.split_at.ensures.front

pub returns-then-size-buffer-clause-brings : goal.returns-then-size-buffer-clause-brings
returns-then-size-buffer-clause-brings c limit s b i =
    let r = c.args.self.now in
    let bytes = c.args.bytes.now in
    let size = c.before_sentinel-size.result in
    let run = c.split_at.result.0.now in
    let behind = c.split_at.result.1.now in
    let parts : bytes ≡ run ++ behind = sym (take-append-drop size bytes) ∙ ap (λ x. x ++ drop size bytes) (sym c.split_at.ensures.front) ∙ ap (λ x. run ++ x) (sym c.split_at.ensures.back) in
    let before : size ≡ length (stretch (masked s bytes)) = c.before_sentinel-size.ensures.before ∙ ap (λ n. length (stretch (masked n bytes))) i.terms.sentinel in
    let between = c.is_between.ensures.0 c.if-is_between.true in
    let k = kept_is limit s r c.args.buffer.now b between.0 i in
    let e : b ≡ kept [] = k.1 ∙ ap kept (none_kept k.0 _ k.2.counted between.1) in
    let z = run_of s bytes run size before c.split_at.ensures.front in
    let sized = c.split_at.ensures.front_len in
    let some : 0 < length run = omega (arith, sized, c.if-size-gt0.true) in
    let short : length run ≤ limit = omega (arith, sized, c.if-size-buffer.true, i.terms.room) in
    let marked = sentinel_behind s bytes behind size before c.split_at.ensures.back (has_bytes behind c.is_empty.result c.is_empty.ensures c.if-not-is_empty.true) in
    let found = subst (λ n. FindsFrame c.take_whole.new.buffer (Event.ended (masked n run)) c.take_whole.result) i.terms.sentinel c.take_whole.ensures.found in
    whole_brings limit s b bytes run behind c.take_whole.new.buffer size parts (StandsAt limit s r c.take_whole.new.buffer)
    e z some short sized marked
    (stands_between limit s r c.take_whole.new.buffer (record { room = c.take_whole.ensures.same ∙ i.terms.room; sentinel = i.terms.sentinel }) between.0 between.1)
    c.take_whole.result found

pub returns-in-Some-clause-brings : goal.returns-in-Some-clause-brings
returns-in-Some-clause-brings c limit s b i =
    let bytes = c.args.bytes.now in
    let size = c.before_sentinel-size.result in
    let run = c.split_at.result.0.now in
    let behind = c.split_at.result.1.now in
    let parts : bytes ≡ run ++ behind = sym (take-append-drop size bytes) ∙ ap (λ x. x ++ drop size bytes) (sym c.split_at.ensures.front) ∙ ap (λ x. run ++ x) (sym c.split_at.ensures.back) in
    let before : size ≡ length (stretch (masked s bytes)) = c.before_sentinel-size.ensures.before ∙ ap (λ n. length (stretch (masked n bytes))) i.terms.sentinel in
    let z = run_of s bytes run size before c.split_at.ensures.front in
    let q = c.in-Some.ensures.runs limit s b z i in
    past_brings limit s b bytes run behind c.take_run.new.buffer size parts c.in-Some.used (StandsAt limit s c.take_run.new.self c.take_run.new.buffer) _ q.at.terms.room q

pub returns-then-is_empty-clause-brings : goal.returns-then-is_empty-clause-brings
returns-then-is_empty-clause-brings c limit s b i =
    let bytes = c.args.bytes.now in
    let size = c.before_sentinel-size.result in
    let run = c.split_at.result.0.now in
    let behind = c.split_at.result.1.now in
    let parts : bytes ≡ run ++ behind = sym (take-append-drop size bytes) ∙ ap (λ x. x ++ drop size bytes) (sym c.split_at.ensures.front) ∙ ap (λ x. run ++ x) (sym c.split_at.ensures.back) in
    let before : size ≡ length (stretch (masked s bytes)) = c.before_sentinel-size.ensures.before ∙ ap (λ n. length (stretch (masked n bytes))) i.terms.sentinel in
    let z = run_of s bytes run size before c.split_at.ensures.front in
    run_brings limit s b bytes run behind c.take_run.new.buffer size parts c.split_at.ensures.front_len (StandsAt limit s c.take_run.new.self c.take_run.new.buffer) (c.in-None.ensures.runs limit s b z i) c.split_at.ensures.back

pub returns-clause-brings : goal.returns-clause-brings
returns-clause-brings c limit s b i =
    let bytes = c.args.bytes.now in
    let size = c.before_sentinel-size.result in
    let run = c.split_at.result.0.now in
    let behind = c.split_at.result.1.now in
    let parts : bytes ≡ run ++ behind = sym (take-append-drop size bytes) ∙ ap (λ x. x ++ drop size bytes) (sym c.split_at.ensures.front) ∙ ap (λ x. run ++ x) (sym c.split_at.ensures.back) in
    let before : size ≡ length (stretch (masked s bytes)) = c.before_sentinel-size.ensures.before ∙ ap (λ n. length (stretch (masked n bytes))) i.terms.sentinel in
    let z = run_of s bytes run size before c.split_at.ensures.front in
    let some = has_bytes behind c.is_empty-2.result c.is_empty-2.ensures c.if-is_empty.false in
    let q = c.in-None.ensures.runs limit s b z i in
    sentinel_brings limit s b bytes run behind c.take_sentinel.new.buffer size parts c.split_at.ensures.front_len (StandsAt limit s c.take_run.new.self c.take_run.new.buffer) q (StandsAt limit s c.take_sentinel.new.self c.take_sentinel.new.buffer)
    (sentinel_behind s bytes behind size before c.split_at.ensures.back some) (c.take_sentinel.ensures.at limit s q.now q.at) _ (sentinel_span limit s _ _ q.now q.at) c.take_sentinel.result (c.take_sentinel.ensures.finds limit s q.now q.at)
