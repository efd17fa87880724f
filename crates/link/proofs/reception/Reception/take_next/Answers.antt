use Rattle.std.proofs.Common.{◌≡◌, ◌+◌, ◌<◌, ◌≤◌, [], length, arith, refl, sym, ap, ◌∙◌, subst}
use Rattle.link.specs.Stream.{kept, over}
use Rattle.link.specs.Receivers.{IsAt, buffer_in}
use Rattle.link.proofs.FetchingLemmas.{has_bytes}
use Rattle.link.specs.Finds.{Brings, front_of}
use Rattle.link.proofs.ReceivingLemmas.{limit_at, kept_is, is_cut, span_at}
use Rattle.link.specs.Lemmas.RunLaws.{none_kept, past_brings, run_brings, whole_brings, sentinel_brings}
use Rattle.link.proofs.reception.Reception.take_next.Goals as goal

pub take_whole-requires-clause-clear : goal.take_whole-requires-clause-clear
take_whole-requires-clause-clear g c = (is_cut _ _ _ _ _ _ refl c.before_sentinel-size.ensures.before c.split_at.ensures.front c.split_at.ensures.back).nonzero

pub take_run-requires : goal.take_run-requires
take_run-requires g c = (is_cut _ _ _ _ _ _ refl c.before_sentinel-size.ensures.before c.split_at.ensures.front c.split_at.ensures.back).nonzero

pub returns-then-size-limit-clause-brings : goal.returns-then-size-limit-clause-brings
returns-then-size-limit-clause-brings g c limit s b i =
    let bytes = c.args.bytes.now in
    let run = c.split_at.result.0.now in
    let behind = c.split_at.result.1.now in
    let cut = is_cut _ s bytes run behind _ i.sentinel_is c.before_sentinel-size.ensures.before c.split_at.ensures.front c.split_at.ensures.back in
    let between = c.is_between-between.ensures.state.0 c.if-between-2.true in
    let k = kept_is limit s _ _ c.args.self.now.past b between.0 i.state in
    let e : b ≡ kept [] = k.1 ∙ ap kept (none_kept k.0 _ k.2.counted between.1) in
    let sized = c.split_at.ensures.front_len in
    let some : 0 < length run = omega (arith, sized, c.if-size-gt0.true) in
    let short : length run ≤ limit = omega (arith, sized, c.if-size-limit.true, c.limit.ensures, k.2.room) in
    let marked = cut.marked (has_bytes behind c.is_empty.result c.is_empty.ensures c.if-not-is_empty.true) in
    let w = c.take_whole.ensures.found limit s (subst (IsAt g.D.Decoding.inside limit s c.args.self.now) e i) some in
    whole_brings limit s b bytes run behind (front_of (buffer_in g.D.Decoding.inside c.take_whole.new.self)) _ cut.parts (IsAt g.D.Decoding.inside limit s c.take_whole.new.self)
    e cut.nonzero some short sized marked w.0 c.take_whole.result w.1

pub returns-in-Some-clause-brings : goal.returns-in-Some-clause-brings
returns-in-Some-clause-brings g c limit s b i =
    let cut = is_cut _ s c.args.bytes.now _ _ _ i.sentinel_is c.before_sentinel-size.ensures.before c.split_at.ensures.front c.split_at.ensures.back in
    let r = c.in-Some.ensures.runs limit s b i in
    past_brings limit s b _ _ _ (front_of (buffer_in g.D.Decoding.inside c.take_run.new.self)) c.before_sentinel-size.result cut.parts c.in-Some.used _ c.limit-in-Some.result (c.limit-in-Some.ensures ∙ limit_at limit s _ _ c.take_run.new.self.past over r.at.state) r

pub returns-then-is_empty-clause-brings : goal.returns-then-is_empty-clause-brings
returns-then-is_empty-clause-brings g c limit s b i =
    let cut = is_cut _ s c.args.bytes.now _ _ _ i.sentinel_is c.before_sentinel-size.ensures.before c.split_at.ensures.front c.split_at.ensures.back in
    run_brings limit s b _ _ _ (front_of (buffer_in g.D.Decoding.inside c.take_run.new.self)) c.before_sentinel-size.result cut.parts c.split_at.ensures.front_len _ (c.in-None.ensures.runs limit s b i) c.split_at.ensures.back

pub returns-clause-brings : goal.returns-clause-brings
returns-clause-brings g c limit s b i =
    let behind = c.split_at.result.1.now in
    let cut = is_cut _ s c.args.bytes.now _ behind _ i.sentinel_is c.before_sentinel-size.ensures.before c.split_at.ensures.front c.split_at.ensures.back in
    let r = c.in-None.ensures.runs limit s b i in
    subst (λ n. Brings limit s b c.args.bytes.now (front_of (buffer_in g.D.Decoding.inside c.take_sentinel.new.self)) (record { used = c.before_sentinel-size.result + 1; stretch = n; found = c.take_sentinel.result }) (IsAt g.D.Decoding.inside limit s c.take_sentinel.new.self)) (sym c.held-stretch.ensures.count)
    (sentinel_brings limit s b _ _ behind (front_of (buffer_in g.D.Decoding.inside c.take_sentinel.new.self)) c.before_sentinel-size.result cut.parts c.split_at.ensures.front_len _ r (IsAt g.D.Decoding.inside limit s c.take_sentinel.new.self)
    (cut.marked (has_bytes behind c.is_empty-2.result c.is_empty-2.ensures c.if-is_empty.false)) (c.take_sentinel.ensures.at limit s r.now r.at) _ (span_at limit s _ _ _ r.now r.at.state) c.take_sentinel.result (c.take_sentinel.ensures.finds limit s r.now r.at))
