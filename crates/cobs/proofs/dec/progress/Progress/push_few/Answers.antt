use Rattle.std.proofs.Common.{◌≡◌, ◌<◌, arith, ap, sym, ◌∙◌, get_or, length, Ok, Err, None, subst, List, ℕ}
use Rattle.std.proofs.lemmas.Result.{err_from_is_err_and}
use Rattle.std.specs.Prelude.{bit_xor}
use Rattle.cobs.specs.Feeding.{answer_of, frame_after, placed}
use Rattle.cobs.specs.Sentinel.{masked}
use Rattle.cobs.specs.Streaming.{HasStreamed}
use Rattle.cobs.specs.Taking.{TakesPiece}
use Rattle.cobs.proofs.MaskingLemmas.{masked_length, masked_get}
use Rattle.cobs.proofs.TakesLemmas.{takes_piece}
use Rattle.cobs.proofs.TurnsLemmas.{turn_none, turn_some, turn_refused, turn_on, turn_end}
use Rattle.cobs.proofs.dec.progress.Progress.push_few.Goals as goal
use Rattle.cobs.proofs.dec.progress.Progress.push_few.Goals.{After-feed}

abbrev bytes : (c : After-feed) → List ℕ
bytes c = masked c.args.sentinel c.args.piece.now

some : (c : After-feed) → c.loop-at.at < length (bytes c)
some c = omega (arith, c.loop-at-test.true, masked_length c.args.sentinel c.args.piece.now)

fed : (c : After-feed) → bit_xor c.args.sentinel (get_or c.args.piece.now c.loop-at.at 0) ≡ get_or (bytes c) c.loop-at.at 0
fed c = sym (masked_get c.args.sentinel c.args.piece.now c.loop-at.at c.loop-at-test.true)

-- what the call of `feed` gives for the bytes of the frame so far
answers : (c : After-feed) (now : List ℕ) → HasStreamed c.loop-at.self now → c.feed.result ≡ answer_of (length c.args.buffer.now) now (get_or (bytes c) c.loop-at.at 0)
answers c now s = rw (c.loop-at.auto.buffer, fed c) at (c.feed.ensures.answer now s)

has : (c : After-feed) (now : List ℕ) → HasStreamed c.loop-at.self now → HasStreamed c.feed.new.self (frame_after now (get_or (bytes c) c.loop-at.at 0))
has c now s = rw (fed c) at (c.feed.ensures.has now s)

put : (c : After-feed) (now : List ℕ) → HasStreamed c.loop-at.self now → c.feed.new.buffer ≡ placed now (get_or (bytes c) c.loop-at.at 0) c.loop-at.buffer
put c now s = rw (fed c) at (c.feed.ensures.buffer now s)

pub loop-at-init : goal.loop-at-init
loop-at-init c = λ p s. turn_none p (masked c.args.sentinel c.args.piece.now) c.args.buffer.now c.args.self.now s

pub loop-at-preserved : goal.loop-at-preserved
loop-at-preserved c =
    let a = (goal.at.loop-at-preserved c).After-feed in
    λ p s.
    let t = c.loop-at.invariant p s in
    turn_on p (bytes a) c.args.buffer.now c.loop-at.at c.loop-at.buffer c.loop-at.self t (some a) c.feed.new.buffer c.feed.new.self
    (sym (answers a t.now t.stands) ∙ c.in_ok-decoded.was ∙ ap (λ o. Ok o) (c.in_default.is)) (has a t.now t.stands) (put a t.now t.stands)

pub returns-in-Some : goal.returns-in-Some
returns-in-Some c =
    let a = (goal.at.returns-in-Some c).After-feed in
    takes_piece c.args.self.now c.args.buffer.now (bytes a) _ c.feed.new.self c.feed.new.buffer
    (λ p s.
    let t = c.loop-at.invariant p s in
    let o = turn_some p (bytes a) c.args.buffer.now c.loop-at.at c.loop-at.buffer c.loop-at.self t (some a) c.in-Some.decoded (sym (answers a t.now t.stands) ∙ c.in_ok-decoded.was ∙ ap (λ o. Ok o) c.in-Some.is) in
    record { left = _; outcome = rw (← put a t.now t.stands) at o; stands = has a t.now t.stands })
    (omega (arith, some a), omega (arith, rw (c.in_ok-decoded.was, c.in-Some.is) at c.feed.ensures.within)) (c.feed.auto.buffer ∙ c.loop-at.auto.buffer)

pub returns-in_err-decoded : goal.returns-in_err-decoded
returns-in_err-decoded c =
    let a = (goal.at.returns-in_err-decoded c).After-feed in
    let e = err_from_is_err_and c.from_residual.result c.from_residual.ensures.1 in
    subst (λ r. TakesPiece c.args.self.now c.args.buffer.now (bytes a) r c.feed.new.self c.feed.new.buffer) (sym (e.1 ∙ ap (λ x. Err x) e.2))
    (takes_piece c.args.self.now c.args.buffer.now (bytes a) _ c.feed.new.self c.feed.new.buffer
    (λ p s.
    let t = c.loop-at.invariant p s in
    let o = turn_refused p (bytes a) c.args.buffer.now c.loop-at.at c.loop-at.buffer c.loop-at.self t (some a) _ (sym (answers a t.now t.stands) ∙ c.in_err-decoded.was) in
    record { left = _; outcome = rw (← put a t.now t.stands) at o; stands = has a t.now t.stands })
    tt (c.feed.auto.buffer ∙ c.loop-at.auto.buffer))

pub returns : goal.returns
returns c =
    takes_piece c.args.self.now c.args.buffer.now (masked c.args.sentinel c.args.piece.now) (Ok None) c.loop-at.self c.loop-at.buffer
    (λ p s.
    let t = c.loop-at.invariant p s in
    record { left = _; outcome = turn_end p (masked c.args.sentinel c.args.piece.now) c.args.buffer.now c.loop-at.at c.loop-at.buffer c.loop-at.self t (omega (arith, c.loop-at-test.false, masked_length c.args.sentinel c.args.piece.now)); stands = t.stands })
    tt c.loop-at.auto.buffer
