use Rattle.std.proofs.Common.{◌≡◌, ◌+◌, ◌-◌, ◌<◌, ◌≤◌, arith, ap, sym, ◌∙◌, get_or, length, drop, length-take, length-drop, Ok, Err, None, subst, List, ℕ}
use Rattle.std.proofs.lemmas.Result.{err_from_is_err_and}
use Rattle.std.specs.Prelude.{bit_xor}
use Rattle.cobs.specs.Feeding.{answer_of, frame_after, placed}
use Rattle.cobs.specs.Sentinel.{masked}
use Rattle.cobs.specs.Streaming.{HasStreamed}
use Rattle.cobs.specs.Taking.{TakesPiece}
use Rattle.cobs.proofs.MaskingLemmas.{masked_length, masked_get}
use Rattle.cobs.proofs.TakesLemmas.{takes_piece}
use Rattle.cobs.proofs.TurnsLemmas.{Turn, turn_some, turn_refused, turn_on, turn_end, turn_front_for}
use Rattle.cobs.proofs.dec.progress.Progress.push_piece.Goals as goal
use Rattle.cobs.proofs.dec.progress.Progress.push_piece.Goals.{After-feed}

-- the bytes up to a sentinel were taken in
abbrev bytes : (c : After-feed) → List ℕ
bytes c = masked c.args.sentinel c.args.piece.now

abbrev now_at : (c : After-feed) → ℕ
now_at c = c.loop-at.at + c.take_stretch-at.result

turned : (c : After-feed) (p : List ℕ) → HasStreamed c.args.self.now p → Turn p (bytes c) c.args.buffer.now (now_at c) c.take_stretch-at.new.buffer c.take_stretch-at.new.self
turned c p s =
    let t = c.loop-at.invariant.turns p s in
    turn_front_for c.args.sentinel p c.args.piece.now c.args.buffer.now c.loop-at.at c.take_stretch-at.result c.loop-at.buffer c.take_stretch-at.new.buffer c.loop-at.self c.take_stretch-at.new.self
    t c.loop-at.auto.buffer (c.take_stretch-at.ensures.front t.now t.stands)

within : (c : After-feed) → now_at c ≤ length c.args.piece.now
within c =
    let at = c.loop-at.at in
    let piece = c.args.piece.now in
    omega (arith, c.take_stretch-at.ensures.within, c.loop-at.invariant.within, length-take (length piece - at) (drop at piece), length-drop at piece)

-- then a byte is fed
inside : (c : After-feed) → now_at c < length c.args.piece.now
inside c = omega (arith, within c, c.if-at-piece.false)

some : (c : After-feed) → now_at c < length (bytes c)
some c = omega (arith, inside c, masked_length c.args.sentinel c.args.piece.now)

fed : (c : After-feed) → bit_xor c.args.sentinel (get_or c.args.piece.now (now_at c) 0) ≡ get_or (bytes c) (now_at c) 0
fed c = sym (masked_get c.args.sentinel c.args.piece.now (now_at c) (inside c))

-- what the call of `feed` gives for the bytes of the frame so far
room : (c : After-feed) → length c.take_stretch-at.new.buffer ≡ length c.args.buffer.now
room c = c.take_stretch-at.auto.buffer ∙ c.loop-at.auto.buffer

answers : (c : After-feed) (now : List ℕ) → HasStreamed c.take_stretch-at.new.self now → c.feed.result ≡ answer_of (length c.args.buffer.now) now (get_or (bytes c) (now_at c) 0)
answers c now s = rw (room c, fed c) at (c.feed.ensures.answer now s)

has : (c : After-feed) (now : List ℕ) → HasStreamed c.take_stretch-at.new.self now → HasStreamed c.feed.new.self (frame_after now (get_or (bytes c) (now_at c) 0))
has c now s = rw (fed c) at (c.feed.ensures.has now s)

put : (c : After-feed) (now : List ℕ) → HasStreamed c.take_stretch-at.new.self now → c.feed.new.buffer ≡ placed now (get_or (bytes c) (now_at c) 0) c.take_stretch-at.new.buffer
put c now s = rw (fed c) at (c.feed.ensures.buffer now s)

pub loop-at-preserved : goal.loop-at-preserved
loop-at-preserved c =
    let a = (goal.at.loop-at-preserved c).After-feed in
    record {
      within = omega (arith, inside a);
      turns = λ p s.
          let t = turned a p s in
          turn_on p (bytes a) c.args.buffer.now (now_at a) c.take_stretch-at.new.buffer c.take_stretch-at.new.self t (some a) c.feed.new.buffer c.feed.new.self
          (sym (answers a t.now t.stands) ∙ c.in_ok-feed.was ∙ ap (λ o. Ok o) c.in-None.is) (has a t.now t.stands) (put a t.now t.stands);
    }

pub returns-in-Some : goal.returns-in-Some
returns-in-Some c =
    let a = (goal.at.returns-in-Some c).After-feed in
    takes_piece c.args.self.now c.args.buffer.now (bytes a) _ c.feed.new.self c.feed.new.buffer
    (λ p s.
    let t = turned a p s in
    let o = turn_some p (bytes a) c.args.buffer.now (now_at a) c.take_stretch-at.new.buffer c.take_stretch-at.new.self t (some a) c.in-Some.decoded (sym (answers a t.now t.stands) ∙ c.in_ok-feed.was ∙ ap (λ o. Ok o) c.in-Some.is) in
    record { left = _; outcome = rw (← put a t.now t.stands) at o; stands = has a t.now t.stands })
    (omega (arith, some a), omega (arith, rw (c.in_ok-feed.was, c.in-Some.is) at c.feed.ensures.within)) (c.feed.auto.buffer ∙ room a)

pub returns-in_err-feed : goal.returns-in_err-feed
returns-in_err-feed c =
    let a = (goal.at.returns-in_err-feed c).After-feed in
    let e = err_from_is_err_and c.from_residual.result c.from_residual.ensures.1 in
    subst (λ r. TakesPiece c.args.self.now c.args.buffer.now (bytes a) r c.feed.new.self c.feed.new.buffer) (sym (e.1 ∙ ap (λ x. Err x) e.2))
    (takes_piece c.args.self.now c.args.buffer.now (bytes a) _ c.feed.new.self c.feed.new.buffer
    (λ p s.
    let t = turned a p s in
    let o = turn_refused p (bytes a) c.args.buffer.now (now_at a) c.take_stretch-at.new.buffer c.take_stretch-at.new.self t (some a) _ (sym (answers a t.now t.stands) ∙ c.in_err-feed.was) in
    record { left = _; outcome = rw (← put a t.now t.stands) at o; stands = has a t.now t.stands })
    tt (c.feed.auto.buffer ∙ room a))

pub returns-then-at-piece : goal.returns-then-at-piece
returns-then-at-piece c =
    let key = c.args.sentinel in
    let piece = c.args.piece.now in
    let at = c.loop-at.at in
    let t = c.take_stretch-at in
    takes_piece c.args.self.now c.args.buffer.now (masked key piece) (Ok None) t.new.self t.new.buffer
    (λ p s.
    let before = c.loop-at.invariant.turns p s in
    let turn = turn_front_for key p piece c.args.buffer.now at t.result c.loop-at.buffer t.new.buffer c.loop-at.self t.new.self before c.loop-at.auto.buffer (t.ensures.front before.now before.stands) in
    record { left = _; outcome = turn_end p (masked key piece) c.args.buffer.now (at + t.result) t.new.buffer t.new.self turn (omega (arith, c.if-at-piece.true, masked_length key piece)); stands = turn.stands })
    tt (t.auto.buffer ∙ c.loop-at.auto.buffer)
