use Rattle.std.proofs.Common.{◌≡◌, ◌+◌, ◌≤◌, length, arith, refl}
use Rattle.std.proofs.lemmas.List.{length-append}
use Rattle.frames.proofs.StandingLemmas.{closes, closes_frame, closes_damaged}
use Rattle.frames.proofs.receiving.FrameReceiver.close.Goals as goal

pub returns-in-Some-clause-within : goal.returns-in-Some-clause-within
returns-in-Some-clause-within c =
    omega (arith, c.in-Some.ensures.within, length-append c.decode_kept.new.front c.split_at_mut-front.result.1.now)

pub returns-in-Some-clause-found : goal.returns-in-Some-clause-found
returns-in-Some-clause-found c limit s p i some =
    let r = c.args.self.now in
    let front = c.split_at_mut-front.result.0.now in
    let back = c.split_at_mut-front.result.1.now in
    let decoded = c.decode_kept.new.front in
    let whole : length front + length back ≡ length c.args.buffer.now = omega (arith, c.split_at_mut-front.ensures.front_len, c.split_at_mut-front.ensures.back_len, c.requires.within) in (
      closes limit s r (record { count = 0; past = r.past; sentinel = r.sentinel }) c.args.buffer.now p front decoded back i whole c.split_at_mut-front.ensures.front refl c.decode_kept.ensures.same,
      closes_frame limit s r (record { count = 0; past = r.past; sentinel = r.sentinel }) c.args.buffer.now p front decoded back i whole c.split_at_mut-front.ensures.front refl c.decode_kept.ensures.same
          c.in-Some.length c.in-Some.ensures.within c.in-Some.ensures.frame,
    )

pub returns-in-None-clause-found : goal.returns-in-None-clause-found
returns-in-None-clause-found c limit s p i some =
    let r = c.args.self.now in
    let front = c.split_at_mut-front.result.0.now in
    let back = c.split_at_mut-front.result.1.now in
    let decoded = c.decode_kept.new.front in
    let whole : length front + length back ≡ length c.args.buffer.now = omega (arith, c.split_at_mut-front.ensures.front_len, c.split_at_mut-front.ensures.back_len, c.requires.within) in (
      closes limit s r (record { count = 0; past = r.past; sentinel = r.sentinel }) c.args.buffer.now p front decoded back i whole c.split_at_mut-front.ensures.front refl c.decode_kept.ensures.same,
      closes_damaged limit s r (record { count = 0; past = r.past; sentinel = r.sentinel }) c.args.buffer.now p front decoded back i whole c.split_at_mut-front.ensures.front refl c.decode_kept.ensures.same (c.in-None.ensures.damaged refl),
    )
