use Rattle.std.proofs.Common.{◌≡◌, ◌+◌, ◌-◌, ◌≤◌, ℕ, List, true, length, take, drop, sym, ◌∙◌, ap, arith}
use Rattle.std.proofs.lemmas.List.{length-take-le}
use Rattle.cobs.specs.Feeding.{stands_by}
use Rattle.cobs.specs.Frames.{part_from, after}
use Rattle.cobs.specs.InPlace.{written_over}
use Rattle.cobs.specs.Sentinel.{masked}
use Rattle.cobs.proofs.AtOnceLemmas.{nonzero_in, window_written}
use Rattle.cobs.proofs.MaskingLemmas.{masked_length, masked_take}
use Rattle.cobs.proofs.WithinLemmas.{written_part, written_anew}
use Rattle.cobs.proofs.TakesLemmas.{none_front}
use Rattle.cobs.proofs.dec.progress.Progress.take_window.Goals as goal

-- the first n bytes were copied
module _ (key len n : ℕ) (bytes old mid : List ℕ) (within : n ≤ length bytes) (room : len + length bytes ≤ length old) (put : mid ≡ written_over len (take n (masked key bytes)) old) where
  copied : mid ≡ written_over len (masked key (take n bytes)) old
  copied = put ∙ ap (λ b. written_over len b old) (masked_take key n bytes)

  long : length (masked key (take n bytes)) ≡ n
  long = masked_length key (take n bytes) ∙ length-take-le n bytes within

  there : (k : ℕ) → k ≡ n → take k (drop len mid) ≡ masked key (take n bytes)
  there k e = ap (λ b. take k (drop len b)) copied ∙ written_part len k (masked key (take n bytes)) old (e ∙ sym long) (omega (arith, room))

pub put_zeros-self-requires-clause-nonzero : goal.put_zeros-self-requires-clause-nonzero
put_zeros-self-requires-clause-nonzero c = λ j l.
    let e = c.copy_until-n.ensures in
    let n = c.copy_until-n.result in
    let key = c.args.sentinel in
    let bytes = c.args.bytes.now in
    let len = c.args.self.now.len in
    let is = there key len n bytes c.args.buffer.now c.copy_until-n.new.buffer e.stops.within c.requires.room e.buffer (len + n - len) (omega arith) in
    rw is (nonzero_in key n bytes e.stops.none j (omega (arith, l, ap length is, masked_length key (take n bytes))))

pub returns-clause-front : goal.returns-clause-front
returns-clause-front c p s =
    let e = c.copy_until-n.ensures in
    let n = c.copy_until-n.result in
    let key = c.args.sentinel in
    let bytes = c.args.bytes.now in
    let old = c.args.buffer.now in
    let len = c.args.self.now.len in
    let left = c.in-Grab.left in
    let mid = c.copy_until-n.new.buffer in
    let is = there key len n bytes old mid e.stops.within c.requires.room e.buffer (len + n - len) (omega arith) in
    let first = long key len n bytes old mid e.stops.within c.requires.room e.buffer in
    let z = c.put_zeros-self in
    let count : length z.new.out ≡ n = z.auto.out ∙ ap length is ∙ first in
    let fits : len + n ≤ length old = omega (arith, e.stops.within, c.requires.room) in
    window_written key p bytes old _ c.args.self.now n left s e.stops.within e.stops.none fits (omega arith) z.new.out z.result c.in-Grab.is
    (z.ensures.out ∙ ap (part_from left true) is) count
    (written_anew len (len + n - len) _ z.new.out old mid (copied key len n bytes old mid e.stops.within c.requires.room e.buffer) (count ∙ sym first) (omega (arith, count)) (omega (arith, first, fits)))
    (z.ensures.state ∙ ap (λ b. stands_by (after left true b)) is)

pub returns-in_default-clause-front : goal.returns-in_default-clause-front
returns-in_default-clause-front c p s = none_front p _ _ _ s
