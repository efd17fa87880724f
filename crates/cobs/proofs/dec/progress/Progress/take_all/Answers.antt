use Rattle.std.proofs.Common.{◌≡◌, ◌+◌, ◌-◌, ◌++◌, length, take, drop, get_or, length-take, length-drop, ap, sym, ◌∙◌, subst, arith}
use Rattle.std.proofs.lemmas.List.{take_all, get_or-drop}
use Rattle.cobs.specs.Sentinel.{masked}
use Rattle.cobs.specs.Taking.{TakesFront}
use Rattle.cobs.proofs.ShortLemmas.{behind_read}
use Rattle.cobs.proofs.TakesLemmas.{none_front, front_on}
use Rattle.cobs.proofs.dec.progress.Progress.take_all.Goals as goal

pub loop-read-init : goal.loop-read-init
loop-read-init g c = record { within = omega arith; len = omega arith; front = λ p s. none_front p _ _ _ s }

pub take_some-read-requires-clause-room : goal.take_some-read-requires-clause-room
take_some-read-requires-clause-room g c =
    let read = c.loop-read.read in
    let bytes = c.args.bytes.now in
    omega (arith, c.requires.room (omega (arith, c.loop-read-test.true)), c.loop-read.invariant.len, c.loop-read.auto.buffer, c.loop-read-test.true, length-take (length bytes - read) (drop read bytes), length-drop read bytes)

pub take_some-read-requires-clause-clear : goal.take_some-read-requires-clause-clear
take_some-read-requires-clause-clear g c = λ k l e.
    let read = c.loop-read.read in
    let bytes = c.args.bytes.now in
    let rest = take_all (length bytes - read) (drop read bytes) (omega (arith, length-drop read bytes)) in
    c.requires.clear (read + k) (omega (arith, l, ap length rest, length-drop read bytes)) (sym (get_or-drop read bytes k 0) ∙ sym (ap (λ b. get_or b k 0) rest) ∙ e)

pub loop-read-preserved : goal.loop-read-preserved
loop-read-preserved g c =
    let read = c.loop-read.read in
    let bytes = c.args.bytes.now in
    let key = c.args.sentinel in
    let i = c.loop-read.invariant in
    let t = c.take_some-read in
    record {
      within = omega (arith, t.ensures.within, length-take (length bytes - read) (drop read bytes), length-drop read bytes, i.within);
      len = omega (arith, i.len, t.ensures.len);
      front = λ p s.
          let f = i.front p s in
          front_on p (masked key bytes) c.args.buffer.now c.loop-read.buffer t.new.buffer read t.result c.loop-read.self t.new.self c.loop-read.auto.buffer f
          (subst (λ b. TakesFront (p ++ take read (masked key bytes)) b c.loop-read.buffer t.result t.new.self t.new.buffer) (behind_read key read bytes) (t.ensures.front _ f.has));
    }

pub returns : goal.returns
returns g c p s =
    let all : c.loop-read.read ≡ length c.args.bytes.now = omega (arith, c.loop-read.invariant.within, c.loop-read-test.false) in
    subst (λ n. TakesFront p (masked c.args.sentinel c.args.bytes.now) c.args.buffer.now n c.loop-read.self c.loop-read.buffer) all (c.loop-read.invariant.front p s)
