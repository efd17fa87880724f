use Rattle.std.proofs.Common.{◌∙◌, ◌+◌, ◌-◌, ap, drop, take, arith}
use Rattle.cobs.specs.InPlace.{written_over}
use Rattle.cobs.specs.Sentinel.{masked}
use Rattle.cobs.proofs.WrittenLemmas.{moved_none, moved_on}
use Rattle.cobs.proofs.moves.move_down.Goals as goal

pub loop-moved-preserved : goal.loop-moved-preserved
loop-moved-preserved c =
    let n = c.loop-moved.moved in
    record {
      within = omega arith;
      moved =
          c.store.ensures
          ∙ ap (λ b. written_over (c.args.place + n) (masked c.args.sentinel b) c.loop-moved.buffer) c.load-lanes.ensures
          ∙ moved_on c.args.sentinel c.args.from c.args.place n 64 (c.args.place + n) (c.args.from + n) c.args.buffer.now c.loop-moved.buffer c.loop-moved.invariant.moved
          c.requires.down (omega (arith, c.requires.within, c.loop-moved-test.true)) (omega arith) (omega arith);
    }

pub returns : goal.returns
returns c =
    let n = c.loop-moved.moved in
    c.move_few.ensures
    ∙ moved_on c.args.sentinel c.args.from c.args.place n (c.args.n - n) (c.args.place + n) (c.args.from + n) c.args.buffer.now c.loop-moved.buffer c.loop-moved.invariant.moved
    c.requires.down (omega (arith, c.requires.within, c.loop-moved.invariant.within)) (omega arith) (omega arith)
    ∙ ap (λ j. written_over c.args.place (masked c.args.sentinel (take j (drop c.args.from c.args.buffer.now))) c.args.buffer.now) (omega (arith, c.loop-moved.invariant.within))

pub loop-moved-init : goal.loop-moved-init
loop-moved-init c = record { within = omega arith; moved = moved_none c.args.sentinel c.args.from c.args.place c.args.buffer.now }
