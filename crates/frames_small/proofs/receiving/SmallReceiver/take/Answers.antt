use Rattle.std.proofs.Common.{◌<◌, length, ap, arith, refl}
use Rattle.frames_small.proofs.DecidingLemmas.{takes_byte, takes_owed, takes_code, owes_is}
use Rattle.frames_small.specs.declared.receiving.SmallReceiver.{SmallReceiver}
use Rattle.frames_small.proofs.receiving.SmallReceiver.take.Goals as goal
use Rattle.frames_small.proofs.receiving.SmallReceiver.take.Goals.{then-self, else-self}

pub returns-then-self-ne0-clause-takes : goal.returns-then-self-ne0-clause-takes
returns-then-self-ne0-clause-takes c p d =
    let near : c.args.self.now.decided < length c.args.buffer.now = omega (arith, c.requires.decided, c.requires.fits) in
    takes_byte c.args.self.now c.args.buffer.now p c.args.byte c.requires.some c.ranges.byte.fits d _ refl near c.if-self-ne0.true refl refl refl

pub returns-after-self-clause-takes : goal.returns-after-self-clause-takes
returns-after-self-clause-takes c p d =
    let near : c.args.self.now.decided < length c.args.buffer.now = omega (arith, c.requires.decided, c.requires.fits) in
    elim c.if-self.branch [
      | then-self w ↦ rw w.buffer-is (takes_owed c.args.self.now c.args.buffer.now p c.args.byte c.requires.some c.ranges.byte.fits d _ (ap (λ (x : SmallReceiver). x.stretch) w.self-is) c.if-self-ne0.false refl (owes_is c.args.byte c.ranges.byte.fits) near w.if-self.true (ap (λ (x : SmallReceiver). x.decided) w.self-is))
      | else-self w ↦ rw w.buffer-is (takes_code c.args.self.now c.args.buffer.now p c.args.byte c.requires.some c.ranges.byte.fits d _ (ap (λ (x : SmallReceiver). x.stretch) w.self-is) c.if-self-ne0.false refl (owes_is c.args.byte c.ranges.byte.fits) w.if-self.false (ap (λ (x : SmallReceiver). x.decided) w.self-is))
    ]
