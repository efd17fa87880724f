use Rattle.std.proofs.Common.{◌≡◌, arith, refl, sym, ◌∙◌}
use Rattle.cobs.specs.Taking.{left_in}
use Rattle.cobs.proofs.FeedsLemmas.{plain_told, code_told, takes_none}
use Rattle.cobs.proofs.TakesLemmas.{takes_zero, takes_stored, takes_put, owes_other}
use Rattle.cobs.proofs.dec.progress.Progress.feed.Goals as goal

pub returns-then-byte-eq0 : goal.returns-then-byte-eq0
returns-then-byte-eq0 c = takes_zero c.args.self.now c.args.buffer.now c.args.byte c.end.result c.end.new.self c.if-byte-eq0.true c.end.ensures.stands c.end.ensures.answer c.end.ensures.within

pub returns-then-left-gt0 : goal.returns-then-left-gt0
returns-then-left-gt0 c =
    let e = c.put.ensures in
    let told = plain_told c.args.self.now.state c.args.byte (omega arith) (omega (arith, c.left.ensures, c.if-left-gt0.true)) in
    takes_put c.args.self.now c.args.buffer.now c.args.byte c.args.byte c.put.result c.put.new.self c.put.new.buffer (omega arith) (omega (arith, c.ranges.byte.fits)) (omega arith) c.put.auto.buffer told.0
    (e.state ∙ c.behind-self.ensures ∙ told.1) e.len e.answer e.buffer

pub returns-in-Grab : goal.returns-in-Grab
returns-in-Grab c =
    let e = c.put-in-Grab.ensures in
    let told = code_told c.args.self.now.state c.in-Grab.field-0 c.args.byte c.in-Grab.is (omega (arith, c.left.ensures, c.if-left-gt0.false)) (omega arith) in
    takes_put c.args.self.now c.args.buffer.now c.args.byte 0 c.put-in-Grab.result c.put-in-Grab.new.self c.put-in-Grab.new.buffer (omega arith) (omega (arith, c.ranges.byte.fits)) (omega arith) c.put-in-Grab.auto.buffer told.0
    (e.state ∙ c.by_code-self.ensures.state ∙ told.1) e.len e.answer e.buffer

pub returns-in_default : goal.returns-in_default
returns-in_default c =
    let none : left_in c.args.self.now.state ≡ 0 = omega (arith, c.left.ensures, c.if-left-gt0.false) in
    let told = owes_other c.args.self.now.state none c.in_default.not-Grab c.args.byte (omega arith) in
    takes_stored c.args.self.now c.args.buffer.now c.args.byte _ _ c.args.buffer.now (omega arith) refl
    (takes_none c.args.buffer.now c.args.self.now _ c.args.byte (omega arith) (omega (arith, c.ranges.byte.fits)) (c.by_code-self.ensures.state ∙ sym told.1) told.0 refl)
