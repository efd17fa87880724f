use Rattle.std.proofs.Common.{◌≡◌, ◌∙◌, ◌+◌, ◌-◌, length, drop, take, ap, refl, arith}
use Rattle.std.proofs.lemmas.List.{take_all}
use Rattle.cobs.specs.InPlace.{written_over}
use Rattle.cobs.specs.Sentinel.{masked}
use Rattle.cobs.proofs.WrittenLemmas.{written_next, moved_none}
use Rattle.cobs.proofs.moves.copy_over.Goals as goal

pub loop-at-init : goal.loop-at-init
loop-at-init c = record { within = omega arith; copied = moved_none c.args.sentinel 0 c.args.place c.args.buffer.now }

pub loop-at-preserved : goal.loop-at-preserved
loop-at-preserved c =
    let at = c.loop-at.at in
    record {
      within = omega (arith, c.loop-at-test.true);
      copied =
          c.store.ensures
          ∙ written_next c.args.sentinel c.args.place at at 64 (c.args.place + at) c.args.bytes.now c.load-lanes.result c.args.buffer.now c.loop-at.buffer c.loop-at.invariant.copied c.load-lanes.ensures
          (omega arith) (omega arith) (omega (arith, c.loop-at-test.true)) c.requires.room refl;
    }

pub returns : goal.returns
returns c =
    let at = c.loop-at.at in
    let bytes = c.args.bytes.now in
    let whole : at + (length bytes - at) ≡ length bytes = omega (arith, c.loop-at.invariant.within) in
    c.copy_few.ensures
    ∙ written_next c.args.sentinel c.args.place at at (length bytes - at) (c.args.place + at) bytes (take (length bytes - at) (drop at bytes)) c.args.buffer.now c.loop-at.buffer c.loop-at.invariant.copied refl
    (omega arith) (omega arith) (omega (arith, whole)) c.requires.room refl
    ∙ ap (λ b. written_over c.args.place (masked c.args.sentinel b) c.args.buffer.now) (take_all (at + (length bytes - at)) bytes (omega (arith, whole)))
