use Rattle.std.proofs.Common.{◌∙◌, ap, drop, length, length-drop, arith}
use Rattle.std.proofs.lemmas.List.{length-take-le}
use Rattle.cobs.specs.InPlace.{written_over}
use Rattle.cobs.specs.Sentinel.{masked}
use Rattle.cobs.proofs.moves.copy_64.Goals as goal

pub store-requires : goal.store-requires
store-requires c =
    let long = ap length c.load-lanes.ensures ∙ length-take-le 64 (drop c.args.at c.args.bytes.now) (omega (arith, length-drop c.args.at c.args.bytes.now, c.requires.count)) in
    (omega arith, (long, c.requires.room))

pub returns-clause-copied : goal.returns-clause-copied
returns-clause-copied c = c.store.ensures ∙ ap (λ b. written_over c.args.place (masked c.args.sentinel b) c.args.to.now) c.load-lanes.ensures

pub returns-clause-lanes : goal.returns-clause-lanes
returns-clause-lanes c = c.load-lanes.ensures
