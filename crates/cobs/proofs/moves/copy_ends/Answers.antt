use Rattle.std.proofs.Common.{◌≡◌, ◌∙◌, ◌+◌, ◌-◌, ap, length, drop, length-drop, arith}
use Rattle.std.proofs.lemmas.List.{take_all}
use Rattle.cobs.specs.InPlace.{written_over}
use Rattle.cobs.specs.Sentinel.{masked}
use Rattle.cobs.proofs.WrittenLemmas.{written_ends}
use Rattle.cobs.proofs.moves.copy_ends.Goals as goal

pub returns : goal.returns
returns g c =
    let w = g.row.W in
    let m = c.args.bytes.now in
    let n = length m in
    let s = c.args.sentinel in
    let old = c.args.buffer.now in
    let behind = n - w in
    let back : c.load-back.result ≡ drop behind m = c.load-back.ensures ∙ take_all w (drop behind m) (omega (arith, length-drop behind m, c.requires.ends.some)) in
    c.store-2.ensures
    ∙ ap (written_over (c.args.place + behind) (masked s c.load-back.result)) c.store.ensures
    ∙ written_ends s c.args.place behind (c.args.place + behind) w n m _ _ old (omega arith) c.load-front.ensures back (omega (arith, c.requires.ends.few)) c.requires.ends.some (omega (arith, c.requires.ends.some)) c.requires.room (omega arith)
