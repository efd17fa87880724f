use Rattle.std.proofs.Common.{◌≡◌, ◌∙◌, ◌+◌, ◌-◌, ap, sym, length, drop, take, length-drop, arith}
use Rattle.std.proofs.lemmas.List.{length-take-le, drop-drop, drop-take, take-take}
use Rattle.cobs.specs.InPlace.{written_over}
use Rattle.cobs.specs.Sentinel.{masked}
use Rattle.cobs.proofs.WrittenLemmas.{written_ends}
use Rattle.cobs.proofs.moves.move_ends.Goals as goal

pub returns : goal.returns
returns g c =
    let w = g.row.W in
    let n = c.args.n in
    let from = c.args.from in
    let s = c.args.sentinel in
    let old = c.args.buffer.now in
    let behind = n - w in
    let rest = drop from old in
    let m = take n rest in
    let long : length m ≡ n = length-take-le n rest (omega (arith, length-drop from old, c.requires.within)) in
    let front : c.load-front.result ≡ take w m = c.load-front.ensures ∙ sym (take-take w n rest c.requires.ends.some) in
    let back : c.load-back.result ≡ drop behind m =
    c.load-back.ensures
    ∙ ap (take w) (sym (drop-drop behind from old))
    ∙ sym (drop-take behind w rest)
    ∙ ap (λ j. drop behind (take j rest)) (omega (arith, c.requires.ends.some)) in
    c.store-2.ensures
    ∙ ap (written_over (c.args.place + behind) (masked s c.load-back.result)) c.store.ensures
    ∙ written_ends s c.args.place behind (c.args.place + behind) w n m _ _ old long front back (omega (arith, c.requires.ends.few)) c.requires.ends.some (omega (arith, c.requires.ends.some)) (omega (arith, c.requires.within, c.requires.down)) (omega arith)
