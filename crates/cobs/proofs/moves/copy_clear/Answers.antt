use Rattle.std.proofs.Common.{◌≡◌, ◌∙◌, ◌+◌, ◌≤◌, ℕ, List, length, take, drop, length-drop, ap, refl, arith}
use Rattle.std.proofs.lemmas.List.{length-take-le, take_all}
use Rattle.cobs.specs.InPlace.{written_over}
use Rattle.cobs.specs.Sentinel.{masked}
use Rattle.cobs.proofs.LanesLemmas.{all_clear}
use Rattle.cobs.proofs.WrittenLemmas.{written_next}
use Rattle.cobs.proofs.moves.copy_clear.Goals as goal

-- four writes, of which the last begins among the bytes of the third
copied : (s place : ℕ) (m old b1 b2 b3 b4 : List ℕ) → length m ≡ 254 → place + 254 ≤ length old
    → b1 ≡ written_over place (masked s (take 64 (drop 0 m))) old
    → b2 ≡ written_over (place + 64) (masked s (take 64 (drop 64 m))) b1
    → b3 ≡ written_over (place + 128) (masked s (take 64 (drop 128 m))) b2
    → b4 ≡ written_over (place + 190) (masked s (take 64 (drop 190 m))) b3
    → b4 ≡ written_over place (masked s m) old
copied s place m old b1 b2 b3 b4 count fits w1 w2 w3 w4 =
    let room : place + length m ≤ length old = omega (arith, count, fits) in
    let two : b2 ≡ written_over place (masked s (take (64 + 64) m)) old =
    w2 ∙ written_next s place 64 64 64 (place + 64) m (take 64 (drop 64 m)) old b1 w1 refl
    (omega arith) (omega arith) (omega (arith, count)) room (omega arith) in
    let three : b3 ≡ written_over place (masked s (take (128 + 64) m)) old =
    w3 ∙ written_next s place 128 128 64 (place + 128) m (take 64 (drop 128 m)) old b2 two refl
    (omega arith) (omega arith) (omega (arith, count)) room (omega arith) in
    w4
    ∙ written_next s place 192 190 64 (place + 190) m (take 64 (drop 190 m)) old b3 three refl
    (omega arith) (omega arith) (omega (arith, count)) room (omega arith)
    ∙ ap (λ x. written_over place (masked s x) old) (take_all 254 m (omega (arith, count)))

-- 64 bytes from a place on
long_from : (at : ℕ) (m lanes : List ℕ) → at + 64 ≤ length m → lanes ≡ take 64 (drop at m) → length lanes ≡ 64
long_from at m lanes l e = ap length e ∙ length-take-le 64 (drop at m) (omega (arith, length-drop at m, l))

pub least_of_four-requires : goal.least_of_four-requires
least_of_four-requires c =
    let m = c.args.bytes.now in (
      long_from 0 m _ (omega (arith, c.requires.count)) c.copy_64-first.ensures.lanes,
      long_from 64 m _ (omega (arith, c.requires.count)) c.copy_64-second.ensures.lanes,
      long_from 128 m _ (omega (arith, c.requires.count)) c.copy_64-third.ensures.lanes,
      long_from 190 m _ (omega (arith, c.requires.count)) c.copy_64-fourth.ensures.lanes,
    )

pub is_positive-requires : goal.is_positive-requires
is_positive-requires c = c.least_of_four.ensures.long

pub returns-clause-copied : goal.returns-clause-copied
returns-clause-copied c =
    copied c.args.sentinel c.args.place c.args.bytes.now c.args.buffer.now
    c.copy_64-first.new.to c.copy_64-second.new.to c.copy_64-third.new.to
    c.copy_64-fourth.new.to
    c.requires.count c.requires.room c.copy_64-first.ensures.copied
    c.copy_64-second.ensures.copied c.copy_64-third.ensures.copied
    c.copy_64-fourth.ensures.copied

pub returns-clause-clear : goal.returns-clause-clear
returns-clause-clear c = λ t.
    all_clear 64 128 190 254 c.args.bytes.now c.copy_64-first.result c.copy_64-second.result c.copy_64-third.result c.copy_64-fourth.result
    (omega arith) (omega arith) (omega arith) (omega arith) (c.least_of_four.ensures.lanes (c.is_positive.ensures t))
    c.copy_64-first.ensures.lanes c.copy_64-second.ensures.lanes c.copy_64-third.ensures.lanes c.copy_64-fourth.ensures.lanes
