use Rattle.std.proofs.Common.{◌≡◌, ◌+◌, ◌-◌, ◌++◌, ℕ, length, take, drop, replicate, sym, ap, ◌∙◌, arith}
use Rattle.std.proofs.lemmas.List.{length-replicate, take-replicate, replicate-append-replicate, take-append-drop}
use Rattle.cobs.specs.InPlace.{written_over}
use Rattle.cobs.proofs.WrittenLemmas.{written_then, written_twice}
use Rattle.cobs.proofs.moves.zero_over.Goals as goal

zeros : (n : ℕ) → length (replicate {A = ℕ} n 0) ≡ n
zeros n = length-replicate {A = ℕ} n 0

pub loop-at-init : goal.loop-at-init
loop-at-init c = record {
  within = omega arith;
  over = sym (ap (λ j. take c.args.place c.args.buffer.now ++ drop j c.args.buffer.now) (omega arith) ∙ take-append-drop c.args.place c.args.buffer.now);
}

pub loop-at-preserved : goal.loop-at-preserved
loop-at-preserved c =
    let at = c.loop-at.at in
    let old = c.args.buffer.now in
    record {
      within = omega (arith, c.loop-at-test.true);
      over =
          c.row_over.ensures
          ∙ ap (written_over (c.args.place + at) (replicate 64 0)) c.loop-at.invariant.over
          ∙ written_then c.args.place (c.args.place + at) (replicate at 0) (replicate 64 0) old (omega (arith, zeros at, zeros 64, c.requires.room, c.loop-at-test.true)) (omega (arith, zeros at))
          ∙ ap (λ z. written_over c.args.place z old) (replicate-append-replicate {A = ℕ} at 64 0);
    }

pub returns : goal.returns
returns c =
    let at = c.loop-at.at in
    let n = c.args.n in
    let old = c.args.buffer.now in
    let front : take (n - 64) (replicate at 0) ≡ replicate (n - 64) 0 = take-replicate (n - 64) at 0 (omega (arith, c.loop-at-test.false)) in
    let all : n - 64 + 64 ≡ n = omega (arith, c.requires.many) in
    c.row_over-2.ensures
    ∙ ap (written_over (c.args.place + (n - 64)) (replicate 64 0)) c.loop-at.invariant.over
    ∙ written_twice c.args.place (n - 64) (c.args.place + (n - 64)) (replicate at 0) (replicate 64 0) old (omega (arith, zeros at, c.loop-at-test.false)) (omega (arith, zeros at, zeros 64, c.loop-at.invariant.within)) (omega (arith, zeros 64, c.requires.room, c.requires.many)) (omega arith)
    ∙ ap (λ f. written_over c.args.place (f ++ replicate 64 0) old) front
    ∙ ap (λ z. written_over c.args.place z old) (replicate-append-replicate {A = ℕ} (n - 64) 64 0)
    ∙ ap (λ j. written_over c.args.place (replicate j 0) old) all
