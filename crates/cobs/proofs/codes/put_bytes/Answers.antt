use Rattle.std.proofs.Common.{◌≡◌, ◌+◌, ◌++◌, [], length, ap, sym, ◌∙◌, append_assoc, refl, subst, arith}
use Rattle.std.proofs.lemmas.List.{append-nil}
use Rattle.cobs.specs.Codes.{Open}
use Rattle.cobs.specs.Sentinel.{masked}
use Rattle.cobs.proofs.SteppingLemmas.{open_coded}
use Rattle.cobs.proofs.codes.put_bytes.Goals as goal

pub loop-rest-init : goal.loop-rest-init
loop-rest-init g c = record {
  later = omega arith;
  begins = c.requires.block.begins;
  end = refl;
  some = c.requires.block.some;
  whole = ([], refl, λ m o. rw (append-nil m) o);
}

pub loop-rest-preserved : goal.loop-rest-preserved
loop-rest-preserved g c =
    let front = c.split_at.result.0.now in
    let back = c.split_at.result.1.now in
    let done = c.loop-rest.invariant.whole in
    let step = c.put_some.ensures in
    let long : length front ≡ 64 = omega (arith, c.split_at.ensures.front_len) in
    let there : c.loop-rest.place.len + length front ≡ c.loop-rest.place.len + 64 = omega (arith, long) in
    record {
      later = omega (arith, step.later, c.loop-rest.invariant.later);
      begins = omega (arith, step.begins, long);
      end = omega (arith, c.loop-rest.invariant.end, c.split_at.ensures.back_len, c.loop-rest-test.true);
      some = omega (arith, c.split_at.ensures.back_len, c.loop-rest-test.true);
      whole = (
        done.0 ++ front,
        done.1 ∙ ap (λ b. done.0 ++ b) c.split_at.ensures.by_index.0 ∙ sym (append_assoc done.0 front back),
        λ m o. subst (λ j. Open (masked c.args.sentinel c.put_some.new.dest) c.put_some.result j (m ++ (done.0 ++ front))) there
            (subst (λ b. Open (masked c.args.sentinel c.put_some.new.dest) c.put_some.result (c.loop-rest.place.len + length front) b) (append_assoc m done.0 front) (open_coded _ _ _ _ (step.coding (m ++ done.0) (done.2 m o)))),
      );
    }

pub returns : goal.returns
returns g c =
    let done = c.loop-rest.invariant.whole in
    let last = c.put_some-2.ensures in
    record {
      begins = omega (arith, last.begins, c.loop-rest.invariant.end);
      later = omega (arith, last.later, c.loop-rest.invariant.later);
      coding = λ m o.
          let all = append_assoc m done.0 c.loop-rest.rest.now ∙ ap (λ b. m ++ b) (sym done.1) in
          rw c.loop-rest.invariant.end at (rw all at (last.coding (m ++ done.0) (done.2 m o)));
    }
