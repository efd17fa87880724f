use Rattle.std.proofs.Common.{[], ◌++◌, take, refl, sym, ◌∙◌, arith, length-take-le, None}
use Rattle.line_io.specs.Calls.{Gave-none, Gave-then, read_quiet}
use Rattle.postcard.specs.Gathers.{sentinel_of}
use Rattle.link.proofs.HandingLemmas.{on_ok, on_err, uses_then, uses_read, uses_last, taken_some, one_read}
use Rattle.link.proofs.FetchingLemmas.{gathers_no_bytes, gathers_more}
use Rattle.link.proofs.gathering.collect.Goals as goal

pub loop-n-init : goal.loop-n-init
loop-n-init g c = (record { bytes = []; gave = Gave-none _; few = omega arith }, [], Gave-none _, refl, gathers_no_bytes _ _ _ _ _ _ _, refl)

pub returns-then-is_err-clause-gathered : goal.returns-then-is_err-clause-gathered
returns-then-is_err-clause-gathered g c =
    let k = c.loop-n.invariant in
    let e = on_err c.gather.result _ (sym c.is_err.ensures.value ∙ c.if-is_err.true) c.gather.ensures.err in (
      k.1 ++ take c.in-Some.n c.read.new.room,
      (Gave-then _ _ _ _ _ k.2 c.in-Some.ensures.bytes, read_quiet _ _ _ _ _ c.in-Some.ensures.faults k.3),
      record {
        lost = e.0;
        now = e.1;
        rest = e.2;
        gathers = gathers_more _ _ _ _ _ _ _ k.1 (take c.in-Some.n c.read.new.room) _ _ _ _ _ (sentinel_of c.loop-n.accumulator) k.5 k.4 e.5;
        before = k.1;
        last = take c.in-Some.n c.read.new.room;
        parts = refl;
        short = omega (arith, c.read.auto.room, c.in-Some.ensures.bound, length-take-le c.in-Some.n c.read.new.room c.in-Some.ensures.bound);
        then = _;
        early = c.loop-n.values.items;
        later = e.3;
        said = e.4;
        first = k.4;
      },
    )

pub loop-n-preserved : goal.loop-n-preserved
loop-n-preserved g c =
    let k = c.loop-n.invariant in
    let e = on_ok c.gather.result _ (sym c.is_err.ensures.value ∙ c.if-is_err.false) c.gather.ensures.ok in (
      uses_then _ _ _ _ c.loop-n.invariant.0 (uses_read _ _ _ c.in-Some.ensures.bytes c.in-Some.ensures.calls (taken_some _ _ c.in-Some.n-test.1 c.in-Some.ensures.bound)),
      k.1 ++ take c.in-Some.n c.read.new.room,
      Gave-then _ _ _ _ _ k.2 c.in-Some.ensures.bytes,
      read_quiet _ _ _ _ _ c.in-Some.ensures.faults k.3,
      gathers_more _ _ _ _ _ _ _ k.1 (take c.in-Some.n c.read.new.room) _ _ _ _ _ (sentinel_of c.loop-n.accumulator) k.5 k.4 e,
      c.gather.ensures.sentinel ∙ k.5,
    )

pub returns-then-is_err-clause-calls : goal.returns-then-is_err-clause-calls
returns-then-is_err-clause-calls g c = uses_then _ _ _ _ c.loop-n.invariant.0 (uses_last _ _ _ c.in-Some.ensures.bytes c.in-Some.ensures.calls)

pub returns-in-None-clause-once : goal.returns-in-None-clause-once
returns-in-None-clause-once g c = omega (arith, c.in-None.ensures.faults, c.loop-n.invariant.3, one_read (g.R.Inlet.line c.loop-n.reader).calls_left None)

pub returns-in-Some-eq0-clause-once : goal.returns-in-Some-eq0-clause-once
returns-in-Some-eq0-clause-once g c = omega (arith, read_quiet _ _ _ _ _ c.in-Some-eq0.ensures.faults c.loop-n.invariant.3)

pub returns-then-is_err-clause-once : goal.returns-then-is_err-clause-once
returns-then-is_err-clause-once g c = omega (arith, read_quiet _ _ _ _ _ c.in-Some.ensures.faults c.loop-n.invariant.3)
