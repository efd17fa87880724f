use Rattle.std.proofs.lemmas.Grind.{common_steps}
use Rattle.std.proofs.Common.{◌≡◌, ◌<◌, ◌++◌, length, sym, ◌∙◌, arith, rules, append_assoc, length-append}
use Rattle.std.specs.Prelude.{unwrap_or}
use Rattle.line_io.specs.Device.{moved_front}
use Rattle.line_io.specs.Calls.{moved_is, moved_no_fault, one_fault, WentOut-then}
use Rattle.line_io.proofs.transfers.write_all.Goals as goal

pub loop-rest-preserved : goal.loop-rest-preserved
loop-rest-preserved g c =
    let i = c.loop-rest.invariant in
    let front = c.split_at.result.0.now in
    let some : 0 < unwrap_or c.write.result 0 = rw (← c.unwrap_or-taken.ensures) (omega arith) in
    let moved : moved_front c.write.result c.loop-rest.rest.now ≡ front =
    moved_is c.write.result c.loop-rest.rest.now ∙ rw (← c.unwrap_or-taken.ensures) (sym c.split_at.ensures.front) in
    let none = moved_no_fault (g.W.Outlet.line c.loop-rest.outlet).calls_left c.write.result c.loop-rest.rest.now some in
    let filled : length front ≡ unwrap_or c.write.result 0 = search rules in
    record {
      sent = i.sent ++ front;
      are = i.are ∙ rw c.split_at.ensures.by_index.0 (simp append_assoc);
      out = WentOut-then i.out (record { wrote = rw moved at c.write.ensures.bytes; quiet = rw none at c.write.ensures.faults ∙ omega arith });
      calls = omega (arith, c.write.ensures.calls, i.calls);
      few = omega (arith, c.write.ensures.calls, i.few, length-append i.sent front, filled);
    }

pub returns-then-taken-eq0 : goal.returns-then-taken-eq0
returns-then-taken-eq0 g c = record {
  ok = tt;
  err = grind (arith, common_steps);
  calls = grind (arith, common_steps);
  few = grind (arith, common_steps);
  once = omega (arith, c.write.ensures.faults, c.loop-rest.invariant.out.quiet, one_fault (g.W.Outlet.line c.loop-rest.outlet).calls_left c.write.result c.loop-rest.rest.now);
}

pub returns : goal.returns
returns g c = record {
  ok = grind (arith, common_steps);
  err = tt;
  calls = c.loop-rest.invariant.calls;
  few = grind (arith, common_steps);
  once = omega (arith, c.loop-rest.invariant.out.quiet);
}
