use Rattle.std.proofs.Common.{◌≡◌, ◌+◌, ◌≤◌, ◌++◌, length, arith, length-append}
use Rattle.frames_small.proofs.RunsLemmas.{goes_start, goes_on, goes_end, goes_broke, later_place}
use Rattle.frames_small.proofs.sending.put_blocks.Goals as goal

pub loop-fault-init : goal.loop-fault-init
loop-fault-init g c = record { within = omega arith; goes = goes_start _ c.args.sentinel (c.args.count.now ++ c.args.message.now) }

pub loop-fault-preserved : goal.loop-fault-preserved
loop-fault-preserved g c =
    let text = c.args.count.now ++ c.args.message.now in
    let size : length text ≡ c.args.end = omega (arith, c.requires, length-append c.args.count.now c.args.message.now) in
    let within : c.loop-fault.at + c.run_at-run.result ≤ length text = omega (arith, c.run_at-run.ensures.within, size) in
    record {
      within = (later_place c.loop-fault.at c.run_at-run.result c.behind-next.result c.args.end c.run_at-run.ensures.within c.if-at-run.false c.behind-next.ensures.zero c.behind-next.ensures.full).1;
      goes = goes_on (g.W.Outlet.line c.args.outlet.now) (g.W.Outlet.line c.loop-fault.outlet) (g.W.Outlet.line c.put_block.new.outlet) c.args.sentinel text c.loop-fault.at c.run_at-run.result c.run_at-run.ensures.few within c.run_at-run.ensures.clear c.loop-fault.invariant.goes c.behind-next.result
          (λ e. c.if-at-run.false (omega (arith, e, size))) (λ l m. c.run_at-run.ensures.stops l (omega (arith, m, size))) c.behind-next.ensures.zero c.behind-next.ensures.full c.in-Ok.ensures;
    }

pub loop-fault-smaller : goal.loop-fault-smaller
loop-fault-smaller g c =
    (later_place c.loop-fault.at c.run_at-run.result c.behind-next.result c.args.end c.run_at-run.ensures.within c.if-at-run.false c.behind-next.ensures.zero c.behind-next.ensures.full).0

pub returns-in-Err : goal.returns-in-Err
returns-in-Err g c =
    let text = c.args.count.now ++ c.args.message.now in
    let size : length text ≡ c.args.end = omega (arith, c.requires, length-append c.args.count.now c.args.message.now) in
    let within : c.loop-fault.at + c.run_at-run.result ≤ length text = omega (arith, c.run_at-run.ensures.within, size) in
    goes_broke (g.W.Outlet.line c.args.outlet.now) (g.W.Outlet.line c.loop-fault.outlet) (g.W.Outlet.line c.put_block.new.outlet) c.args.sentinel text c.loop-fault.at c.run_at-run.result c.run_at-run.ensures.few within c.run_at-run.ensures.clear c.loop-fault.invariant.goes c.in-Err.fault
    (λ l m. c.run_at-run.ensures.stops l (omega (arith, m, size))) c.in-Err.ensures

pub returns-then-at-run : goal.returns-then-at-run
returns-then-at-run g c =
    let text = c.args.count.now ++ c.args.message.now in
    let size : length text ≡ c.args.end = omega (arith, c.requires, length-append c.args.count.now c.args.message.now) in
    let within : c.loop-fault.at + c.run_at-run.result ≤ length text = omega (arith, c.run_at-run.ensures.within, size) in
    goes_end (g.W.Outlet.line c.args.outlet.now) (g.W.Outlet.line c.loop-fault.outlet) (g.W.Outlet.line c.put_block.new.outlet) c.args.sentinel text c.loop-fault.at c.run_at-run.result c.run_at-run.ensures.few within c.run_at-run.ensures.clear c.loop-fault.invariant.goes (omega (arith, c.if-at-run.true, size)) c.in-Ok.ensures
