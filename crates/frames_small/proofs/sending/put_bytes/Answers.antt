use Rattle.std.proofs.Common.{◌+◌, ◌<◌, ◌++◌, length, Ok, arith, length-append}
use Rattle.frames_small.proofs.RunsLemmas.{byte_went, byte_broke}
use Rattle.frames_small.proofs.sending.put_bytes.Goals as goal

pub loop-sent-preserved : goal.loop-sent-preserved
loop-sent-preserved g c =
    let text = c.args.count.now ++ c.args.message.now in
    let near : c.args.from + c.loop-sent.sent < length text = omega (arith, c.requires, c.loop-sent-test.true, length-append c.args.count.now c.args.message.now) in
    record {
      within = omega (arith, c.loop-sent-test.true);
      went = byte_went (g.W.Outlet.line c.args.outlet.now) (g.W.Outlet.line c.loop-sent.outlet) (g.W.Outlet.line c.put.new.outlet) c.args.sentinel text c.args.from c.loop-sent.sent c.byte_at.result near c.byte_at.ensures
          (Ok tt) c.loop-sent.invariant.went c.in-Ok.ensures;
    }

pub returns-in-Err : goal.returns-in-Err
returns-in-Err g c =
    let text = c.args.count.now ++ c.args.message.now in
    let near : c.args.from + c.loop-sent.sent < length text = omega (arith, c.requires, c.loop-sent-test.true, length-append c.args.count.now c.args.message.now) in
    byte_broke (g.W.Outlet.line c.args.outlet.now) (g.W.Outlet.line c.loop-sent.outlet) (g.W.Outlet.line c.put.new.outlet) c.args.sentinel text c.args.from c.loop-sent.sent c.byte_at.result near c.byte_at.ensures
    c.args.run c.in-Err.fault c.loop-sent-test.true c.loop-sent.invariant.went c.in-Err.ensures
