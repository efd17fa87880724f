use Rattle.std.proofs.Common.{◌+◌, ◌≤◌, ◌++◌, length, refl, arith, length-append}
use Rattle.frames_small.proofs.RunsLemmas.{block_went, block_broke}
use Rattle.frames_small.proofs.sending.put_block.Goals as goal

pub returns-in-Ok : goal.returns-in-Ok
returns-in-Ok g c =
    let text = c.args.count.now ++ c.args.message.now in
    let within : c.args.at + c.args.run ≤ length text = omega (arith, c.requires.within, length-append c.args.count.now c.args.message.now) in
    block_went (g.W.Outlet.line c.args.outlet.now) (g.W.Outlet.line c.put.new.outlet) (g.W.Outlet.line c.put_bytes.new.outlet) c.args.sentinel text c.args.at c.args.run (c.args.run + 1) within refl
    c.put_bytes.result c.in-Ok.ensures c.put_bytes.ensures

pub returns-in-Err : goal.returns-in-Err
returns-in-Err g c =
    let text = c.args.count.now ++ c.args.message.now in
    let within : c.args.at + c.args.run ≤ length text = omega (arith, c.requires.within, length-append c.args.count.now c.args.message.now) in
    block_broke (g.W.Outlet.line c.args.outlet.now) (g.W.Outlet.line c.put.new.outlet) (g.W.Outlet.line c.put.new.outlet) c.args.sentinel text c.args.at c.args.run (c.args.run + 1) within refl c.in-Err.fault c.in-Err.ensures
