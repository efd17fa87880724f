use Rattle.std.proofs.Common.{◌++◌, rules}
use Rattle.wire_lib.specs.Drawn.{repeated}
use Rattle.wire_lib.proofs.DrawnLemmas.{one_less}
use Rattle.wire_lib.proofs.watching.screen.put_times.Goals as goal

pub loop-left-preserved : goal.loop-left-preserved
loop-left-preserved c =
    let old = c.loop-left.out.items in
    let bytes = c.args.bytes.now in
    let whole = c.args.out.now.items ++ repeated c.args.times bytes in
    one_less old c.extend_from_slice.new.self.items bytes whole c.loop-left.left (search rules) (search rules) c.loop-left.invariant
