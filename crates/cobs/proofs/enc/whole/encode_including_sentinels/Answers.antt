use Rattle.std.proofs.lemmas.Grind.{common_steps}
use Rattle.std.proofs.Common.{◌<◌, ◌-◌, length, drop, set, length-take, length-drop, arith}
use Rattle.std.proofs.lemmas.List.{length-set}
use Rattle.cobs.proofs.BlocksLemmas.{framed_between}
use Rattle.cobs.proofs.enc.whole.encode_including_sentinels.Goals as goal

pub returns-clause-frame : goal.returns-clause-frame
returns-clause-frame c =
    let dest = c.args.dest.now in
    let begun = set dest 0 0 in
    let behind : c.encode-n.result < length c.encode-n.new.dest = omega (
      arith,
      c.requires,
      c.encode-n.ensures.length,
      c.encode-n.auto.dest,
      length-take (length begun - 1) (drop 1 begun),
      length-drop 1 begun,
      length-set dest 0 0,
    ) in
    framed_between dest c.encode-n.new.dest _ c.encode-n.result c.encode-n.ensures.frame
    c.encode-n.ensures.length behind (omega (arith, c.requires))

pub bounds-dest-0 : goal.bounds-dest-0
bounds-dest-0 c = grind (arith, common_steps)

pub slice_bounds-encode-end : goal.slice_bounds-encode-end
slice_bounds-encode-end c = grind (arith, common_steps)

pub encode-n-requires : goal.encode-n-requires
encode-n-requires c = grind (arith, common_steps)

pub overflow_add-dest : goal.overflow_add-dest
overflow_add-dest c = grind (arith, common_steps)

pub bounds-dest-n : goal.bounds-dest-n
bounds-dest-n c = grind (arith, common_steps)

pub overflow_add-result : goal.overflow_add-result
overflow_add-result c = grind (arith, common_steps)

pub returns-clause-length : goal.returns-clause-length
returns-clause-length c = grind (arith, common_steps)
