use Rattle.std.proofs.Common.{◌≡◌, ◌++◌, map, take, drop}
use Rattle.wire_lib.specs.Sizes.{node_bounded}
use Rattle.wire_lib.proofs.sizes.bound_lists.Given as goal

-- those so far are bounded
abbrev pub invariant-loop-node : goal.invariant-loop-node
invariant-loop-node l =
    l.node-items ≡ map (node_bounded l.sizes.items l.most) (take l.node-index l.fn.nodes.items) ++ drop l.node-index l.fn.nodes.items
