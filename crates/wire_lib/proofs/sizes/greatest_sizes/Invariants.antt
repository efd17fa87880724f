use Rattle.std.proofs.Common.{◌≡◌, length}
use Rattle.wire_lib.specs.Sizes.{AreByParts, unknown_among}
use Rattle.wire_lib.proofs.sizes.greatest_sizes.Given as goal

-- what is known so far is right
abbrev pub invariant-loop-place : goal.invariant-loop-place
invariant-loop-place l = record {
  each : length l.sizes.known.items ≡ length l.nodes;
  right : AreByParts l.nodes l.sizes.known.items;
}

-- what is known so far is right
abbrev pub invariant-loop : goal.invariant-loop
invariant-loop l = record {
  each : length l.sizes.known.items ≡ length l.nodes;
  right : AreByParts l.nodes l.sizes.known.items;
}

-- what is known so far is right
abbrev pub invariant-loop-2 : goal.invariant-loop-2
invariant-loop-2 l = record {
  each : length l.sizes.known.items ≡ length l.nodes;
  right : AreByParts l.nodes l.sizes.known.items;
}

-- each step finds one
abbrev pub decreases-loop-2 : goal.decreases-loop-2
decreases-loop-2 l = unknown_among l.sizes.known.items
