use Rattle.std.proofs.Common.{◌≡◌, ℕ, ◌<◌, length}
use Rattle.wire_lib.specs.Sizes.{HasSizeAt}
use Rattle.wire_lib.proofs.sizes.Sizes.find_one.Given as goal

-- nothing has changed, and the nodes so far have their sizes
abbrev pub invariant-loop-place : goal.invariant-loop-place
invariant-loop-place l = record {
  same : l.self ≡ l.fn.self;
  found : length l.fn.self.known.items ≡ length l.nodes → (p : ℕ) → p < l.place → HasSizeAt l.nodes l.fn.self.known.items p;
}
