use Rattle.std.proofs.Common.{◌≡◌, take, Some}
use Rattle.wire_lib.specs.Sizes.{variant_size}
use Rattle.wire_lib.proofs.sizes.greatest.Given as goal

-- the greatest of the variants so far
abbrev pub invariant-loop-index : goal.invariant-loop-index
invariant-loop-index l = variant_size l.sizes 0 (take l.index l.payloads) ≡ Some l.most
