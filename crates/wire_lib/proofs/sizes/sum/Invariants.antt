use Rattle.std.proofs.Common.{◌≡◌, take, Some}
use Rattle.wire_lib.specs.Sizes.{sum_size}
use Rattle.wire_lib.proofs.sizes.sum.Given as goal

-- the sum of the fields so far
abbrev pub invariant-loop-field : goal.invariant-loop-field
invariant-loop-field l = sum_size l.sizes (take l.field-index l.fields) ≡ Some l.total
