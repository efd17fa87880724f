use Rattle.std.proofs.Common.{◌≡◌, ℕ, length, None}
use Rattle.wire_lib.specs.Sizes.{known_size}
use Rattle.wire_lib.proofs.sizes.Sizes.new.Given as goal

-- so many, none of which is known
abbrev pub invariant-loop : goal.invariant-loop
invariant-loop l = record {
  many : length l.known.items ≡ l.counter;
  none : (place : ℕ) → known_size l.known.items place ≡ None;
}
