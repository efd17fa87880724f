use Rattle.std.proofs.Common.{length, ◌-◌, ◌≤◌, ◌≡◌, ℕ, [], drop}
use Rattle.link.specs.Stream.{kept}
use Rattle.link.specs.Steps.{course_of, ahead}
use Rattle.link.proofs.reception.idle_bytes.Given as goal

abbrev pub invariant-loop-count : goal.invariant-loop-count
invariant-loop-count l = record {
  within : l.count ≤ length l.bytes;
  idle : (limit : ℕ) → course_of limit l.sentinel (kept []) l.bytes ≡ ahead l.count (course_of limit l.sentinel (kept []) (drop l.count l.bytes));
}

abbrev pub decreases-loop-count : goal.decreases-loop-count
decreases-loop-count l = length l.bytes - l.count
