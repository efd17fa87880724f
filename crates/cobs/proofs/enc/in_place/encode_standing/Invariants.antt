use Rattle.std.proofs.Common.{◌+◌, ◌-◌, ◌≤◌, take, drop}
use Rattle.cobs.specs.Codes.{Coding}
use Rattle.cobs.proofs.enc.in_place.encode_standing.Given as goal

abbrev pub invariant-loop-done : goal.invariant-loop-done
invariant-loop-done l = record {
  within : l.done ≤ l.n;
  coding : Coding l.buffer l.code_at (l.done + 1) (take l.n (drop 1 l.fn.buffer)) (drop l.done (take l.n (drop 1 l.fn.buffer)));
}

abbrev pub decreases-loop-done : goal.decreases-loop-done
decreases-loop-done l = l.n - l.done
