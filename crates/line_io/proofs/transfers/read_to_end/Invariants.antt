use Rattle.std.proofs.Common.{◌≡◌, ◌≤◌, ◌+◌, ℕ, List, ◌++◌, length, vec_capacity}
use Rattle.line_io.specs.Device.{Gave}
use Rattle.line_io.proofs.transfers.read_to_end.Given as goal

abbrev pub invariant-loop-n : goal.invariant-loop-n
invariant-loop-n g l = record {
  text : List ℕ;
  are : l.bytes.items ≡ l.fn.bytes.items ++ text;
  gave : Gave (g.R.Inlet.line l.fn.inlet) (g.R.Inlet.line l.inlet) text;
  quiet : (g.R.Inlet.line l.inlet).faults ≡ (g.R.Inlet.line l.fn.inlet).faults;
  calls : (g.R.Inlet.line l.inlet).calls_left ≤ (g.R.Inlet.line l.fn.inlet).calls_left;
  few : (g.R.Inlet.line l.fn.inlet).calls_left ≤ (g.R.Inlet.line l.inlet).calls_left + length text;
  capacity : vec_capacity l.fn.bytes ≤ vec_capacity l.bytes;
}

abbrev pub decreases-loop-n : goal.decreases-loop-n
decreases-loop-n g l = (g.R.Inlet.line l.inlet).calls_left
