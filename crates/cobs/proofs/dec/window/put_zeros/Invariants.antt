use Rattle.std.proofs.Common.{◌≡◌, ◌≢◌, ℕ, ◌-◌, ◌<◌, length, get_or}
use Rattle.cobs.proofs.WindowsLemmas.{Walked, WalkedOver}
use Rattle.cobs.proofs.dec.window.put_zeros.Given as goal

abbrev pub invariant-loop-at : goal.invariant-loop-at
invariant-loop-at l = record {
  walked : l.code ≢ 255 → Walked l.left l.fn.out l.at l.out;
  over : l.code ≡ 255 → WalkedOver l.left l.fn.out l.at l.out;
  small : (k : ℕ) → get_or l.fn.out k 0 < 256;
}

abbrev pub decreases-loop-at : goal.decreases-loop-at
decreases-loop-at l = length l.fn.out - l.at
