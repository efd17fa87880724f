-- What repairing a log twice writes, and what a repair that was interrupted has written.
use Rattle.std.specs.Prelude.{◌≡◌, ◌↔◌, ℕ, List, take}
use Rattle.postcard_tree.specs.Tree.{Tree}
use Rattle.journal_scan.specs.Scanning.{with_zero}
use Rattle.journal_scan.specs.Repairs.{rewritten, AreReadIn, AreReadFirst}

-- Of what repairing a log writes those records are read, strictly, that were read of the log, and nothing else, and so it is with
-- a zero after it, which is how a repair reads: so repairing it writes the same bytes.
abbrev pub RepairsAgain : (Tree → Type 0) → ℕ → Type 0
RepairsAgain takes limit = (bytes : List ℕ) (ts us : List Tree) → AreReadIn takes limit bytes ts
    → (AreReadIn takes limit (rewritten ts) us ↔ (us ≡ ts))
    × (AreReadIn takes limit (with_zero (rewritten ts)) us ↔ (us ≡ ts))

-- What a repair that was interrupted has written is a prefix of what a whole one writes.
abbrev pub RepairsInFronts : (Tree → Type 0) → ℕ → Type 0
RepairsInFronts takes limit = (bytes : List ℕ) (ts us : List Tree) (count : ℕ)
    → AreReadFirst takes limit bytes ts → AreReadIn takes limit bytes us
    → (k : ℕ) × (take count (rewritten ts) ≡ take k (rewritten us))
