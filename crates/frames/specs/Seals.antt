-- The sum after a message of bytes.
use Rattle.std.specs.Prelude.{ℕ, List}
use Rattle.postcard_tree.specs.Fixed.{little_endian}
use Rattle.sealed.specs.Checksum.{sum_of_bytes}

-- the CRC-32 of bytes, as four bytes, the lowest first
abbrev pub seal_bytes : List ℕ → List ℕ
seal_bytes bytes = little_endian 4 (sum_of_bytes bytes)
