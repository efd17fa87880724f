-- What a receiver sees of its buffer.
use Rattle.std.specs.Prelude.{ℕ}
use Rattle.link.specs.Filled.{Filled}
use Rattle.link.specs.declared.decoding.ArrayBuffer.{ArrayBuffer}
use Rattle.link.specs.declared.decoding.OwnedBuffer.{OwnedBuffer}

-- those of one that is an array
abbrev pub in_array : {N : ℕ} → ArrayBuffer N → Filled
in_array b = record { bytes = b.bytes; count = b.count }

-- those of one that is allocated
abbrev pub in_owner : OwnedBuffer → Filled
in_owner b = record { bytes = b.bytes.items; count = b.count }
