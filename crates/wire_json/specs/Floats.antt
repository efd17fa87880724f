-- Floats by their bits, from JSON. More words are read than are written, with hexadecimal digits of either case.
use Rattle.std.specs.Prelude.{◌≡◌, ◌⊎◌, ◌<◌, ◌≤◌, ◌%◌, ◌^◌, ℕ, List, ◌++◌, true, Some, Ok, codes, from_bits, length}
use Rattle.std.specs.Float.{Format, binary32, binary64, float_is_finite}
use Rattle.std.specs.Int.{Width, w32, w64, byte_len, from_be_bytes}
use Rattle.fast_float.specs.Parse.{parse_float}
use Rattle.hex.specs.Hex.{decode_of}
use Rattle.schema_table.specs.Floats.{single_word, double_word}
use Rattle.schema_table.specs.declared.integer.Integer.{Integer}
use Rattle.schema_table.specs.declared.integer.Integer.TheVariants as integers

-- a word for a NaN with these bytes
abbrev pub IsNanWord : List ℕ → List ℕ → Type 0
IsNanWord word bytes = (digits : List ℕ) × (word ≡ codes "NaN:" ++ digits) × (decode_of digits ≡ Ok bytes)

-- the same with these bits, by all bytes of the width
abbrev pub IsNanOf : Width → List ℕ → ℕ → Type 0
IsNanOf w word n = (bytes : List ℕ) × IsNanWord word bytes × (n ≡ from_be_bytes w bytes) × (length bytes ≡ byte_len w)

-- a word for the `f32` with these bits, which isn't finite
abbrev pub WordMeansSingle : List ℕ → ℕ → Type 0
WordMeansSingle word n = (0x7f800000 ≤ n % 2 ^ 31) × ((word ≡ single_word n) ⊎ (IsNanOf w32 word n × (0x7f800000 < n % 2 ^ 31)))

-- a word for the `f64` with these bits, which isn't finite
abbrev pub WordMeansDouble : List ℕ → ℕ → Type 0
WordMeansDouble word n = (0x7ff0000000000000 ≤ n % 2 ^ 63) × ((word ≡ double_word n) ⊎ (IsNanOf w64 word n × (0x7ff0000000000000 < n % 2 ^ 63)))

-- a word for a float, by its bits
abbrev pub WordMeansFloat : List ℕ → Integer → Type 0
WordMeansFloat word (integers.U32 n) = (n < 2 ^ 32) × WordMeansSingle word n
WordMeansFloat word (integers.U64 n) = (n < 2 ^ 64) × WordMeansDouble word n
WordMeansFloat word _ = ⊥

-- a number is nearest to this float, which is finite
abbrev pub IsNearest : Format → List ℕ → ℕ → Type 0
IsNearest f s n = (parse_float f s ≡ Some (from_bits f n)) × (float_is_finite (from_bits f n) ≡ true)

-- the float nearest to a number, by its bits
abbrev pub NumberMeansFloat : List ℕ → Integer → Type 0
NumberMeansFloat s (integers.U32 n) = (n < 2 ^ 32) × IsNearest binary32 s n
NumberMeansFloat s (integers.U64 n) = (n < 2 ^ 64) × IsNearest binary64 s n
NumberMeansFloat s _ = ⊥
