-- The JSON of floats, by their bits.
use Rattle.std.specs.Prelude.{◌≡◌, ℕ, List, ◌++◌, Bool, true, false, Some, codes, from_bits, nat_eq, if◌then◌else◌}
use Rattle.std.specs.Float.{Float, Format, binary32, binary64, float_is_finite}
use Rattle.std.specs.Int.{Width, w32, w64, to_be_bytes}
use Rattle.fast_float.specs.Parse.{parse_float}
use Rattle.hex.specs.Hex.{encode_lower}
use Rattle.json.specs.Json.{Json, number, string}

-- the word for a NaN other than the usual one, by its bytes
abbrev pub nan_word : List ℕ → List ℕ
nan_word bytes = codes "NaN:" ++ encode_lower bytes

-- the word for a float that isn't finite, by its bits: those of both infinities and of the usual NaN come first
abbrev pub word_of : Width → ℕ → ℕ → ℕ → ℕ → List ℕ
word_of w infinity below usual n =
    if nat_eq n infinity then codes "Infinity"
    else if nat_eq n below then codes "-Infinity"
    else if nat_eq n usual then codes "NaN"
    else nan_word (to_be_bytes w n)

-- the word for an `f32`
abbrev pub single_word : ℕ → List ℕ
single_word n = word_of w32 0x7f800000 0xff800000 0x7fc00000 n

-- the word for an `f64`
abbrev pub double_word : ℕ → List ℕ
double_word n = word_of w64 0x7ff0000000000000 0xfff0000000000000 0x7ff8000000000000 n

-- a number that reads as this float
abbrev pub ShowsNumber : Format → Float → Json → Type 0
ShowsNumber f x j = (s : List ℕ) × (j ≡ number s) × (parse_float f s ≡ Some x)

-- a float: a number if it is finite, or this word
abbrev pub ShowsFinite : Bool → Format → Float → List ℕ → Json → Type 0
ShowsFinite true f x word j = ShowsNumber f x j
ShowsFinite false f x word j = j ≡ string word

-- an `f32` with these bits
abbrev pub ShowsSingle : ℕ → Json → Type 0
ShowsSingle n j = ShowsFinite (float_is_finite (from_bits binary32 n)) binary32 (from_bits binary32 n) (single_word n) j

-- an `f64` with these bits
abbrev pub ShowsDouble : ℕ → Json → Type 0
ShowsDouble n j = ShowsFinite (float_is_finite (from_bits binary64 n)) binary64 (from_bits binary64 n) (double_word n) j
