-- The words that the program is called with.
use Rattle.std.specs.Prelude.{◌≡◌, ℕ, Bool, true, false, List, [], ◌∷◌, ◌++◌, ◌⊎◌, codes, length, Ok}
use Rattle.hex.specs.Hex.{decode_of}
use Rattle.framed_lib.specs.declared.arguments.Mode.{Mode}
use Rattle.framed_lib.specs.declared.arguments.Mode.TheVariants.{Pack, Unpack, Strict}

-- the word of a mode
abbrev pub mode_text : Mode → List ℕ
mode_text Pack = codes "pack"
mode_text Unpack = codes "unpack"
mode_text Strict = codes "strict"

-- the word for hexadecimal text, or none
abbrev pub hex_words : Bool → List (List ℕ)
hex_words false = []
hex_words true = codes "hex" ∷ []

-- the words for a mode, and for hexadecimal text on the framed side or not
abbrev pub words_for : Mode → Bool → List (List ℕ)
words_for mode hex = mode_text mode ∷ hex_words hex

-- the word names the sentinel: two hexadecimal digits, of either case, stand for it
abbrev pub NamesSentinel : ℕ → List ℕ → Type 0
NamesSentinel sentinel word =
    (digits : List ℕ) × (word ≡ codes "sentinel=" ++ digits)
    × (length digits ≡ 2)
    × (decode_of digits ≡ Ok (sentinel ∷ []))

-- The words for a mode, for hexadecimal text on the framed side or not, and for a sentinel: its word stands last, and no
-- word means that it is zero.
abbrev pub AreWordsFor : Mode → Bool → ℕ → List (List ℕ) → Type 0
AreWordsFor mode hex sentinel words =
    ((words ≡ words_for mode hex) × (sentinel ≡ 0))
    ⊎ ((word : List ℕ) × (words ≡ words_for mode hex ++ word ∷ []) × NamesSentinel sentinel word)
