-- The words of a command.
use Rattle.std.specs.Prelude.{◌≡◌, ℕ, ◌<◌, ◌^◌, List, [], ◌∷◌, codes}
use Rattle.std.specs.Str.Parse.{IsNumeral, digits_value, without_leading_plus}
use Rattle.pump.specs.declared.messages.Command.{Command}
use Rattle.pump.specs.declared.messages.Command.TheVariants.{Show, On, Off, Limit, Dose, Reset}

-- the text is a number below 2^32 in decimal digits, perhaps with a plus before them
abbrev pub IsNumber : ℕ → List ℕ → Type 0
IsNumber n text = IsNumeral 10 (without_leading_plus text) × (digits_value 10 (without_leading_plus text) ≡ n) × (n < 2 ^ 32)

-- a name and a number
abbrev pub AreNameAndNumber : List ℕ → ℕ → List (List ℕ) → Type 0
AreNameAndNumber name n words = (text : List ℕ) × (words ≡ name ∷ text ∷ []) × IsNumber n text

-- the words of a command
abbrev pub AreWordsOf : Command → List (List ℕ) → Type 0
AreWordsOf Show words = words ≡ codes "show" ∷ []
AreWordsOf On words = words ≡ codes "on" ∷ []
AreWordsOf Off words = words ≡ codes "off" ∷ []
AreWordsOf (Limit n) words = AreNameAndNumber (codes "limit") n words
AreWordsOf (Dose n) words = AreNameAndNumber (codes "dose") n words
AreWordsOf Reset words = words ≡ codes "reset" ∷ []

-- no command has these words
abbrev pub AreWordsOfNone : List (List ℕ) → Type 0
AreWordsOfNone words = (command : Command) → AreWordsOf command words → ⊥
