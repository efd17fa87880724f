-- The options that the program's arguments set.
use Rattle.std.specs.Prelude.{◌≡◌, ◌↔◌, ◌==◌, ◌<◌, ◌≤◌, ◌^◌, ◌++◌, ◌⊎◌, ◌≢◌, ℕ, true, List, [], ◌∷◌, length, Option, Some, None, Ok, IsOk, MatchOption, codes, if◌then◌else◌}
use Rattle.std.specs.List.{All, Contains, position_or_len, before_first, after_first}
use Rattle.std.specs.Option.{option_map, option_or}
use Rattle.std.specs.Str.Parse.{IsNumeral, digits_value, without_leading_plus}
use Rattle.hex.specs.Hex.{decode_sized}
use Rattle.wire_lib.specs.declared.words.Action.{Action}
use Rattle.wire_lib.specs.declared.words.Action.TheVariants.{Read, Write, Watch}
use Rattle.wire_lib.specs.declared.words.Options.{Options}

-- what follows a name in an argument that begins with it
abbrev pub value_behind : List ℕ → List ℕ → Option (List ℕ)
value_behind [] word = Some word
value_behind (c ∷ name) [] = None
value_behind (c ∷ name) (b ∷ word) = if b == c then value_behind name word else None

-- the value of the last argument that begins with this name
abbrev pub last_value : List ℕ → List (List ℕ) → Option (List ℕ)
last_value name [] = None
last_value name (word ∷ words) = option_or (last_value name words) (value_behind name word)

-- a text is a number below 2^k in decimal digits, also with a plus before them
abbrev pub WritesNumber : ℕ → List ℕ → ℕ → Type 0
WritesNumber k text n = IsNumeral 10 (without_leading_plus text)
    × (n ≡ digits_value 10 (without_leading_plus text)) × (n < 2 ^ k)

-- These options are those that the arguments set. Of several arguments with one name the last counts.
pub record AreSetBy (words : List (List ℕ)) (o : Options) : Type 0 where
  -- whether the framed side is hexadecimal text
  pub hex : o.hex ≡ true ↔ Contains words (codes "hex")
  pub strict : o.strict ≡ true ↔ Contains words (codes "strict")
  pub raw : o.raw ≡ true ↔ Contains words (codes "raw")
  pub summed : o.summed ≡ true ↔ Contains words (codes "crc32")
  pub time : o.time ≡ true ↔ Contains words (codes "time")
  pub digits : o.digits ≡ true ↔ Contains words (codes "bytes=hex")
  -- the byte of two hexadecimal digits
  pub sentinel : MatchOption (last_value (codes "sentinel=") words) (o.sentinel ≡ 0)
      (λ value. decode_sized value 1 ≡ Ok (o.sentinel ∷ []))
  pub from : MatchOption (last_value (codes "from=") words) (o.from ≡ 0)
      (λ value. WritesNumber 64 value o.from)
  pub depth : MatchOption (last_value (codes "depth=") words) (o.depth ≡ 60)
      (λ value. WritesNumber 32 value o.depth × (0 < o.depth) × (o.depth ≤ 1000))
  pub empty : MatchOption (last_value (codes "empty=") words) (o.empty ≡ 65536)
      (λ value. WritesNumber 64 value o.empty)
  -- the name after it, if there is one
  pub only : option_map (λ name. name.now) o.only ≡ last_value (codes "only=") words

-- whatever arguments set these options, with this one more they set those
abbrev pub AddsArgument : List ℕ → Options → Options → Type 0
AddsArgument word old new = (words : List (List ℕ)) → AreSetBy words old → AreSetBy (words ++ word ∷ []) new

-- the name of an argument: all that is before its first `=`
abbrev pub name_in : List ℕ → List ℕ
name_in word = before_first (λ b. b == 61) word

-- what is after that
abbrev pub value_in : List ℕ → List ℕ
value_in word = after_first (λ b. b == 61) word

-- a text is one of these
abbrev pub IsAmong : List ℕ → List (List ℕ) → Type 0
IsAmong word [] = ⊥
IsAmong word (other ∷ others) = (word ≡ other) ⊎ IsAmong word others

-- the arguments without a value
abbrev pub plain_words : List (List ℕ)
plain_words = codes "hex" ∷ codes "strict" ∷ codes "raw" ∷ codes "crc32" ∷ codes "time" ∷ []

-- the names of the arguments that a mode has
abbrev pub names_of : Action → List (List ℕ)
names_of Read = codes "sentinel" ∷ codes "depth" ∷ codes "empty" ∷ codes "strict" ∷ codes "bytes" ∷ codes "hex"
    ∷ codes "raw" ∷ codes "crc32" ∷ codes "from" ∷ codes "only" ∷ codes "time" ∷ []
names_of Write = codes "sentinel" ∷ codes "depth" ∷ codes "empty" ∷ codes "hex" ∷ codes "raw" ∷ codes "crc32" ∷ []
names_of Watch = codes "sentinel" ∷ codes "depth" ∷ codes "empty" ∷ codes "strict" ∷ codes "bytes" ∷ []

-- a limit of nested nodes
abbrev pub IsDepth : List ℕ → ℕ → Type 0
IsDepth value n = WritesNumber 32 value n × (0 < n) × (n ≤ 1000)

-- a value is valid in an argument of this name
abbrev pub IsValueOf : List ℕ → List ℕ → Type 0
IsValueOf name value = ((name ≡ codes "sentinel") × IsOk (decode_sized value 1))
    ⊎ (((name ≡ codes "from") × ((n : ℕ) × WritesNumber 64 value n))
    ⊎ (((name ≡ codes "bytes") × (value ≡ codes "hex"))
    ⊎ (((name ≡ codes "depth") × ((n : ℕ) × IsDepth value n))
    ⊎ (((name ≡ codes "empty") × ((n : ℕ) × WritesNumber 64 value n))
    ⊎ (name ≡ codes "only")))))

-- an argument is one without a value, or has a valid one after `=`
abbrev pub IsValid : List ℕ → Type 0
IsValid word = IsAmong word plain_words
    ⊎ ((position_or_len (λ b. b == 61) word < length word) × IsValueOf (name_in word) (value_in word))

-- the mode has this argument, and it is valid
abbrev pub IsArgument : Action → List ℕ → Type 0
IsArgument mode word = IsAmong (name_in word) (names_of mode) × IsValid word

-- `raw` is set with a delimiter or an offset, which belong to frames
abbrev pub HasNoFrames : Options → Type 0
HasNoFrames o = (o.raw ≡ true) × ((o.sentinel ≢ 0) ⊎ (o.from ≢ 0))

-- This is the first of the arguments that isn't one of the mode.
pub record IsFirstWrong (mode : Action) (words : List (List ℕ)) (word : List ℕ) : Type 0 where
  -- the arguments before it
  pub before : List (List ℕ)
  -- those after it
  pub after : List (List ℕ)
  -- they are all
  pub words_are : words ≡ before ++ word ∷ after
  -- those before it are arguments
  pub right : All (IsArgument mode) before
  -- it isn't
  pub wrong : IsArgument mode word → ⊥

-- All are arguments of the mode, but what they set can't be combined.
pub record CantCombine (mode : Action) (words : List (List ℕ)) : Type 0 where
  -- each is an argument
  pub right : All (IsArgument mode) words
  -- the options that they set
  pub options : Options
  -- they set these
  pub set : AreSetBy words options
  -- they contradict each other
  pub wrong : HasNoFrames options

-- arguments are refused for this word: the first wrong one, or `raw`
abbrev pub IsRefusedFor : Action → List (List ℕ) → List ℕ → Type 0
IsRefusedFor mode words word = IsFirstWrong mode words word ⊎ ((word ≡ codes "raw") × CantCombine mode words)
