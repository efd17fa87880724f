-- The texts of the damages of a stream, each with the position and the first bytes of its stretch.
use Rattle.std.specs.Prelude.{◌≡◌, ◌<◌, ◌⊎◌, ℕ, ◌+◌, ◌^◌, List, [], ◌∷◌, ◌++◌, length, take, drop, codes}
use Rattle.std.specs.List.{AllZip}
use Rattle.schema_table.specs.declared.value.Value.{Value}
use Rattle.link.specs.Stream.{unfinished}
use Rattle.link.specs.Listening.{HasGiven}
use Rattle.link.specs.declared.receiver.Answer.{Answer}
use Rattle.link.specs.declared.receiver.Answer.TheVariants as answer
use Rattle.wire_lib.specs.Received.{held_by, read_by, place_from}
use Rattle.wire_lib.specs.Fronts.{most_kept, damage_said}
use Rattle.wire_lib.specs.Tables.{KeepsToo}
use Rattle.wire_lib.specs.declared.receive.Reading.{Reading}
use Rattle.wire_lib.specs.declared.watching.table.Table.{Table}

-- a word for a result that isn't a message
abbrev pub IsDamageWord : Answer Value → List ℕ → Type 0
IsDamageWord (answer.Value v) what = ⊥
IsDamageWord answer.Damaged what = (what ≡ codes "damaged") ⊎ (what ≡ codes "too deep")
IsDamageWord answer.TooLong what = what ≡ codes "too long"
IsDamageWord answer.Cut what = what ≡ codes "cut"

-- the first bytes of the stretch that a prefix of a stream leaves unfinished
abbrev pub first_bytes : ℕ → List ℕ → List ℕ
first_bytes s front = take most_kept (drop (place_from 0 s front) front)

-- This is the text of a damage, of the stretch that a prefix of a stream leaves unfinished. Its position is the stretch's if the
-- prefix and one more byte are fewer than 2^64 bytes.
pub record IsTextAt (s : ℕ) (front : List ℕ) (a : Answer Value) (text : List ℕ) : Type 0 where
  -- what it is
  pub what : List ℕ
  pub word : IsDamageWord a what
  -- the position in the text
  pub from : ℕ
  -- how many bytes the stretch has, and the first of them
  pub is : text ≡ damage_said what from (length (unfinished s front)) (first_bytes s front)
  -- the position is the stretch's
  pub place : length front + 1 < 2 ^ 64 → from ≡ place_from 0 s front

-- A damage of a stream, the next result after these earlier ones, and its text: the results of a prefix of the stream are the
-- earlier ones, and one more byte brings this one.
pub record IsTextOf (r : Reading) (stream : List ℕ) (earlier : List (Answer Value)) (a : Answer Value)
    (text : List ℕ) : Type 0 where
  -- the prefix, the byte, and the rest of the stream
  pub front : List ℕ
  pub byte : ℕ
  pub more : List ℕ
  pub parts : stream ≡ front ++ (byte ∷ more)
  -- the results of the prefix
  pub before : HasGiven (held_by r) (read_by r) 65536 r.sentinel earlier front
  -- the results with the byte
  pub with_it : HasGiven (held_by r) (read_by r) 65536 r.sentinel (earlier ++ a ∷ []) (front ++ byte ∷ [])
  -- the text is of the stretch that the prefix leaves unfinished
  pub text_is : IsTextAt r.sentinel front a text

-- the texts of a result: none of a message, one of a damage
abbrev pub HasTexts : Reading → List ℕ → List (Answer Value) → Answer Value → List (List ℕ) → Type 0
HasTexts r stream earlier (answer.Value v) texts = texts ≡ []
HasTexts r stream earlier a texts =
    (text : List ℕ) × (texts ≡ text ∷ []) × IsTextOf r stream earlier a text

-- the texts of the damages among results after earlier ones, in order
abbrev pub AreTextsOf : Reading → List ℕ → List (Answer Value) → List (Answer Value)
    → List (List ℕ) → Type 0
AreTextsOf r stream earlier [] texts = texts ≡ []
AreTextsOf r stream earlier (a ∷ more) texts = (own : List (List ℕ)) × (rest : List (List ℕ))
    × (texts ≡ own ++ rest) × HasTexts r stream earlier a own
    × AreTextsOf r stream (earlier ++ a ∷ []) more rest

-- a table keeps the texts of the results that the end of a stream adds
abbrev pub KeepsEnd : ℕ → List ℕ → List (Answer Value) → Table → Table → Type 0
KeepsEnd s stream added old new =
    (texts : List (List ℕ)) × AllZip (IsTextAt s stream) added texts × KeepsToo texts old new
