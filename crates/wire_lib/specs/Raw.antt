-- Messages without frames.
use Rattle.std.specs.Prelude.{◌≡◌, ◌≢◌, ◌⊎◌, ◌-◌, ◌<◌, ℕ, true, List, [], ◌++◌, codes, length}
use Rattle.postcard_tree.specs.Tree.{IsTree}
use Rattle.postcard_tree.specs.Spelling.{short}
use Rattle.postcard_de.specs.Answer.{ReadsFront}
use Rattle.schema_table.specs.declared.value.Value.{Value}
use Rattle.schema_table.specs.Values.{tree_of}
use Rattle.wire_lib.specs.declared.receive.Reading.{Reading}
use Rattle.wire_lib.specs.declared.send.Sending.{Sending}
use Rattle.wire_json.specs.Meant.{MeansText}
use Rattle.wire_json.specs.Parsed.{IsOfType}
use Rattle.wire_lib.specs.Received.{read_by}
use Rattle.wire_lib.specs.Said.{IsTextFor, value_line, stretch_line}
use Rattle.wire_lib.specs.Summed.{message_with}

-- The line of the value that the type reads from a whole message was appended.
pub record ShowsWhole (r : Reading) (message lines lines' : List ℕ) : Type 0 where
  -- the value
  pub value : Value
  -- the type reads it from the message, and no bytes are left
  pub read : ReadsFront (read_by r) message [] value
  -- strictly, the message is the encoding of the value
  pub exact : r.strict ≡ true → message ≡ short (tree_of value)
  -- the text of its JSON
  pub text : List ℕ
  pub is_text : IsTextFor r value text
  -- and nothing else was appended
  pub appended : lines' ≡ lines ++ value_line text

-- The line of the value that the type reads from the front of a message was appended, and one about the bytes after it.
pub record ShowsFront (r : Reading) (message lines lines' : List ℕ) : Type 0 where
  -- the value and the bytes after it
  pub value : Value
  pub rest : List ℕ
  pub read : ReadsFront (read_by r) message rest value
  -- there are some
  pub some_left : 0 < length rest
  -- so strictly there is no such line
  pub exact : r.strict ≡ true → message ≡ short (tree_of value)
  -- the text of its JSON
  pub text : List ℕ
  pub is_text : IsTextFor r value text
  -- and nothing else was appended
  pub appended : lines' ≡ lines ++ (value_line text ++ stretch_line (codes "rest") (length message - length rest) (length message))

-- the type reads no value from the front of a message
abbrev pub ReadsNone : Reading → List ℕ → Type 0
ReadsNone r message = (rest : List ℕ) (v : Value) → ReadsFront (read_by r) message rest v → ⊥

-- the type reads no value from the front of a message; or strictly, it isn't the encoding of the one that it reads
abbrev pub HoldsNoValue : Reading → List ℕ → Type 0
HoldsNoValue r message =
    (rest : List ℕ) (v : Value) → ReadsFront (read_by r) message rest v → (r.strict ≡ true) × (message ≢ short (tree_of v))

-- The line of a message without a value was appended, with the positions of the whole message.
abbrev pub ShowsDamage : Reading → List ℕ → List ℕ → List ℕ → Type 0
ShowsDamage r message lines lines' = HoldsNoValue r message
    × ((lines' ≡ lines ++ stretch_line (codes "damaged") 0 (length message))
    ⊎ (lines' ≡ lines ++ stretch_line (codes "too_deep") 0 (length message)))

-- The message of the value of the type that a line means: its shortest encoding, followed by its checksum if one is asked for.
pub record IsMessageToSend (s : Sending) (line message : List ℕ) : Type 0 where
  -- the value
  pub value : Value
  -- the line means it
  pub means : MeansText s.schema.now s.depth s.place line value
  -- it is of the type
  pub of_type : IsOfType s.depth s.schema.now.nodes.items s.place value
  -- its tree is one that can be encoded
  pub is_tree : IsTree (tree_of value)
  -- the bytes are its shortest encoding
  pub spelled : message ≡ message_with s.summed (short (tree_of value))
