-- When a sender makes, of a receiver's line, the frame of the value that was received.
use Rattle.std.specs.Prelude.{◌≡◌, ◌++◌, ◌≤◌, ℕ, List, [], ◌∷◌}
use Rattle.cobs.specs.Sentinel.{frame_for}
use Rattle.postcard_tree.specs.Spelling.{short}
use Rattle.schema_table.specs.declared.value.Value.{Value}
use Rattle.schema_table.specs.Values.{tree_of}
use Rattle.wire_json.specs.InRange.{Fits}
use Rattle.wire_json.specs.RoundTrip.{line_inside}
use Rattle.wire_lib.specs.Said.{IsTextFor}
use Rattle.wire_lib.specs.Sent.{IsFrameToSend}
use Rattle.wire_lib.specs.Summed.{message_with}
use Rattle.wire_lib.specs.declared.receive.Reading.{Reading}
use Rattle.wire_lib.specs.declared.send.Sending.{Sending}

-- what is sent of the line of a receiver is the shortest frame of the value
abbrev pub SendsLine : Reading → Sending → Type 0
SendsLine r s =
    (v : Value) (text frame : List ℕ) → Fits r.schema.now r.depth r.place v → IsTextFor r v text → IsFrameToSend s (line_inside text) frame
    → frame ≡ frame_for s.sentinel (message_with s.summed (short (tree_of v))) ++ s.sentinel ∷ []

-- a sender of the type that a receiver reads, to the same depth or more
abbrev pub SendsWhatIsRead : Reading → Sending → Type 0
SendsWhatIsRead r s = (s.schema.now ≡ r.schema.now) × (s.place ≡ r.place) × (r.depth ≤ s.depth)
