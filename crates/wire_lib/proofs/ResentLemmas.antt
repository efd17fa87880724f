-- What is sent of a receiver's line.
use Rattle.std.proofs.Common.{◌≡◌, ℕ, ◌∷◌, [], ◌++◌, sym, ap, ◌∙◌, subst}
use Rattle.cobs.specs.Sentinel.{frame_for}
use Rattle.postcard_tree.specs.Spelling.{short}
use Rattle.schema_table.specs.declared.schema.Schema.{Schema}
use Rattle.schema_table.specs.Telling.{NamesTellParts}
use Rattle.schema_table.specs.Values.{tree_of}
use Rattle.wire_json.specs.Meant.{MeansText}
use Rattle.wire_json.specs.Parsed.{IsOfType}
use Rattle.wire_json.specs.RoundTrip.{ReadsLine, line_inside}
use Rattle.wire_lib.specs.Resent.{SendsLine, SendsWhatIsRead}
use Rattle.wire_lib.specs.Summed.{message_with}
use Rattle.wire_lib.specs.declared.receive.Reading.{Reading}
use Rattle.wire_lib.specs.declared.send.Sending.{Sending}

-- it has the bytes of the value, since a parser reads that line as this value
pub line_sent : ((schema : Schema) (place : ℕ) → NamesTellParts schema → ReadsLine schema place)
    → (r : Reading) (s : Sending) → NamesTellParts r.schema.now → SendsWhatIsRead r s → SendsLine r s
line_sent reads r s t same v text frame h is sent =
    let means : MeansText r.schema.now s.depth r.place (line_inside text) sent.value =
    subst (λ i. MeansText r.schema.now s.depth i (line_inside text) sent.value) same.1 (subst (λ x. MeansText x s.depth s.place (line_inside text) sent.value) same.0 sent.means) in
    let of_type : IsOfType s.depth r.schema.now.nodes.items r.place sent.value =
    subst (λ i. IsOfType s.depth r.schema.now.nodes.items i sent.value) same.1 (subst (λ x. IsOfType s.depth x.nodes.items s.place sent.value) same.0 sent.of_type) in
    let back : tree_of v ≡ tree_of sent.value = reads r.schema.now r.place t r.hex r.depth s.depth v sent.value text h of_type same.2 is.0 means in
    sent.framed ∙ ap (λ x. frame_for s.sentinel (message_with s.summed (short x)) ++ s.sentinel ∷ []) (sym back)
