use Rattle.std.proofs.Common.{◌≡◌, sym, ◌∙◌, ap, length, take, rules}
use Rattle.cobs.specs.InPlace.{stretch}
use Rattle.cobs.specs.Sentinel.{masked}
use Rattle.cobs.specs.Whole.{message_of_stretch}
use Rattle.cobs.proofs.WholesLemmas.{refilled, vector_whole}
use Rattle.cobs.proofs.dec.in_place.decode_copied.Goals as goal

pub returns-in-Ok-decode_by : goal.returns-in-Ok-decode_by
returns-in-Ok-decode_by g c =
    let d = c.decode_by in
    let v = c.in-Ok.copied in
    let same : v.items ≡ c.args.bytes.now = search rules in
    let ensured = rw c.as_mut_slice.ensures.value at d.ensures in
    let whole = vector_whole c.args.sentinel v.items c.in-Ok-decode_by.report d.new.buf c.truncate.new.self.items (sym c.in-Ok-decode_by.is ∙ ensured.answer) ensured.buffer
    (c.truncate.ensures.items ∙ ap (take c.frame_size.result) (refilled v.len v.items d.new.buf v.ok.0 (d.auto.buf ∙ ap length c.as_mut_slice.ensures.value)) ∙ ap (λ n. take n d.new.buf) c.frame_size.ensures) in
    ap (λ b. message_of_stretch (stretch (masked c.args.sentinel b))) (sym same) ∙ whole
