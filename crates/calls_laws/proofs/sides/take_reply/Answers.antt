use Rattle.std.proofs.Common.{[], refl}
use Rattle.link.specs.Lemmas.Givens.{none_given}
use Rattle.calls.specs.ServedLaws.{which as inside}
use Rattle.calls_laws.proofs.StepsLemmas.{heard_of, takes_reply}
use Rattle.calls_laws.proofs.sides.take_reply.Goals as goal

pub returns : goal.returns
returns g c =
    let s = c.args.sentinel in
    let judging = g.M.MessageReader.judging c.args.messages.now in
    let h = c.wait_with-ended.ensures.heard in
    takes_reply judging.holds judging.reads g.row.L s _ _ c.args.replies.now h.adds.answers refl h.adds.heard.0
    (heard_of _ judging.holds judging.reads g.row.L s _ h.bytes h.adds.answers c.wait_with-ended.result _ _ _ _ _ _ _ (inside c.new-reader.ensures.to_come) h.read
    (h.adds.so g.row.L s [] [] (record { after = c.new_with_sentinel-receiver.ensures.after; given = none_given judging.holds judging.reads g.row.L s })))
