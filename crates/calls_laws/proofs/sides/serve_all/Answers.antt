use Rattle.std.proofs.Common.{Some, [], sym, ap, ◌∙◌}
use Rattle.line_io.specs.Memory.{in_bytes}
use Rattle.link.specs.Lemmas.Givens.{none_given}
use Rattle.link.specs.Senders.{writer_of, clean_of, sentinel_of}
use Rattle.calls.specs.Serving.{serving}
use Rattle.calls.specs.ServedLaws.{which as inside}
use Rattle.calls_laws.proofs.StepsLemmas.{serves_line, front_read}
use Rattle.calls_laws.proofs.sides.serve_all.Goals as goal

pub returns : goal.returns
returns g c =
    let made = c.new_with_sentinel-sender.ensures in
    let new = c.new-server.ensures in
    let judging = g.M.MessageReader.judging c.args.messages.now in
    let told = λ (w : g.row.W.Denot). (g.W.Outlet.line w).told in
    let h = c.serve_with-ended.ensures.served in
    serves_line (serving g.A.Application.executes g.Q.PartialEq.eq g.A.Application.passes) _ judging.holds judging.reads g.row.N c.args.sentinel g.row.L c.args.back.sentinel _ _ c.args.requests.now c.into_taken.result.items h.bytes
    (in_bytes c.serve_with-ended.new.reader) c.serve_with-ended.result h.hands.answers h.hands.heard (h.hands.so g.row.N c.args.sentinel [] [] (record { after = c.new_with_sentinel-receiver.ensures.after; given = none_given _ _ g.row.N c.args.sentinel })).0
    (sym (inside c.new-reader.ensures.to_come)
    ∙ front_read (Some c.serve_with-ended.result) _ _ _ _ _ _ h.bytes h.read)
    new.kept
    (ap told (ap writer_of new.sender ∙ made.writer) ∙ c.requires.empty)
    (ap clean_of new.sender ∙ made.clean)
    (ap sentinel_of new.sender ∙ made.sentinel)
    (sym (ap told c.into_inner.ensures) ∙ c.into_taken.ensures)
