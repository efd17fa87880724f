use Rattle.std.proofs.Common.{Some, false, sym, ap, ◌∙◌, arith, List, [], ◌++◌}
use Rattle.line_io.specs.Memory.{owned_bytes}
use Rattle.line_io.specs.declared.memory.owned.OwnedOut.{OwnedOut}
use Rattle.link.specs.Run.{frame_bytes}
use Rattle.link.specs.declared.receiver.Answer.{Answer}
use Rattle.link_laws.specs.Sessions.{sent_whole, sent_in_part, none_sent, then_sent, no_session, then_session, heard_of_line, heard_is, out_at_most, told_before, told_inside, told_behind}
use Rattle.example_exchange.specs.declared.reading.Reading.{Reading}
use Rattle.example_exchange.proofs.send_again.Goals as goal

pub returns : goal.returns
returns c line ok ends =
    let law = c.carries.ensures in
    let held = λ (o : OwnedOut). Some (owned_bytes o) in
    let empty = ap held c.new-sender.ensures.writer ∙ c.new-line.ensures.written ∙ ap Some c.new.ensures.items in
    let wrote = sym (ap held c.into_inner-out.ensures) ∙ c.into_bytes-bytes.ensures in
    let comes = c.new-2.ensures.to_come ∙ ap Some c.deref.ensures.value in
    let v = c.args.reading.now in
    let x = sent_in_part law v c.send-first.ensures.sent line in
    let y = sent_whole law v c.send-second.ensures.sent ok in
    let run = then_session c.new-sender.ensures.sentinel c.new-sender.ensures.clean (then_sent x.2 c.send-first.ensures.sent.sentinel (then_sent y.1 c.send-second.ensures.sent.sentinel none_sent)) no_session in
    let told = heard_is c.alike.ensures (heard_of_line law _ _ _ _ c.receive-answers.result.answers run c.receive-answers.ensures.received (omega arith) empty wrote comes ends) in
    let alone = λ (answers : List (Answer Reading)). answers ++ [] in
    record {
      tree = x.0;
      writes_it = x.2.of.1;
      out = frame_bytes false x.1;
      at_most = out_at_most 0 false x.0 x.1 run.is.0.0.1;
      where_none = λ e. told ∙ ap alone (told_before 0 false v v x.0 y.0 x.1 [] [] e);
      where_some = λ l m. told ∙ ap alone (told_inside 0 false v v x.0 y.0 x.1 [] [] l m);
      where_whole = λ l e. told ∙ ap alone (told_behind 0 false v v x.0 y.0 x.1 [] [] l (omega (arith, e)));
    }
