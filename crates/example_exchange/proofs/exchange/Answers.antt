use Rattle.std.proofs.Common.{Some, true, sym, ap, ◌∙◌, arith, List, ◌∷◌, ◌++◌, []}
use Rattle.line_io.specs.Memory.{owned_bytes}
use Rattle.line_io.specs.declared.memory.owned.OwnedOut.{OwnedOut}
use Rattle.link.specs.declared.receiver.Answer.{Answer}
use Rattle.link.specs.declared.receiver.Answer.TheVariants.{Value}
use Rattle.link_laws.specs.Sessions.{sent_whole, sent_in_part, none_sent, then_sent, no_session, then_session, heard_of_line, heard_is, out_at_most, told_before, told_inside, told_behind}
use Rattle.example_exchange.specs.declared.reading.Reading.{Reading}
use Rattle.example_exchange.proofs.exchange.Goals as goal

pub returns : goal.returns
returns c =
    let law = c.carries.ensures in
    let held = λ (o : OwnedOut). Some (owned_bytes o) in
    let empty = ap held c.new-sender.ensures.writer ∙ c.new-2.ensures.written ∙ ap Some c.new.ensures.items in
    let wrote = sym (ap held c.into_inner-out.ensures) ∙ c.into_bytes-bytes.ensures in
    let comes = c.new-3.ensures.to_come ∙ ap Some c.deref.ensures.value in
    record {
      whole = λ ok1 ok2 ok3 ends.
          let x = sent_whole law c.args.a.now c.send-first.ensures.sent ok1 in
          let y = sent_whole law c.args.b.now c.send-second.ensures.sent ok2 in
          let z = sent_whole law c.args.c.now c.send-third.ensures.sent ok3 in
          let session = then_sent x.1 c.send-first.ensures.sent.sentinel (then_sent y.1 c.send-second.ensures.sent.sentinel (then_sent z.1 c.send-third.ensures.sent.sentinel none_sent)) in
          let run = then_session c.new-sender.ensures.sentinel c.new-sender.ensures.clean session no_session in
          heard_is c.alike.ensures (heard_of_line law _ _ _ _ c.receive-answers.result.answers run c.receive-answers.ensures.received (omega arith) empty wrote comes ends);
      broken = λ ok1 line ok3 ends.
          let x = sent_whole law c.args.a.now c.send-first.ensures.sent ok1 in
          let y = sent_in_part law c.args.b.now c.send-second.ensures.sent line in
          let z = sent_whole law c.args.c.now c.send-third.ensures.sent ok3 in
          let session = then_sent x.1 c.send-first.ensures.sent.sentinel (then_sent y.2 c.send-second.ensures.sent.sentinel (then_sent z.1 c.send-third.ensures.sent.sentinel none_sent)) in
          let run = then_session c.new-sender.ensures.sentinel c.new-sender.ensures.clean session no_session in
          let told = heard_is c.alike.ensures (heard_of_line law _ _ _ _ c.receive-answers.result.answers run c.receive-answers.ensures.received (omega arith) empty wrote comes ends) in
          let front = λ (later : List (Answer Reading)). (Value c.args.a.now ∷ later) ++ [] in
          record {
            tree = y.0;
            writes_it = y.2.of.1;
            out = y.1;
            at_most = out_at_most 0 true y.0 y.1 run.is.0.1.0.1;
            where_none = λ e. told ∙ ap front (told_before 0 true c.args.b.now c.args.c.now y.0 z.0 y.1 [] [] e);
            where_some = λ l m. told ∙ ap front (told_inside 0 true c.args.b.now c.args.c.now y.0 z.0 y.1 [] [] l m);
            where_whole = λ l e. told ∙ ap front (told_behind 0 true c.args.b.now c.args.c.now y.0 z.0 y.1 [] [] l (omega (arith, e)));
          };
    }
