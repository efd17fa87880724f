use Rattle.std.proofs.Common.{inl, inr, refl, sym, subst, ◌∙◌}
use Rattle.std.proofs.lemmas.Bool.{and_parts}
use Rattle.std.proofs.lemmas.Result.{on_ok_weaker, on_err_weaker}
use Rattle.line_io.specs.Transfers.{broken}
use Rattle.framed_lib.specs.Lines.{answer_lines}
use Rattle.framed_lib.specs.Output.{WritingByFew}
use Rattle.framed_lib.proofs.OutputLemmas.{put-flush, put-went}
use Rattle.framed_lib.proofs.LinesLemmas.{received, all-same}
use Rattle.framed_lib.proofs.LiveLemmas.{written_live, fault_first}
use Rattle.framed_lib.proofs.WorkLemmas.{is-err}
use Rattle.framed_lib.proofs.unpack.tell_answers.Goals as goal

pub returns-clause-told : goal.returns-clause-told
returns-clause-told g c =
    let h = c.hand_texts-end.ensures.received in
    let t = h.hands.heard in
    let w = c.write_rest-written.result in
    let v = received c.args.strict c.args.sentinel c.hand_texts-end.result h.hands.answers h.bytes h.hands.so.0 h.hands.so.1 in
    let (same, good) = all-same h.hands.answers v.0 v.2 in (
      h.bytes,
      h.read,
      record {
        verdicts = v.0;
        are = v.1;
        values = t.good ∙ good;
        went = rw same at (on_ok_weaker w (λ o. rw c.new.ensures at (put-went (t.went refl o.0) o.1)) c.write_rest-written.ensures.ok);
        broke =
            rw same at (on_err_weaker w (λ o. elim o [
              | inl same ↦ subst (λ x. WritingByFew (g.W.Outlet.line c.args.writer) (g.W.Outlet.line x) broken (answer_lines h.hands.answers)) (sym same.1) (rw c.new.ensures at (t.broke refl same.0))
              | inr broke ↦ rw c.new.ensures at (put-flush (t.went refl broke.0) broke.1)
            ]) c.write_rest-written.ensures.err);
      },
    )

pub returns-clause-live : goal.returns-clause-live
returns-clause-live g c = λ on.
    written_live g.W.Outlet.line c.args.strict c.args.sentinel _ _ _ _ c.hand_texts-end.new.hearer _ c.write_rest-written.result on refl c.new.ensures
    c.hand_texts-end.ensures.received c.write_rest-written.ensures.ok c.write_rest-written.ensures.err

pub returns-clause-stopped : goal.returns-clause-stopped
returns-clause-stopped g c = λ none.
    let h = c.hand_texts-end.ensures.received in
    let k = c.hand_texts-end.new.hearer in
    let both = and_parts k.failed k.live (c.hand_texts-end.ensures.enough none) in
    (sym h.hands.heard.live ∙ both.1, is-err c.write_rest-written.result k.failed both.0 (on_ok_weaker c.write_rest-written.result (λ o. o.0) c.write_rest-written.ensures.ok))

pub returns-clause-first : goal.returns-clause-first
returns-clause-first g c = λ on fault.
    let k = c.hand_texts-end.new.hearer in
    fault_first g.W.Outlet.line k _ c.write_rest-written.result (c.hand_texts-end.ensures.received.hands.heard.live ∙ on) (c.hand_texts-end.ensures.fault fault) (c.hand_texts-end.ensures.settled (λ l. inl c.new.ensures)) c.write_rest-written.ensures.err
