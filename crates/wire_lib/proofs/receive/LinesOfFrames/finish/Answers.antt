use Rattle.std.proofs.Common.{codes, is_some, refl, sym, ap, subst, ◌∙◌}
use Rattle.link.specs.Stream.{begun}
use Rattle.link.specs.declared.receiver.Answer.TheVariants as answer
use Rattle.wire_lib.specs.Said.{SaysLine, stretch_line}
use Rattle.wire_lib.proofs.ToldLemmas.{ends_badly, ends_well}
use Rattle.wire_lib.proofs.LineLemmas.{none_at_end, cut_at_end}
use Rattle.wire_lib.proofs.receive.LinesOfFrames.finish.Goals as goal

pub returns-then-is_some-clause-good : goal.returns-then-is_some-clause-good
returns-then-is_some-clause-good c passed stream h =
    let s = c.args.self.reading.sentinel in ends_badly c.args.self.is_good (begun 65536 s stream)
    (ap is_some (sym (c.finish.ensures 65536 s stream h.after)) ∙ sym c.is_some.ensures
    ∙ c.if-is_some.true)

pub returns-clause-good : goal.returns-clause-good
returns-clause-good c passed stream h =
    let s = c.args.self.reading.sentinel in ends_well c.args.self.is_good (begun 65536 s stream)
    (ap is_some (sym (c.finish.ensures 65536 s stream h.after)) ∙ sym c.is_some.ensures
    ∙ c.if-is_some.false)

pub returns-then-is_some-clause-told : goal.returns-then-is_some-clause-told
returns-then-is_some-clause-told c passed stream h =
    let r = c.args.self.reading in
    let s = r.sentinel in
    let at = c.args.self.at in
    let n = c.begun_bytes-begun.result in
    let from = c.saturating_sub-from.result in
    let lines = c.args.lines.now.items in
    let lines' = c.put_stretch_line.new.lines.items in
    let says : SaysLine r answer.Cut from at lines lines' = record {
      line = stretch_line (codes "cut") from at;
      is = refl;
      appended = c.in_ok-put_stretch_line.ensures.line;
    } in
    cut_at_end r passed at n stream lines lines' (begun 65536 s stream) refl
    (ap is_some (sym (c.finish.ensures 65536 s stream h.after)) ∙ sym c.is_some.ensures
    ∙ c.if-is_some.true)
    (c.begun_bytes-begun.ensures 65536 s stream h.after) h.came
    (subst (λ x. SaysLine r answer.Cut x at lines lines') c.saturating_sub-from.ensures says)

pub returns-clause-told : goal.returns-clause-told
returns-clause-told c passed stream h =
    let r = c.args.self.reading in
    let s = r.sentinel in
    none_at_end r passed stream c.args.lines.now.items (begun 65536 s stream)
    (ap is_some (sym (c.finish.ensures 65536 s stream h.after)) ∙ sym c.is_some.ensures
    ∙ c.if-is_some.false)
