use Rattle.std.proofs.Common.{◌++◌, ◌&&◌, ap, drop, subst, sym, ◌∙◌}
use Rattle.wire_lib.specs.Received.{HasGot, are_all_values, reading_of, skip_of}
use Rattle.std.proofs.lemmas.Result.{on_ok_weaker, on_err_weaker}
use Rattle.wire_lib.proofs.LineLemmas.{tells_as}
use Rattle.wire_lib.proofs.receive.LinesOfFrames.push.Goals as goal

pub returns-clause-told : goal.returns-clause-told
returns-clause-told c = on_ok_weaker c.push_all.result (λ told passed stream answers h.
    let b = c.behind_skipped-rest in
    let next = told passed stream answers (b.ensures.told passed stream answers h) in (
      next.0,
      subst (λ x. HasGot c.push_all.new.self passed (stream ++ x) (answers ++ next.0))
          b.ensures.rest next.1,
      next.2 ∙ ap (λ x. x && are_all_values next.0) b.ensures.good,
      tells_as (reading_of b.new.self) (reading_of c.args.self.now) passed stream b.result.now
          (drop (skip_of c.args.self.now) c.args.piece.now) answers next.0 c.args.lines.now.items
          c.push_all.new.lines.items
          b.ensures.reading b.ensures.rest next.3,
    )) c.push_all.ensures.told

pub returns-clause-stopped : goal.returns-clause-stopped
returns-clause-stopped c = on_err_weaker c.push_all.result (λ stopped passed stream answers h.
    let b = c.behind_skipped-rest in
    let next = stopped passed stream answers (b.ensures.told passed stream answers h) in (
      next.0,
      next.1,
      sym b.ensures.rest ∙ next.2,
      next.3,
      next.4,
      tells_as (reading_of b.new.self) (reading_of c.args.self.now) passed stream b.result.now
          (drop (skip_of c.args.self.now) c.args.piece.now) answers next.3 c.args.lines.now.items
          c.push_all.new.lines.items
          b.ensures.reading b.ensures.rest next.5,
    )) c.push_all.ensures.stopped
