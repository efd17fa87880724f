use Rattle.std.proofs.Common.{◌≡◌, ◌<◌, ◌+◌, true, sym, ◌∙◌, arith}
use Rattle.std.proofs.lemmas.Bool.{lt-ltb}
use Rattle.framed_lib.specs.Sending.{is_whole}
use Rattle.framed_lib.proofs.FramingLemmas.{led}
use Rattle.framed_lib.proofs.framing.frame_line.Goals as goal

pub returns-in_default-clause-sent : goal.returns-in_default-clause-sent
returns-in_default-clause-sent c =
    let sent = c.frame_clean-2.ensures.sent in
    let n = c.frame_clean-2.result in
    let some : 0 < n = omega (arith, c.in_default) in
    let whole : is_whole sent.0 ≡ true = sent.3 ∙ lt-ltb 0 n some in
    (sent.0, sent.1, rw c.if-clean.false (led c.args.sentinel n _ c.args.room.now c.frame_clean-2.new.room c.args.line.now sent.0 (omega (arith, c.requires.room)) c.frame_clean-2.ensures.within sent.1 whole sent.2), whole ∙ sym (lt-ltb 0 (n + 1) (omega arith)))
