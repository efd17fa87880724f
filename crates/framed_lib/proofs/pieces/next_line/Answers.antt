use Rattle.std.proofs.Common.{◌≡◌, ◌<◌, ◌+◌, ◌∷◌, length, ap, ◌∙◌, arith, length-append}
use Rattle.framed_lib.specs.Sending.{lines_in}
use Rattle.framed_lib.proofs.SendingLemmas.{lines-more, lines-last, utf8-cut}
use Rattle.framed_lib.proofs.pieces.next_line.Goals as goal

pub returns-in-Some-clause-line : goal.returns-in-Some-clause-line
returns-in-Some-clause-line c =
    let cut = c.in-Some.ensures in
    let longer : length c.args.text.now ≡ length c.in-Some.line.now + length (10 ∷ c.in-Some.after.now) =
    ap length cut.0 ∙ length-append c.in-Some.line.now (10 ∷ c.in-Some.after.now) in
    let fewer : length c.in-Some.after.now < length c.args.text.now = omega arith in
    (ap lines_in cut.0 ∙ lines-more c.in-Some.line.now c.in-Some.after.now cut.1, fewer)

pub returns-in-None-clause-line : goal.returns-in-None-clause-line
returns-in-None-clause-line c =
    let some : 0 < length c.args.text.now = grind arith in
    (lines-last _ c.in-None.ensures some, some)

pub returns-in-Some-clause-utf8 : goal.returns-in-Some-clause-utf8
returns-in-Some-clause-utf8 c = λ u. utf8-cut c.in-Some.line.now c.in-Some.after.now (rw c.in-Some.ensures.0 at u)
