use Rattle.std.proofs.Common.{arith, string_bytes}
use Rattle.std.proofs.lemmas.Result.{err_from_is_err_and}
use Rattle.postcard_de.specs.Runs.{short_text_fails}
use Rattle.schemas.proofs.TopsLemmas.{text_up_to_by, text_too_long}
use Rattle.schemas.proofs.read.read_text_up_to.Goals as goal

pub returns-in_err-text : goal.returns-in_err-text
returns-in_err-text g c =
    let p = err_from_is_err_and c.from_residual.result c.from_residual.ensures.1 in
    rw (p.1, p.2) (short_text_fails c.args.most c.in_err-text.ensures.reads)

pub returns-then-len-most : goal.returns-then-len-most
returns-then-len-most g c = text_too_long c.args.most string_bytes c.in_ok-text.text (omega arith) c.in_ok-text.ensures.reads

pub returns : goal.returns
returns g c = text_up_to_by c.args.most c.in_ok-text.text (omega arith) c.in_ok-text.ensures.reads
