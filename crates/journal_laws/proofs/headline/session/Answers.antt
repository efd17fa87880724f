use Rattle.journal_laws.proofs.GoingLemmas.{both_some, goes_on}
use Rattle.journal_laws.proofs.headline.session.Goals as goal

pub returns-in-Ok : goal.returns-in-Ok
returns-in-Ok g c =
    both_some c.append_all.result c.append_all.ensures.all c.append_all.ensures.numbers
    (λ j all numbers any events framed is e. (
    let o = c.in-Ok.ensures any events framed is e in
    goes_on g.T.Readable.form g.row.N (c.bytes.ensures g.row.N 0) any events _ _ _ framed is o.bytes o.next_is all numbers))
