use Rattle.sealed.proofs.FoundLemmas.{seal_outcome, pair_fails}
use Rattle.sealed.proofs.keyed.AsKeyedDeserializeFormKeyed.deserialize_form.Goals as goal

pub returns-in-Ok : goal.returns-in-Ok
returns-in-Ok g c =
    let T = g.T.Readable.form in
    seal_outcome g.row.KEY T.takes T.reads g.T.Readable.form.writes T.refuses g.met.T.Exact.writes_back T.growing (λ w. w.0) c.keyed_with.result c.in-Ok.pair.0 c.in-Ok.pair.1.0 g.T.Readable.form.laws.taken
    c.in-Ok.ensures (λ t h. h) c.keyed_with.ensures.ok c.keyed_with.ensures.err

pub returns-in-Err : goal.returns-in-Err
returns-in-Err g c = pair_fails g.row.KEY g.T.Readable.form.takes g.T.Readable.form.refuses g.T.Readable.form.growing c.in-Err.ensures
