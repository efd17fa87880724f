use Rattle.link_laws.specs.Values.{runs_of}
use Rattle.link_laws.proofs.ValuedLemmas.{told_alike}
use Rattle.link_laws.proofs.told_by_values.Goals as goal

pub returns-clause-ordinary : goal.returns-clause-ordinary
returns-clause-ordinary g c limit s run h k a =
    told_alike g.T.Readable.form.reads g.T.Readable.form.alike g.T.Readable.form.writes g.T.Readable.form.valid
    (λ v w t l e r. g.T.Readable.form.laws.one_value t v w (g.met.T.Lawful.reads_back v t l e) r)
    s run c.args.answers.now k ((c.told_as.ensures.ordinary limit s (runs_of run) h).0 a)

pub returns-clause-strict : goal.returns-clause-strict
returns-clause-strict g c limit s run h k a =
    told_alike g.T.Readable.form.reads g.T.Readable.form.alike g.T.Readable.form.writes g.T.Readable.form.valid
    (λ v w t l e r. g.T.Readable.form.laws.one_value t v w (g.met.T.Lawful.reads_back v t l e) r)
    s run c.args.answers.now k ((c.told_as.ensures.strict limit s (runs_of run) h).0 a)
