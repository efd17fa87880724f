use Rattle.postcard.proofs.TripsLemmas.{back_alike, back_memory}
use Rattle.postcard.proofs.laws.back.read_back.Goals as goal

pub returns-clause-alike : goal.returns-clause-alike
returns-clause-alike g c =
    λ s r m h. back_alike g.T.Readable.form.laws c.short_is_a_spelling.ensures c.args.v.now s (g.T.Readable.form.writes c.args.v.now) r
    (λ t e. g.met.T.Lawful.reads_back c.args.v.now t c.requires e) m h

pub returns-clause-memory : goal.returns-clause-memory
returns-clause-memory g c =
    λ s r m only. back_memory g.T.Readable.form.laws c.short_is_a_spelling.ensures c.args.v.now s (g.T.Readable.form.writes c.args.v.now) g.T.Readable.form.growing r
    (λ t e. g.met.T.Lawful.reads_back c.args.v.now t c.requires e) m only
