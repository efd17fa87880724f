use Rattle.link_laws.proofs.as_sent.Goals as goal

pub returns : goal.returns
returns g c t e r = g.T.Readable.form.laws.one_value t c.args.sent.now c.args.answered.now (g.met.T.Lawful.reads_back c.args.sent.now t c.requires e) r
