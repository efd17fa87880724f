use Rattle.postcard.specs.Frames.{Holds}
use Rattle.link.specs.Stream.{HoldsExactly}
use Rattle.calls_laws.proofs.FrontsLemmas.{heard_tried, run_writes}
use Rattle.calls_laws.proofs.heard.heard_was_sent.Goals as goal

pub returns-clause-ordinary : goal.returns-clause-ordinary
returns-clause-ordinary g c limit s run answers front rest is of parts received w i =
    let takes = g.T.Readable.form.takes in
    let t = heard_tried takes (Holds takes) limit s (c.told.ensures.ordinary limit s) (c.between.ensures.ordinary limit s) (c.left.ensures.front limit s) (c.over_pieces.ensures.ordinary limit s) (c.one_answer.ensures.ordinary limit s) (c.start_anywhere.ensures.ordinary limit s) g.T.Readable.form.reads _ front rest answers is parts received w i in
    let v = run_writes g.T.Readable.form.writes g.T.Readable.form.valid run of t.0 t.1 in
    (v.0, v.1, g.T.Readable.form.laws.one_value t.0 v.0 w (g.met.T.Lawful.reads_back v.0 t.0 v.2 v.3) t.2)

pub returns-clause-strict : goal.returns-clause-strict
returns-clause-strict g c limit s run answers front rest is of parts received w i =
    let takes = g.T.Readable.form.takes in
    let t = heard_tried takes (HoldsExactly takes) limit s (c.told.ensures.strict limit s) (c.between.ensures.strict limit s) (c.left.ensures.front limit s) (c.over_pieces.ensures.strict limit s) (c.one_answer.ensures.strict limit s) (c.start_anywhere.ensures.strict limit s) g.T.Readable.form.reads _ front rest answers is parts received w i in
    let v = run_writes g.T.Readable.form.writes g.T.Readable.form.valid run of t.0 t.1 in
    (v.0, v.1, g.T.Readable.form.laws.one_value t.0 v.0 w (g.met.T.Lawful.reads_back v.0 t.0 v.2 v.3) t.2)
