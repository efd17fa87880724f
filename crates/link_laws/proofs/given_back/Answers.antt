use Rattle.std.proofs.Common.{subst}
use Rattle.std.specs.List.{AllZip}
use Rattle.link_laws.specs.Values.{AlikeAnswers}
use Rattle.link_laws.proofs.ValuedLemmas.{completed_run}
use Rattle.link_laws.proofs.given_back.Goals as goal

pub returns-clause-ordinary : goal.returns-clause-ordinary
returns-clause-ordinary g c limit s run h k d a =
    subst (λ l. AllZip (AlikeAnswers g.T.Readable.form.alike) l c.args.answers.now) (completed_run s run d) (c.told_by_values.ensures.ordinary limit s run h k a)

pub returns-clause-strict : goal.returns-clause-strict
returns-clause-strict g c limit s run h k d a =
    subst (λ l. AllZip (AlikeAnswers g.T.Readable.form.alike) l c.args.answers.now) (completed_run s run d) (c.told_by_values.ensures.strict limit s run h k a)
