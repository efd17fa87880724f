use Rattle.std.proofs.Common.{ℕ, List, refl, subst}
use Rattle.std.specs.List.{AllZip}
use Rattle.postcard_tree.specs.Tree.{Tree}
use Rattle.link.specs.Run.{told}
use Rattle.link.specs.Pushes.{Matches}
use Rattle.link.specs.Laws.{IsTold}
use Rattle.link_laws.specs.Answered.{IsToldAs}
use Rattle.link.specs.declared.receiver.Answer.{Answer}
use Rattle.link_laws.proofs.told_as.Goals as goal

as_values : {V : Type 0} (takes : Tree → Type 0) (holds : List ℕ → Tree → Type 0) (reads : Tree → V → Type 0) (answers : List (Answer V)) (limit s : ℕ)
    → IsTold takes holds limit s → IsToldAs takes holds reads answers limit s
as_values takes holds reads answers limit s k run h = (
  λ a. subst (λ vs. AllZip (Matches reads) answers vs) ((k run a.verdicts h).0 a.all) a.matching,
  λ m. record { verdicts = told s run; all = (k run (told s run) h).1 refl; matching = m },
)

pub returns-clause-ordinary : goal.returns-clause-ordinary
returns-clause-ordinary g c limit s = as_values g.T.Readable.form.takes _ g.T.Readable.form.reads c.args.answers.now limit s (c.told.ensures.ordinary limit s)

pub returns-clause-strict : goal.returns-clause-strict
returns-clause-strict g c limit s = as_values g.T.Readable.form.takes _ g.T.Readable.form.reads c.args.answers.now limit s (c.told.ensures.strict limit s)
