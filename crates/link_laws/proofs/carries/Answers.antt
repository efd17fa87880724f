use Rattle.std.proofs.Common.{◌≡◌, ℕ, List, Option, Some, subst}
use Rattle.std.specs.List.{AllZip}
use Rattle.postcard_tree.specs.Tree.{Tree}
use Rattle.postcard.specs.Frames.{Holds}
use Rattle.link.specs.Stream.{HoldsExactly}
use Rattle.link.specs.Laws.{IsTold}
use Rattle.link.specs.Pushes.{Matches}
use Rattle.link_laws.specs.Values.{runs_of}
use Rattle.link_laws.specs.Sessions.{HearsRuns}
use Rattle.link_laws.proofs.ValuedLemmas.{told_alike}
use Rattle.link_laws.proofs.carries.Goals as goal

-- what is told of the run of a type's values is told of it by values
hears : {V : Type 0} (takes : Tree → Type 0) (reads : Tree → V → Type 0) (alike : V → V → Type 0) (writes : V → Option Tree) (valid : V → Type 0) → ((v w : V) (t : Tree) → valid v → writes v ≡ Some t → reads t w → alike v w)
    → (holds : List ℕ → Tree → Type 0) → ((limit s : ℕ) → IsTold takes holds limit s) → HearsRuns takes holds reads alike writes valid
hears takes reads alike writes valid same holds told limit s run answers is of a =
    let heard = subst (λ vs. AllZip (Matches reads) answers vs) ((told limit s (runs_of run) a.verdicts is).0 a.all) a.matching in
    record { heard = heard; as_sent = told_alike reads alike writes valid same s run answers of heard }

pub returns : goal.returns
returns g c =
    let by = hears g.T.Readable.form.takes g.T.Readable.form.reads g.T.Readable.form.alike g.T.Readable.form.writes g.T.Readable.form.valid (λ v w t l e r. g.T.Readable.form.laws.one_value t v w (g.met.T.Lawful.reads_back v t l e) r) in
    record {
      taken = λ v t l e. g.T.Readable.form.laws.taken t v (g.met.T.Lawful.reads_back v t l e);
      ordinary = by (Holds g.T.Readable.form.takes) c.told.ensures.ordinary;
      strict = by (HoldsExactly g.T.Readable.form.takes) c.told.ensures.strict;
    }
