use Rattle.std.proofs.Common.{sym, subst}
use Rattle.link_laws.specs.Crashes.{LiesBetween}
use Rattle.link.specs.Roads.{values_of}
use Rattle.link_laws.proofs.CrashesLemmas.{lies_between}
use Rattle.link_laws.proofs.between.Goals as goal

pub returns-clause-ordinary : goal.returns-clause-ordinary
returns-clause-ordinary g c limit s run answers d h =
    subst (λ vs. LiesBetween run (values_of vs)) (sym ((c.told.ensures.ordinary limit s run answers d).0 h)) (lies_between s run)

pub returns-clause-strict : goal.returns-clause-strict
returns-clause-strict g c limit s run answers d h =
    subst (λ vs. LiesBetween run (values_of vs)) (sym ((c.told.ensures.strict limit s run answers d).0 h)) (lies_between s run)
