use Rattle.postcard.specs.Frames.{Holds}
use Rattle.link.specs.Stream.{HoldsExactly, IsAnswer}
use Rattle.link_laws.proofs.StepwiseLemmas.{heard_stepwise, unfinished_part}
use Rattle.link_laws.proofs.stepwise.Goals as goal

pub returns : goal.returns
returns g c = record {
  ordinary = λ limit. heard_stepwise (IsAnswer (Holds g.T.Readable.form.takes) limit);
  strict = λ limit. heard_stepwise (IsAnswer (HoldsExactly g.T.Readable.form.takes) limit);
  unfinished = unfinished_part;
}
