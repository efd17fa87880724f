use Rattle.link.specs.Lemmas.SendLaws.{runs_joined, lines_joined}
use Rattle.link_laws.proofs.CrashesLemmas.{line_of_left, run_left, tried_left}
use Rattle.link_laws.proofs.left.Goals as goal

pub returns-clause-front : goal.returns-clause-front
returns-clause-front g c limit s run k d = record {
  bytes = line_of_left s k run;
  is_run = run_left g.T.Readable.form.takes limit s k run d;
  tried_before = tried_left s k run;
}

pub returns-clause-goes_on : goal.returns-clause-goes_on
returns-clause-goes_on g c limit s run later d e = record {
  is_run = runs_joined g.T.Readable.form.takes limit s run later d e;
  bytes = lines_joined s run later;
}
