use Rattle.std.proofs.Common.{arith}
use Rattle.records.proofs.SettlingLemmas.{none_appended}
use Rattle.records.proofs.appending.append_lines.Goals as goal

pub loop-lines-init : goal.loop-lines-init
loop-lines-init g c = record {
  appended = none_appended _ _;
  group = (omega (arith, c.new.ensures.first, c.new.ensures.behind), c.new.ensures.behind);
  safe = λ settles empty. settles;
}
