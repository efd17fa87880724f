use Rattle.std.proofs.Common.{◌∙◌, sym}
use Rattle.cobs.proofs.finding.before_far.Goals as goal

pub returns-then-sentinel-eq0 : goal.returns-then-sentinel-eq0
returns-then-sentinel-eq0 c = record {
  within = c.before_by_255.ensures.within;
  none = λ k l e. c.before_by_255.ensures.none k l (e ∙ c.if-sentinel-eq0.true);
  end = λ l. c.before_by_255.ensures.end l ∙ sym c.if-sentinel-eq0.true;
}

pub returns-else-sentinel-eq0 : goal.returns-else-sentinel-eq0
returns-else-sentinel-eq0 c = c.before_by_255-else-sentinel-eq0.ensures
