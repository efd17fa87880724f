use Rattle.link_laws.specs.Sessions.{heard_of_run}
use Rattle.link_laws.proofs.headline.receive_values_with_sentinel.Goals as goal

pub returns-clause-values : goal.returns-clause-values
returns-clause-values g c n run l is of comes ends = heard_of_run c.carries.ensures run _ _ _ c.receive_with_sentinel.result.answers l is of c.receive_with_sentinel.ensures.received comes ends

pub returns-clause-received : goal.returns-clause-received
returns-clause-received g c = c.receive_with_sentinel.ensures.received
