use Rattle.schema_table.proofs.PushedLemmas.{little_written}
use Rattle.schema_table.proofs.write.write_as_little.Goals as goal

pub returns-clause-writes : goal.returns-clause-writes
returns-clause-writes g c = rw (little_written g.T.FixInt.size (g.T.FixInt.bits c.args.n)) at c.serialize.ensures.writes
