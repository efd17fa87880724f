use Rattle.schema_table.proofs.PushedLemmas.{big_written}
use Rattle.schema_table.proofs.write.write_as_big.Goals as goal

pub returns-clause-writes : goal.returns-clause-writes
returns-clause-writes g c = rw (big_written g.T.FixInt.size (g.T.FixInt.bits c.args.n)) at c.serialize.ensures.writes
