use Rattle.postcard_de.specs.Deserializer.{flavor_of}
use Rattle.example_by_hand.proofs.chain.+read_chain.Given as goal

abbrev pub decreases-read_chain : goal.decreases-read_chain
decreases-read_chain g l = (g.F.Flavor.source (flavor_of l.d.now)).limit
