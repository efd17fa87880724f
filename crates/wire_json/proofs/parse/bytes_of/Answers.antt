use Rattle.wire_json.proofs.LeafRefusals.{array_seen}
use Rattle.wire_json.proofs.parse.bytes_of.Goals as goal

pub returns-in-Array-clause-means : goal.returns-in-Array-clause-means
returns-in-Array-clause-means c = rw (array_seen c.args.json.now c.in-Array.elements c.in-Array.is) (rw c.deref.ensures.value at c.bytes_of_numbers.ensures.means)

pub returns-in-Array-clause-refused : goal.returns-in-Array-clause-refused
returns-in-Array-clause-refused c = rw (array_seen c.args.json.now c.in-Array.elements c.in-Array.is) (rw c.deref.ensures.value at c.bytes_of_numbers.ensures.refused)
