use Rattle.postcard_tree.specs.ByteSlices.{bytes_alike}
use Rattle.example_by_hand.proofs.laws.ref_struct.Goals as goal

pub returns-clause-alike : goal.returns-clause-alike
returns-clause-alike c = λ v w. (
  (λ h. ((bytes_alike v.bytes.now w.bytes.now).0 h.0, h.1)),
  (λ h. ((bytes_alike v.bytes.now w.bytes.now).1 h.0, h.1)),
)
