use Rattle.postcard_de.specs.Runs.{text_made}
use Rattle.postcard_de.proofs.text.OwnDeserializeFormRefSliceU8RefStr.deserialize_form.Goals as goal

pub from_utf8_unchecked-text-requires : goal.from_utf8_unchecked-text-requires
from_utf8_unchecked-text-requires g c = c.in_ok-bytes.ensures.found.1

pub returns : goal.returns
returns g c = text_made (λ v. v.now) (λ v. v.now) c.from_utf8_unchecked-text.ensures c.in_ok-bytes.ensures
