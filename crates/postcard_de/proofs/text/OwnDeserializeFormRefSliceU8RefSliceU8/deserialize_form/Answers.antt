use Rattle.postcard_de.specs.Runs.{bytes_read, each_fails}
use Rattle.postcard_de.proofs.SameLemmas.{outcome_by}
use Rattle.postcard_de.proofs.text.OwnDeserializeFormRefSliceU8RefSliceU8.deserialize_form.Goals as goal

pub returns : goal.returns
returns g c = outcome_by c.deserialize_bytes.result (λ v h. bytes_read (λ v. v.now) h) (λ e h. each_fails h) c.deserialize_bytes.ensures
