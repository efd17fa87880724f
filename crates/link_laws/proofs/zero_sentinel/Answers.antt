use Rattle.link.specs.Lemmas.MaskLaws.{unmasked}
use Rattle.link_laws.proofs.zero_sentinel.Goals as goal

pub returns : goal.returns
returns c = unmasked
