use Rattle.std.proofs.Common.{sym}
use Rattle.std.proofs.lemmas.Result.{err_from_is_err_and}
use Rattle.postcard_tree.specs.Variants.{one_by_one}
use Rattle.postcard_de.specs.Parts.{seen_read}
use Rattle.postcard_de.proofs.SameLemmas.{read_as}
use Rattle.postcard_de.proofs.variants.read_four_at.Goals as goal

pub returns-in_err-it : goal.returns-in_err-it
returns-in_err-it g c =
    let p = err_from_is_err_and c.from_residual.result c.from_residual.ensures.1 in
    rw (p.1, p.2) c.in_err-it.ensures

pub returns : goal.returns
returns g c = seen_read one_by_one _ (read_as _ c.in_ok-it.ensures (sym c.four_at_once.ensures))
