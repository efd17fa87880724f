use Rattle.std.proofs.Common.{sym}
use Rattle.std.proofs.lemmas.Result.{err_from_is_err_and}
use Rattle.postcard_de.specs.Parts.{seen_read}
use Rattle.postcard_de.specs.Steps.{no_memory, fails_growing}
use Rattle.postcard_de.proofs.SameLemmas.{read_as}
use Rattle.postcard_de.proofs.containers.read_box.Goals as goal

pub returns-in-Ok : goal.returns-in-Ok
returns-in-Ok g c = seen_read (λ v. v.value) c.in-Ok.boxed (read_as _ c.in_ok-value.ensures (sym c.in-Ok.ensures.ok))

pub returns-in_err-value : goal.returns-in_err-value
returns-in_err-value g c =
    let p = err_from_is_err_and c.from_residual.result c.from_residual.ensures.1 in
    rw (p.1, p.2) (fails_growing c.in_err-value.ensures)

pub returns : goal.returns
returns g c = no_memory g.T.Readable.form.refuses c.in_ok-value.ensures.gave
