use Rattle.std.proofs.Common.{ℕ, ◌≡◌, refl}
use Rattle.postcard_tree.specs.Bounds.{width_64}
use Rattle.postcard_tree.specs.Reading.{TakesNumber, ReadsNumber, RefusesGroups}
use Rattle.postcard_tree.specs.ReadingLaws.{ReadingLaws, number_laws}
use Rattle.calls_laws.proofs.EchoLemmas.{no_request, no_reply}
use Rattle.calls_laws.proofs.echo.told_apart.Goals as goal

numbers : ReadingLaws {A = ℕ} (TakesNumber 64) (ReadsNumber 64) (RefusesGroups 10 1) (λ v w. v ≡ w)
numbers = number_laws 64 9 1 width_64 refl refl

pub returns-clause-server : goal.returns-clause-server
returns-clause-server g c = no_request (TakesNumber 64) (ReadsNumber 64) numbers.taken numbers.once numbers.one_value g.row.K g.row.L g.Q.Readable.form.reads g.R.Readable.form.reads

pub returns-clause-client : goal.returns-clause-client
returns-clause-client g c = no_reply (TakesNumber 64) (ReadsNumber 64) numbers.taken numbers.once numbers.one_value g.row.K g.row.L g.Q.Readable.form.reads g.R.Readable.form.reads
