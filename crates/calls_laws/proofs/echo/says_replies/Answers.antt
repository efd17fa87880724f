use Rattle.calls_laws.proofs.SaysLemmas.{says_replies}
use Rattle.calls_laws.proofs.echo.says_replies.Goals as goal

pub returns : goal.returns
returns g c = says_replies g.row.K g.A.Application.executes g.A.Application.passes
