use Rattle.std.proofs.Common.{◌≤◌, ◌<◌, arith}
use Rattle.calls.specs.Calls.{next_of}
use Rattle.calls.specs.ServedLaws.{rises}
use Rattle.calls.proofs.RepliesLemmas.{below, above}
use Rattle.calls.proofs.laws.settles.Goals as goal

pub returns : goal.returns
returns g c equal passes kept mid later qs qs' log log' out out' n r small before behind i e j =
    let low : n < next_of mid = below equal passes before (n, r) small i in
    let high : next_of mid ≤ e.number = above (next_of mid) log' (rises behind).0 e j in
    omega arith
