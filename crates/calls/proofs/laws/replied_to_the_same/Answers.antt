use Rattle.calls.proofs.RepliesLemmas.{to_the_same}
use Rattle.calls.proofs.laws.replied_to_the_same.Goals as goal

pub returns : goal.returns
returns g c equal passes before log now out said mid later n m q r small served one i =
    to_the_same equal passes (m, r) small served one i
