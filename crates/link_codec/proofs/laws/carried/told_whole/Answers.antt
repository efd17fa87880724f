use Rattle.std.proofs.Common.{subst}
use Rattle.std.specs.List.{AllZip}
use Rattle.link.specs.Pushes.{Matches}
use Rattle.link.specs.Stream.{Answers}
use Rattle.postcard.specs.Frames.{Holds}
use Rattle.link_codec.specs.Whole.{answers_of}
use Rattle.link_codec.proofs.laws.carried.told_whole.Goals as goal

pub returns : goal.returns
returns g c limit s items run is_run y =
    let all = c.answered_whole.ensures limit s items y.final y.begins y.oks y.yields in
    let heard = all.4 in
    let same = y.brings all.0 all.1 all.2 all.3 in
    subst (λ vs. AllZip (Matches g.T.Readable.form.reads) (answers_of items) vs)
    ((c.told.ensures.ordinary limit s run heard.verdicts is_run).0 (subst (λ x. Answers (Holds g.T.Readable.form.takes) limit s x heard.verdicts) same heard.all)) heard.matching
