use Rattle.std.proofs.Common.{refl, inr, arith}
use Rattle.postcard_tree.specs.Tree.{text_of}
use Rattle.link.specs.Run.{completed, refused}
use Rattle.framed_lib.proofs.FramingLemmas.{short-framed, long-unframed}
use Rattle.framed_lib.proofs.framing.is_sendable.Goals as goal

pub returns-then-line-ge-LIMIT : goal.returns-then-line-ge-LIMIT
returns-then-line-ge-LIMIT c = (refused, inr (long-unframed c.frame_lengths.ensures c.args.line.now (omega arith)), refl)

pub returns-in-Some : goal.returns-in-Some
returns-in-Some c =
    let text = c.in-Some.ensures in
    (completed (text_of c.args.line.now), (refl, text.1, short-framed c.frame_lengths.ensures c.args.line.now (omega arith)), refl)
