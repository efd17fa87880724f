use Rattle.std.proofs.Common.{[]}
use Rattle.link_codec.proofs.array.AnswerDecoder+T+M+ArrayBuffer+N.new_with_sentinel.Goals as goal

pub returns : goal.returns
returns g c = c.with.ensures.given g.row.N c.args.sentinel [] c.new_with_sentinel.ensures.after
