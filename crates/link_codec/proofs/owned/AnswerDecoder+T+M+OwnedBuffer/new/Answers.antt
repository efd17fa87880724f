use Rattle.std.proofs.Common.{[]}
use Rattle.link_codec.proofs.owned.AnswerDecoder+T+M+OwnedBuffer.new.Goals as goal

pub returns : goal.returns
returns g c = c.with.ensures.given c.args.limit c.args.sentinel [] c.in_ok-receiver.ensures.after
