use Rattle.tokio_util.specs.Codec.Framed.{reading_side}
use Rattle.link_codec.proofs.WholeLemmas.{answered_beside}
use Rattle.link_codec.proofs.laws.framed_answered_whole.Goals as goal

pub returns : goal.returns
returns g c = answered_beside g.M.MessageReader.judging g.S.AsyncRead.reads g.S.AsyncRead.is_at_end g.S.AsyncRead.fails g.met.S.AsyncRead.reads_in_order (λ c. c.decoder) (λ c. c.encoder) (reading_side c.args.framed.now)
