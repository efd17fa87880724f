use Rattle.tokio_util.specs.Codec.Framed.{framed_read}
use Rattle.link_codec.proofs.WholeLemmas.{answered_whole}
use Rattle.link_codec.proofs.laws.answered_whole.Goals as goal

pub returns : goal.returns
returns g c = answered_whole g.M.MessageReader.judging g.R.AsyncRead.reads g.R.AsyncRead.is_at_end g.R.AsyncRead.fails g.met.R.AsyncRead.reads_in_order (framed_read c.args.reader.now)
